-- Each written line is a line of the grammar.
use Rattle.std.proofs.Common.{◌≡◌, refl, sym, ℕ, drop, List, [], ◌∷◌, ◌++◌, append-nil, inl}
use Rattle.instruction_set.specs.Slots.{IsListed}
use Rattle.instruction_set.specs.declared.insn.Insn.{Insn}
use Rattle.assembler_text.specs.Text.{Operand, OfRegister, OfImm, OfValue, OfAddress, OfStep, operands_of, operand_text, first_text, others_text, operands_text, text_of}
use Rattle.assembler_text.specs.Grammar.{AreBlanks, IsOperand, AreSeparated, AreOperands, IsInsnLine}

pub first_and_others : (os : List Operand) → first_text os ++ others_text (drop 1 os) ≡ operands_text os
first_and_others [] = refl
first_and_others (o ∷ os) = refl

pub own_operand : (o : Operand) → IsOperand o (operand_text o)
own_operand (OfRegister r) = refl
own_operand (OfImm n) = inl refl
own_operand (OfValue n) = inl refl
own_operand (OfAddress r n) = refl
own_operand (OfStep n) = refl

separated : (before : List ℕ) → AreBlanks before → (o : Operand) (os : List Operand)
    → AreSeparated (before ++ operand_text o ++ others_text os) (o ∷ os)
separated before blank o [] = record {
  before = before;
  word = operand_text o;
  behind = [];
  spelled = simp append-nil;
  is_operand = own_operand o;
  before_blank = blank;
  behind_blank = tt;
}
separated before blank o (p ∷ os) = (
  32 ∷ operand_text p ++ others_text os,
  record {
    before = before;
    word = operand_text o;
    behind = [];
    spelled = simp append-nil;
    is_operand = own_operand o;
    before_blank = blank;
    behind_blank = tt;
  },
  separated (32 ∷ []) (refl, tt) p os,
)

own_operands : (os : List Operand) → AreOperands (operands_text os) os
own_operands [] = tt
own_operands (o ∷ os) = (32, operand_text o ++ others_text os, refl, refl, separated [] tt o os)

pub own_line : (i : Insn) → IsListed i → IsInsnLine (text_of i) i
unfolding text_of
own_line i l = record {
  blanks = [];
  operands = operands_text (operands_of i);
  comment = [];
  spelled = sym (append-nil _);
  are_blanks = tt;
  are_operands = own_operands (operands_of i);
  is_comment = tt;
  listed = l;
}
