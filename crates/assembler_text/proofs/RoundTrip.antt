-- The lines of what is written give the code back.
use Rattle.std.proofs.Common.{◌≡◌, refl, ap, ◌∙◌, sym, subst, ℕ, cond, List, [], ◌∷◌, ◌++◌, inr, append_assoc, String, Global, Result, Ok, Err}
use Rattle.std.specs.Prelude.{◌==◌, IfOk, string_bytes}
use Rattle.std.specs.declared.alloc.AllocError.{AllocError}
use Rattle.std.specs.List.{AllByRecursion}
use Rattle.std.proofs.lemmas.List.Elements.{recursion_from_All}
use Rattle.instruction_set.specs.Slots.{IsListed, IsCode}
use Rattle.instruction_set.specs.declared.insn.Insn.{Insn}
use Rattle.assembler_text.specs.declared.lexer.Class.TheVariants as class
use Rattle.assembler_text.specs.Text.{mnemonic_of, Operand, operands_of, operand_text, others_text, operands_text, text_of, code_text}
use Rattle.assembler_text.specs.Grammar.{with_first, lines_of, AreLines, IsTextOf}
use Rattle.assembler_text.specs.Words.{AreIn}
use Rattle.assembler_text.proofs.Plain.{opposite, IsWord, word_plain, in_line, among, joined}
use Rattle.assembler_text.proofs.FoundWords.{Fits, AllFit, operand_word}
use Rattle.assembler_text.proofs.Lines.{name_is_word, operands_fit}
use Rattle.assembler_text.proofs.Canonical.{own_operand, own_line}

-- ---- no line ends within an instruction

operand_in : (o : Operand) → Fits o → AreIn class.Line (operand_text o)
operand_in o f =
    among class.Line in_line (operand_text o) (word_plain (operand_text o)
    (operand_word o (operand_text o) (own_operand o) f))

others_in : (os : List Operand) → AllFit os → AreIn class.Line (others_text os)
others_in [] f = tt
others_in (o ∷ os) f =
    (refl, (refl, joined class.Line (operand_text o) (others_text os) (operand_in o f.0) (others_in os f.1)))

operands_in : (os : List Operand) → AllFit os → AreIn class.Line (operands_text os)
operands_in [] f = tt
operands_in (o ∷ os) f =
    (refl, joined class.Line (operand_text o) (others_text os) (operand_in o f.0) (others_in os f.1))

text_in : (i : Insn) → IsListed i → AreIn class.Line (text_of i)
unfolding text_of
text_in i l =
    let w : IsWord (mnemonic_of i) = name_is_word i l in
    joined class.Line (mnemonic_of i) (operands_text (operands_of i))
    (among class.Line in_line (mnemonic_of i) (word_plain (mnemonic_of i) w))
    (operands_in (operands_of i) (operands_fit i l))

-- ---- the lines of a text

first_line : (t text : List ℕ) → AreIn class.Line t → lines_of (t ++ 10 ∷ text) ≡ t ∷ lines_of text
first_line [] text h = refl
first_line (c ∷ cs) text h =
    ap (λ b. cond b ([] ∷ lines_of (cs ++ 10 ∷ text)) (with_first c (lines_of (cs ++ 10 ∷ text))))
    (opposite (c == 10) h.0)
    ∙ ap (with_first c) (first_line cs text h.1)

written_lines : (code : List Insn) → AllByRecursion IsListed code → AreLines (lines_of (code_text code)) code
written_lines [] h = tt
written_lines (i ∷ code) h =
    let first : lines_of (code_text (i ∷ code)) ≡ text_of i ∷ lines_of (code_text code) =
    ap lines_of (append_assoc (text_of i) (10 ∷ []) (code_text code))
    ∙ first_line (text_of i) (code_text code) (text_in i h.0) in
    subst (λ (lines : List (List ℕ)). AreLines lines (i ∷ code)) (sym first)
    (inr (own_line i h.0, written_lines code h.1))

pub text_written : (code : List Insn) → IsCode code → IsTextOf (code_text code) code
text_written code c =
    record { lines_give = written_lines code (recursion_from_All IsListed code c.listed); is_code = c }

-- what is written of code, if memory serves, is a text of it
pub result_written : (r : Result (String Global) AllocError) (insns code : List Insn) → insns ≡ code → IsCode code
    → IfOk r (λ text. string_bytes text ≡ code_text insns) → IfOk r (λ text. (string_bytes text ≡ code_text code)
    × IsTextOf (string_bytes text) code)
result_written (Ok text) insns code same c e =
    let all : string_bytes text ≡ code_text code = e ∙ ap code_text same in
    (all, subst (λ t. IsTextOf t code) (sym all) (text_written code c))
result_written (Err f) insns code same c e = tt
