-- The lines of the language, and the instruction that each gives.
use Rattle.std.specs.Prelude.{◌≡◌, ℕ, true, List, [], ◌∷◌, ◌++◌, Option, Some, None, ◌⊎◌, codes, ◌==◌, if◌then◌else◌}
use Rattle.std.specs.Fmt.{decimal, signed_decimal}
use Rattle.std.specs.Int.{w32, cast_unsigned}
use Rattle.std.specs.Str.Parse.{IsNumeral, digits_value}
use Rattle.instruction_set.specs.Slots.{IsListed, IsCode}
use Rattle.instruction_set.specs.declared.insn.Insn.{Insn}
use Rattle.assembler_text.specs.declared.lexer.Class.TheVariants as class
use Rattle.assembler_text.specs.Words.{is_blank, AreIn}
use Rattle.assembler_text.specs.Text.{Operand, OfRegister, OfImm, OfValue, OfAddress, OfStep, operands_of, mnemonic_of, register_text, step_text}

-- nothing but spaces and tabs
abbrev pub AreBlanks : List ℕ → Type 0
AreBlanks text = AreIn class.Blank text

-- nothing, or a semicolon and what follows it
abbrev pub IsComment : List ℕ → Type 0
IsComment [] = Unit {0}
IsComment (c ∷ cs) = c ≡ 59

-- `0x` and hex digits of either case
pub record IsHex (word : List ℕ) (n : ℕ) : Type 0 where
  pub digits : List ℕ
  pub spelled : word ≡ codes "0x" ++ digits
  pub numeral : IsNumeral 16 digits
  pub number : digits_value 16 digits ≡ n

-- the word is this operand: numbers are decimal with no leading zero, immediates and values also in hex
abbrev pub IsOperand : Operand → List ℕ → Type 0
IsOperand (OfRegister r) word = word ≡ register_text r
IsOperand (OfImm n) word = (word ≡ signed_decimal n) ⊎ IsHex word (cast_unsigned w32 n)
IsOperand (OfValue n) word = (word ≡ decimal n) ⊎ IsHex word n
IsOperand (OfAddress r n) word = word ≡ 91 ∷ register_text r ++ step_text n ++ 93 ∷ []
IsOperand (OfStep n) word = word ≡ step_text n

-- a text that begins with this operand, blanks allowed around it
pub record Begins (text : List ℕ) (o : Operand) (rest : List ℕ) : Type 0 where
  pub before : List ℕ
  pub word : List ℕ
  pub behind : List ℕ
  pub spelled : text ≡ before ++ word ++ behind ++ rest
  pub is_operand : IsOperand o word
  pub before_blank : AreBlanks before
  pub behind_blank : AreBlanks behind

-- the operands separated by commas
abbrev pub AreSeparated : List ℕ → List Operand → Type 0
AreSeparated text [] = text ≡ []
AreSeparated text (o ∷ []) = Begins text o []
AreSeparated text (o ∷ p ∷ os) = (rest : List ℕ) × Begins text o (44 ∷ rest) × AreSeparated rest (p ∷ os)

-- at least one blank stands before the first operand
abbrev pub AreOperands : List ℕ → List Operand → Type 0
AreOperands text [] = AreBlanks text
AreOperands text (o ∷ os) =
    (blank : ℕ) × (rest : List ℕ) × (text ≡ blank ∷ rest) × (is_blank blank ≡ true) × AreSeparated rest (o ∷ os)

-- a line that gives no instruction: blanks and a comment
pub record IsEmptyLine (line : List ℕ) : Type 0 where
  pub blanks : List ℕ
  pub comment : List ℕ
  pub spelled : line ≡ blanks ++ comment
  pub are_blanks : AreBlanks blanks
  pub is_comment : IsComment comment

-- a line that gives this instruction: blanks, its mnemonic, its operands, a comment
pub record IsInsnLine (line : List ℕ) (i : Insn) : Type 0 where
  pub blanks : List ℕ
  pub operands : List ℕ
  pub comment : List ℕ
  pub spelled : line ≡ blanks ++ mnemonic_of i ++ operands ++ comment
  pub are_blanks : AreBlanks blanks
  pub are_operands : AreOperands operands (operands_of i)
  pub is_comment : IsComment comment
  pub listed : IsListed i

-- the line gives this instruction, or none
abbrev pub IsLine : List ℕ → Option Insn → Type 0
IsLine line None = IsEmptyLine line
IsLine line (Some i) = IsInsnLine line i

-- ---- texts

abbrev pub with_first : ℕ → List (List ℕ) → List (List ℕ)
with_first c [] = (c ∷ []) ∷ []
with_first c (line ∷ lines) = (c ∷ line) ∷ lines

-- the lines of a text, each ended by LF; the last may lack it
abbrev pub lines_of : List ℕ → List (List ℕ)
lines_of [] = []
lines_of (c ∷ cs) = if c == 10 then [] ∷ lines_of cs else with_first c (lines_of cs)

-- the lines give these instructions in order
abbrev pub AreLines : List (List ℕ) → List Insn → Type 0
AreLines [] [] = Unit {0}
AreLines [] (i ∷ code) = ⊥
AreLines (line ∷ lines) [] = IsLine line None × AreLines lines []
AreLines (line ∷ lines) (i ∷ code) =
    (IsLine line None × AreLines lines (i ∷ code)) ⊎ (IsLine line (Some i) × AreLines lines code)

-- the lines of the text give the instructions of the code in order, and they are code: 1 to 1,024 slots
pub record IsTextOf (text : List ℕ) (code : List Insn) : Type 0 where
  pub lines_give : AreLines (lines_of text) code
  pub is_code : IsCode code
