-- The leftmost fault of a line, and the first fault of a text, in the words of the grammar.
use Rattle.std.specs.Prelude.{◌≡◌, ℕ, ◌+◌, ◌<◌, ◌≤◌, ◌^◌, ◌⊎◌, List, [], ◌∷◌, ◌++◌, length, get_or, Some, codes, sum_by, FitsSigned}
use Rattle.std.specs.Int.{w16, w32}
use Rattle.std.specs.Str.Parse.{IsNumeral, digits_value}
use Rattle.instruction_set.specs.Slots.{IsListed, max_slots}
use Rattle.instruction_set.specs.Machine.{slots_of}
use Rattle.instruction_set.specs.declared.insn.Register.{Register}
use Rattle.instruction_set.specs.declared.insn.Insn.{Insn}
use Rattle.instruction_set.specs.declared.insn.Insn.TheVariants.{Alu, Neg, MovSx, End, LoadWide, Load, LoadSx, Store, StoreImm, Jump, JumpLong, JumpIf, Exit}
use Rattle.assembler_text.specs.declared.faults.Fault.{Fault}
use Rattle.assembler_text.specs.declared.faults.Fault.TheVariants as fault
use Rattle.assembler_text.specs.declared.faults.LineFault.{LineFault}
use Rattle.assembler_text.specs.declared.faults.LineFault.TheVariants as line_fault
use Rattle.assembler_text.specs.declared.lexer.Class.TheVariants as class
use Rattle.assembler_text.specs.Words.{AreIn, StopsAt}
use Rattle.assembler_text.specs.Text.{Operand, OfRegister, OfImm, OfValue, OfAddress, OfStep, mnemonic_of, register_text}
use Rattle.assembler_text.specs.Grammar.{AreBlanks, IsComment, IsOperand, IsLine, lines_of, AreLines}

-- the kind of operand that a mnemonic expects; steps have 16 bits or 32
pub data OperandKind : Type 0 where
  ARegister : OperandKind
  ASource : OperandKind
  AnImm : OperandKind
  AValue : OperandKind
  AnAddress : OperandKind
  AStep : OperandKind
  ALongStep : OperandKind

abbrev pub kinds_of : Insn → List OperandKind
kinds_of (Alu width op dst src) = ARegister ∷ ASource ∷ []
kinds_of (Neg width dst) = ARegister ∷ []
kinds_of (MovSx width bits dst src) = ARegister ∷ ARegister ∷ []
kinds_of (End kind bits dst) = ARegister ∷ []
kinds_of (LoadWide dst value) = ARegister ∷ AValue ∷ []
kinds_of (Load size dst base offset) = ARegister ∷ AnAddress ∷ []
kinds_of (LoadSx size dst base offset) = ARegister ∷ AnAddress ∷ []
kinds_of (Store size base offset src) = AnAddress ∷ ARegister ∷ []
kinds_of (StoreImm size base offset imm) = AnAddress ∷ AnImm ∷ []
kinds_of (Jump distance) = AStep ∷ []
kinds_of (JumpLong distance) = ALongStep ∷ []
kinds_of (JumpIf width test dst src distance) = ARegister ∷ ASource ∷ AStep ∷ []
kinds_of Exit = []

-- the place takes the operand: it is of the kind asked, and its number is in range
abbrev pub Takes : OperandKind → Operand → Type 0
Takes ARegister (OfRegister r) = Unit {0}
Takes ASource (OfRegister r) = Unit {0}
Takes ASource (OfImm n) = FitsSigned w32 n
Takes AnImm (OfImm n) = FitsSigned w32 n
Takes AValue (OfValue n) = n < 2 ^ 64
Takes AnAddress (OfAddress r n) = FitsSigned w16 n
Takes AStep (OfStep n) = FitsSigned w16 n
Takes ALongStep (OfStep n) = FitsSigned w32 n
Takes place operand = ⊥

-- the word is an operand that the place takes
pub record IsGood (place : OperandKind) (word : List ℕ) : Type 0 where
  pub operand : Operand
  pub taken : Takes place operand
  pub spelled : IsOperand operand word

-- ---- numbers out of range

-- the digits of a well-formed decimal number above a greatest one
pub record IsPast (most : ℕ) (digits : List ℕ) : Type 0 where
  pub numeral : IsNumeral 10 digits
  pub no_leading_zero : get_or digits 0 0 ≡ 48 → length digits ≡ 1
  pub past : most < digits_value 10 digits

-- such digits after a sign
pub record IsPastBehind (sign most : ℕ) (word : List ℕ) : Type 0 where
  pub digits : List ℕ
  pub spelled : word ≡ sign ∷ digits
  pub is_past : IsPast most digits

-- `0x` and hex digits of a number above a greatest one
pub record IsPastHex (most : ℕ) (word : List ℕ) : Type 0 where
  pub digits : List ℕ
  pub spelled : word ≡ codes "0x" ++ digits
  pub numeral : IsNumeral 16 digits
  pub past : most < digits_value 16 digits

abbrev pub IsPastImm : List ℕ → Type 0
IsPastImm word = IsPast 2147483647 word ⊎ (IsPastBehind 45 2147483648 word ⊎ IsPastHex 4294967295 word)

abbrev pub IsPastValue : List ℕ → Type 0
IsPastValue word = IsPast 18446744073709551615 word ⊎ IsPastHex 18446744073709551615 word

-- a step of more than most up, or more than most and one down
abbrev pub IsPastStep : ℕ → List ℕ → Type 0
IsPastStep most word = IsPastBehind 43 most word ⊎ IsPastBehind 45 (most + 1) word

-- a register with such an offset in brackets
pub record IsPastAddress (word : List ℕ) : Type 0 where
  pub base : Register
  pub offset : List ℕ
  pub spelled : word ≡ 91 ∷ register_text base ++ offset ++ 93 ∷ []
  pub is_past : IsPastStep 32767 offset

-- the word is a well-formed number out of the range that the place asks
abbrev pub IsOutOfRange : OperandKind → List ℕ → Type 0
IsOutOfRange ARegister word = ⊥
IsOutOfRange ASource word = IsPastImm word
IsOutOfRange AnImm word = IsPastImm word
IsOutOfRange AValue word = IsPastValue word
IsOutOfRange AnAddress word = IsPastAddress word
IsOutOfRange AStep word = IsPastStep 32767 word
IsOutOfRange ALongStep word = IsPastStep 2147483647 word

-- what is wrong with a word in an operand's place: a number out of range, or any other word that isn't taken
abbrev pub IsWrong : OperandKind → List ℕ → Fault → Type 0
IsWrong place word fault.Operand = (IsGood place word → ⊥) × (IsOutOfRange place word → ⊥)
IsWrong place word fault.NumberRange = IsOutOfRange place word
IsWrong place word fault.Mnemonic = ⊥
IsWrong place word fault.LineEnd = ⊥

-- ---- operands

-- a text: blanks, as many as there are, a word that runs to a blank, a comma or the end,
-- blanks, as many as there are, the rest
pub record IsSplit (text word rest : List ℕ) : Type 0 where
  pub before : List ℕ
  pub behind : List ℕ
  pub spelled : text ≡ before ++ word ++ behind ++ rest
  pub before_blank : AreBlanks before
  pub before_stops : StopsAt class.Blank (word ++ (behind ++ rest))
  pub is_word : AreIn class.Operand word
  pub word_stops : StopsAt class.Operand (behind ++ rest)
  pub behind_blank : AreBlanks behind
  pub behind_stops : StopsAt class.Blank rest

-- the leftmost fault of operands in these places
pub data IsFaultIn : List OperandKind → List ℕ → Fault → Type 0 where
  -- extra text after the operands
  none_asked : {text : List ℕ} → (AreBlanks text → ⊥) → IsFaultIn [] text fault.LineEnd
  -- the first word is no operand for its place
  wrong_word : {p : OperandKind} {ps : List OperandKind} {text word rest : List ℕ} {f : Fault}
      → IsSplit text word rest → IsWrong p word f → IsFaultIn (p ∷ ps) text f
  -- the first operand is good, but no comma follows it, and so no second one
  no_comma : {p q : OperandKind} {ps : List OperandKind} {text word rest : List ℕ}
      → IsSplit text word rest → IsGood p word → ((t : List ℕ) → rest ≡ 44 ∷ t → ⊥)
      → IsFaultIn (p ∷ q ∷ ps) text fault.Operand
  -- the first operand is good, and the fault stands after the comma that follows it
  behind_comma : {p q : OperandKind} {ps : List OperandKind} {text word t : List ℕ} {f : Fault}
      → IsSplit text word (44 ∷ t) → IsGood p word → IsFaultIn (q ∷ ps) t f → IsFaultIn (p ∷ q ∷ ps) text f
  -- something stands after the last operand
  line_end : {p : OperandKind} {text word rest : List ℕ}
      → IsSplit text word rest → IsGood p word → (rest ≡ [] → ⊥) → IsFaultIn (p ∷ []) text fault.LineEnd

-- the leftmost fault of a mnemonic and what stands after it
pub data IsFaultOf (name text : List ℕ) : Fault → Type 0 where
  -- no instruction has this mnemonic
  no_mnemonic : ((i : Insn) → IsListed i → mnemonic_of i ≡ name → ⊥) → IsFaultOf name text fault.Mnemonic
  -- an instruction has it, and the fault is in its operands or after them
  in_operands : {f : Fault} (i : Insn)
      → IsListed i → mnemonic_of i ≡ name → IsFaultIn (kinds_of i) text f → IsFaultOf name text f

-- ---- lines and texts

-- the leftmost fault of a line: blanks, a mnemonic that runs to a blank or the end, what stands after it, a comment
pub record IsLineFault (line : List ℕ) (f : Fault) : Type 0 where
  pub blanks : List ℕ
  pub name : List ℕ
  pub text : List ℕ
  pub comment : List ℕ
  pub spelled : line ≡ (blanks ++ (name ++ text)) ++ comment
  pub before_comment : AreIn class.Instruction (blanks ++ (name ++ text))
  pub is_comment : IsComment comment
  pub are_blanks : AreBlanks blanks
  pub some_name : name ≡ [] → ⊥
  pub is_name : AreIn class.Mnemonic name
  pub name_stops : StopsAt class.Mnemonic text
  pub is_fault : IsFaultOf name text f

-- the lines before this one give code that isn't too long
pub record IsBefore (lines : List (List ℕ)) (number : ℕ) (line : List ℕ) (code : List Insn) : Type 0 where
  pub before : List (List ℕ)
  pub behind : List (List ℕ)
  pub split : lines ≡ before ++ line ∷ behind
  pub place : number ≡ length before + 1
  pub lines_give : AreLines before code
  pub few : sum_by slots_of code ≤ max_slots

-- the first line that isn't one of the grammar's has this leftmost fault
pub record IsFaultAt (lines : List (List ℕ)) (number : ℕ) (f : Fault) : Type 0 where
  pub line : List ℕ
  pub code : List Insn
  pub before : IsBefore lines number line code
  pub is_fault : IsLineFault line f

-- with the instruction of this line there are too many slots
pub record IsTooLongAt (lines : List (List ℕ)) (number : ℕ) : Type 0 where
  pub line : List ℕ
  pub code : List Insn
  pub insn : Insn
  pub before : IsBefore lines number line code
  pub gives : IsLine line (Some insn)
  pub past : max_slots < sum_by slots_of code + slots_of insn

-- the first fault of lines: the leftmost of the first faulty line. Out of memory isn't a fault of lines
abbrev pub IsFirstOf : List (List ℕ) → LineFault → Type 0
IsFirstOf lines (line_fault.Line f number) = IsFaultAt lines number f
IsFirstOf lines (line_fault.TooLong number) = IsTooLongAt lines number
IsFirstOf lines line_fault.Empty = AreLines lines []
IsFirstOf lines line_fault.OutOfMemory = ⊥

-- the first fault of a text
abbrev pub IsFirstTextFault : List ℕ → LineFault → Type 0
IsFirstTextFault text f = IsFirstOf (lines_of text) f
