-- Reading a line from left to right, with the first fault that is met.
use Rattle.std.specs.Prelude.{ℕ, ℤ, Option, Some, None, List, [], ◌∷◌, Result, Ok, Err}
use Rattle.instruction_set.specs.declared.insn.Register.{Register}
use Rattle.instruction_set.specs.declared.insn.Source.{Source}
use Rattle.instruction_set.specs.declared.insn.Insn.{Insn}
use Rattle.instruction_set.specs.declared.insn.Insn.TheVariants.{Alu, Neg, MovSx, End, LoadWide, Load, LoadSx, Store, StoreImm, Jump, JumpLong, JumpIf, Exit}
use Rattle.assembler_text.specs.declared.faults.Fault.{Fault}
use Rattle.assembler_text.specs.declared.faults.Fault.TheVariants as fault
use Rattle.assembler_text.specs.declared.lexer.Class.TheVariants as class
use Rattle.assembler_text.specs.declared.mnemonic.Mnemonic.{Mnemonic}
use Rattle.assembler_text.specs.declared.mnemonic.Mnemonic.TheVariants as mnemonic
use Rattle.assembler_text.specs.Text.{Operand, OfRegister, OfImm, OfValue, OfAddress, OfStep, source_operand}
use Rattle.assembler_text.specs.Refusals.{OperandKind, ARegister, ASource, AnImm, AValue, AnAddress, AStep, ALongStep}
use Rattle.assembler_text.specs.model.Words.{front, rest, word, after}
use Rattle.assembler_text.specs.model.Mnemonics.{mnemonic_at}
use Rattle.refusals.specs.Answers.{◌>>=◌}
use Rattle.assembler_text.specs.model.Reading.{imm_at, value_at, step_at}
use Rattle.assembler_text.specs.model.Operands.{register_at, source_at, address_at, comma, end_at}

-- ---- operands

-- the reading of an expected kind of operand
abbrev pub Read : OperandKind → Type 0
Read ARegister = Register
Read ASource = Source
Read AnImm = ℤ
Read AValue = ℕ
Read AnAddress = Register × ℤ
Read AStep = ℤ
Read ALongStep = ℤ

abbrev pub AllRead : List OperandKind → Type 0
AllRead [] = Unit {0}
AllRead (k ∷ ks) = Read k × AllRead ks

-- the operand that is read
abbrev pub operand_of : (kind : OperandKind) → Read kind → Operand
operand_of ARegister r = OfRegister r
operand_of ASource s = source_operand s
operand_of AnImm n = OfImm n
operand_of AValue n = OfValue n
operand_of AnAddress a = OfAddress a.0 a.1
operand_of AStep n = OfStep n
operand_of ALongStep n = OfStep n

abbrev pub operands : (kinds : List OperandKind) → AllRead kinds → List Operand
operands [] a = []
operands (k ∷ ks) a = operand_of k a.0 ∷ operands ks a.1

abbrev pub operand_at : (kind : OperandKind) → List ℕ → Result (Read kind) Fault
operand_at ARegister word = register_at word
operand_at ASource word = source_at word
operand_at AnImm word = imm_at word
operand_at AValue word = value_at word
operand_at AnAddress word = address_at word
operand_at AStep word = step_at 32767 word
operand_at ALongStep word = step_at 2147483647 word

-- a text that has as many operands as are asked, each of its kind
unfoldable pub operands_at : (kinds : List OperandKind) → List ℕ → Result (AllRead kinds) Fault
operands_at [] text = do
  nothing ← end_at (rest class.Blank text)
  Ok tt
operands_at (k ∷ []) text = do
  a ← operand_at k (word text)
  nothing ← end_at (after text)
  Ok (a, tt)
operands_at (k ∷ l ∷ ks) text = do
  a ← operand_at k (word text)
  t ← comma (after text)
  more ← operands_at (l ∷ ks) t
  Ok (a, more)

-- ---- instructions

-- the operands that a mnemonic asks
abbrev pub kinds : Mnemonic → List OperandKind
kinds (mnemonic.Alu width op) = ARegister ∷ ASource ∷ []
kinds (mnemonic.Neg width) = ARegister ∷ []
kinds (mnemonic.MovSx width bits) = ARegister ∷ ARegister ∷ []
kinds (mnemonic.End kind bits) = ARegister ∷ []
kinds mnemonic.LoadWide = ARegister ∷ AValue ∷ []
kinds (mnemonic.Load size) = ARegister ∷ AnAddress ∷ []
kinds (mnemonic.LoadSx size) = ARegister ∷ AnAddress ∷ []
kinds (mnemonic.Store size) = AnAddress ∷ ARegister ∷ []
kinds (mnemonic.StoreImm size) = AnAddress ∷ AnImm ∷ []
kinds mnemonic.Jump = AStep ∷ []
kinds mnemonic.JumpLong = ALongStep ∷ []
kinds (mnemonic.JumpIf width test) = ARegister ∷ ASource ∷ AStep ∷ []
kinds mnemonic.Exit = []

-- the instruction of a mnemonic and its operands
abbrev pub made : (m : Mnemonic) → AllRead (kinds m) → Insn
made (mnemonic.Alu width op) a = Alu width op a.0 a.1.0
made (mnemonic.Neg width) a = Neg width a.0
made (mnemonic.MovSx width bits) a = MovSx width bits a.0 a.1.0
made (mnemonic.End kind bits) a = End kind bits a.0
made mnemonic.LoadWide a = LoadWide a.0 a.1.0
made (mnemonic.Load size) a = Load size a.0 a.1.0.0 a.1.0.1
made (mnemonic.LoadSx size) a = LoadSx size a.0 a.1.0.0 a.1.0.1
made (mnemonic.Store size) a = Store size a.0.0 a.0.1 a.1.0
made (mnemonic.StoreImm size) a = StoreImm size a.0.0 a.0.1 a.1.0
made mnemonic.Jump a = Jump a.0
made mnemonic.JumpLong a = JumpLong a.0
made (mnemonic.JumpIf width test) a = JumpIf width test a.0 a.1.0 a.1.1.0
made mnemonic.Exit a = Exit

unfoldable pub insn_at : Mnemonic → List ℕ → Result Insn Fault
insn_at m text = do
  a ← operands_at (kinds m) text
  Ok (made m a)

-- ---- lines

abbrev pub insn_from : Option Mnemonic → List ℕ → Result (Option Insn) Fault
insn_from None text = Err fault.Mnemonic
insn_from (Some m) text = do
  insn ← insn_at m text
  Ok (Some insn)

-- the line without its comment and the blanks at its front
abbrev pub body : List ℕ → List ℕ
body line = rest class.Blank (front class.Instruction line)

abbrev pub body_at : List ℕ → Result (Option Insn) Fault
body_at [] = Ok None
body_at (c ∷ cs) = insn_from (mnemonic_at (front class.Mnemonic (c ∷ cs))) (rest class.Mnemonic (c ∷ cs))

unfoldable pub line_at : List ℕ → Result (Option Insn) Fault
line_at line = body_at (body line)
