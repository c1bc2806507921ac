-- The canonical text of an instruction, which is what is written.
use Rattle.std.specs.Prelude.{ℕ, suc, List, [], ◌∷◌, ◌++◌, ℤ, pos, codes}
use Rattle.std.specs.Fmt.{decimal, signed_decimal}
use Rattle.std.specs.List.{flat_map}
use Rattle.std.proofs.Common.{negsuc}
use Rattle.instruction_set.specs.declared.insn.Width.{Width}
use Rattle.instruction_set.specs.declared.insn.Width.TheVariants.{W32, W64}
use Rattle.instruction_set.specs.declared.insn.Size.{Size}
use Rattle.instruction_set.specs.declared.insn.Size.TheVariants.{Byte, Half, Word, Double}
use Rattle.instruction_set.specs.declared.insn.AluOp.{AluOp}
use Rattle.instruction_set.specs.declared.insn.AluOp.TheVariants.{Add, Sub, Mul, Div, SDiv, Or, And, Lsh, Rsh, Mod, SMod, Xor, Mov, Arsh}
use Rattle.instruction_set.specs.declared.insn.EndKind.{EndKind}
use Rattle.instruction_set.specs.declared.insn.EndKind.TheVariants.{Little, Big, Swap}
use Rattle.instruction_set.specs.declared.insn.Test.{Test}
use Rattle.instruction_set.specs.declared.insn.Test.TheVariants.{Jeq, Jgt, Jge, Jset, Jne, Jsgt, Jsge, Jlt, Jle, Jslt, Jsle}
use Rattle.instruction_set.specs.declared.insn.Register.{Register}
use Rattle.instruction_set.specs.declared.insn.Source.{Source}
use Rattle.instruction_set.specs.declared.insn.Source.TheVariants.{Imm, Reg}
use Rattle.instruction_set.specs.declared.insn.Insn.{Insn}
use Rattle.instruction_set.specs.declared.insn.Insn.TheVariants.{Alu, Neg, MovSx, End, LoadWide, Load, LoadSx, Store, StoreImm, Jump, JumpLong, JumpIf, Exit}

-- ---- mnemonics

abbrev pub alu_name : AluOp → List ℕ
alu_name Add = codes "add"
alu_name Sub = codes "sub"
alu_name Mul = codes "mul"
alu_name Div = codes "div"
alu_name SDiv = codes "sdiv"
alu_name Or = codes "or"
alu_name And = codes "and"
alu_name Lsh = codes "lsh"
alu_name Rsh = codes "rsh"
alu_name Mod = codes "mod"
alu_name SMod = codes "smod"
alu_name Xor = codes "xor"
alu_name Mov = codes "mov"
alu_name Arsh = codes "arsh"

abbrev pub width_name : Width → List ℕ
width_name W32 = codes "32"
width_name W64 = codes "64"

abbrev pub size_name : Size → List ℕ
size_name Byte = codes "b"
size_name Half = codes "h"
size_name Word = codes "w"
size_name Double = codes "dw"

abbrev pub order_name : EndKind → List ℕ
order_name Little = codes "le"
order_name Big = codes "be"
order_name Swap = codes "swap"

abbrev pub test_name : Test → List ℕ
test_name Jeq = codes "jeq"
test_name Jgt = codes "jgt"
test_name Jge = codes "jge"
test_name Jset = codes "jset"
test_name Jne = codes "jne"
test_name Jsgt = codes "jsgt"
test_name Jsge = codes "jsge"
test_name Jlt = codes "jlt"
test_name Jle = codes "jle"
test_name Jslt = codes "jslt"
test_name Jsle = codes "jsle"

-- a test of 64 bits has no width in its name
abbrev pub test_width_name : Width → List ℕ
test_width_name W32 = codes "32"
test_width_name W64 = []

abbrev pub mnemonic_of : Insn → List ℕ
mnemonic_of (Alu width op dst src) = alu_name op ++ width_name width
mnemonic_of (Neg width dst) = codes "neg" ++ width_name width
mnemonic_of (MovSx width bits dst src) = codes "mov" ++ width_name width ++ codes "s" ++ decimal bits
mnemonic_of (End kind bits dst) = order_name kind ++ decimal bits
mnemonic_of (LoadWide dst value) = codes "lddw"
mnemonic_of (Load size dst base offset) = codes "ldx" ++ size_name size
mnemonic_of (LoadSx size dst base offset) = codes "ldxs" ++ size_name size
mnemonic_of (Store size base offset src) = codes "stx" ++ size_name size
mnemonic_of (StoreImm size base offset imm) = codes "st" ++ size_name size
mnemonic_of (Jump distance) = codes "ja"
mnemonic_of (JumpLong distance) = codes "jal"
mnemonic_of (JumpIf width test dst src distance) = test_name test ++ test_width_name width
mnemonic_of Exit = codes "exit"

-- ---- operands

-- an operand: a register, an immediate, a value of 64 bits, a register with an offset, a distance
pub data Operand : Type 0 where
  OfRegister : Register → Operand
  OfImm : ℤ → Operand
  OfValue : ℕ → Operand
  OfAddress : Register → ℤ → Operand
  OfStep : ℤ → Operand

abbrev pub source_operand : Source → Operand
source_operand (Imm n) = OfImm n
source_operand (Reg r) = OfRegister r

abbrev pub operands_of : Insn → List Operand
operands_of (Alu width op dst src) = OfRegister dst ∷ source_operand src ∷ []
operands_of (Neg width dst) = OfRegister dst ∷ []
operands_of (MovSx width bits dst src) = OfRegister dst ∷ OfRegister src ∷ []
operands_of (End kind bits dst) = OfRegister dst ∷ []
operands_of (LoadWide dst value) = OfRegister dst ∷ OfValue value ∷ []
operands_of (Load size dst base offset) = OfRegister dst ∷ OfAddress base offset ∷ []
operands_of (LoadSx size dst base offset) = OfRegister dst ∷ OfAddress base offset ∷ []
operands_of (Store size base offset src) = OfAddress base offset ∷ OfRegister src ∷ []
operands_of (StoreImm size base offset imm) = OfAddress base offset ∷ OfImm imm ∷ []
operands_of (Jump distance) = OfStep distance ∷ []
operands_of (JumpLong distance) = OfStep distance ∷ []
operands_of (JumpIf width test dst src distance) = OfRegister dst ∷ source_operand src ∷ OfStep distance ∷ []
operands_of Exit = []

abbrev pub register_text : Register → List ℕ
register_text r = 114 ∷ decimal r.number

-- a number with its sign
abbrev pub step_text : ℤ → List ℕ
step_text (pos n) = 43 ∷ decimal n
step_text (negsuc n) = 45 ∷ decimal (suc n)

abbrev pub operand_text : Operand → List ℕ
operand_text (OfRegister r) = register_text r
operand_text (OfImm n) = signed_decimal n
operand_text (OfValue n) = decimal n
operand_text (OfAddress r n) = 91 ∷ register_text r ++ step_text n ++ 93 ∷ []
operand_text (OfStep n) = step_text n

abbrev pub source_text : Source → List ℕ
source_text src = operand_text (source_operand src)

-- the first operand, after a space
abbrev pub first_text : List Operand → List ℕ
first_text [] = []
first_text (o ∷ os) = codes " " ++ operand_text o

-- operands after the first, each after a comma and a space
abbrev pub others_text : List Operand → List ℕ
others_text [] = []
others_text (o ∷ os) = codes ", " ++ operand_text o ++ others_text os

abbrev pub operands_text : List Operand → List ℕ
operands_text [] = []
operands_text (o ∷ os) = first_text (o ∷ os) ++ others_text os

-- mnemonic, one space, operands separated by a comma and a space
unfoldable pub text_of : Insn → List ℕ
text_of i = mnemonic_of i ++ operands_text (operands_of i)

-- the canonical line of an instruction
abbrev pub line_of : Insn → List ℕ
line_of i = text_of i ++ codes "\n"

-- the canonical text of code
abbrev pub code_text : List Insn → List ℕ
code_text code = flat_map line_of code
