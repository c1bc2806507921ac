-- What a mnemonic makes of its operands, and each instruction as made of them.
use Rattle.std.proofs.Common.{◌≡◌, refl, ℤ}
use Rattle.instruction_set.specs.Slots.{SourceFits, IsListed, IsSelected}
use Rattle.instruction_set.specs.declared.insn.Register.{Register}
use Rattle.instruction_set.specs.declared.insn.Size.{Size}
use Rattle.instruction_set.specs.declared.insn.Size.TheVariants.{Double}
use Rattle.instruction_set.specs.declared.insn.Source.{Source}
use Rattle.instruction_set.specs.declared.insn.Source.TheVariants.{Imm, Reg}
use Rattle.instruction_set.specs.declared.insn.Insn.{Insn}
use Rattle.instruction_set.specs.declared.insn.Insn.TheVariants.{Alu, Neg, MovSx, End, LoadWide, Load, LoadSx, Store, StoreImm, Jump, JumpLong, JumpIf, Exit}
use Rattle.assembler_text.specs.declared.mnemonic.Mnemonic.{Mnemonic}
use Rattle.assembler_text.specs.declared.mnemonic.Mnemonic.TheVariants as mnemonic
use Rattle.assembler_text.specs.Text.{mnemonic_of, operands_of, source_operand}
use Rattle.assembler_text.specs.Refusals.{kinds_of, ASource, Takes}
use Rattle.assembler_text.specs.model.Mnemonics.{IsKnown}
use Rattle.assembler_text.specs.model.Lines.{AllRead, operands, kinds, made}
use Rattle.assembler_text.proofs.Tables.{name_of}
use Rattle.assembler_text.proofs.OperandLists.{AllTaken}

pub made_name : (m : Mnemonic) (a : AllRead (kinds m)) → mnemonic_of (made m a) ≡ name_of m
made_name (mnemonic.Alu width op) a = refl
made_name _ a = refl

pub made_operands : (m : Mnemonic) (a : AllRead (kinds m)) → operands_of (made m a) ≡ operands (kinds m) a
made_operands (mnemonic.Alu width op) a = refl
made_operands _ a = refl

pub made_kinds : (m : Mnemonic) (a : AllRead (kinds m)) → kinds_of (made m a) ≡ kinds m
made_kinds (mnemonic.Alu width op) a = refl
made_kinds _ a = refl

source_fits : (s : Source) → Takes ASource (source_operand s) → SourceFits s
source_fits (Imm n) t = t
source_fits (Reg r) t = tt

source_taken : (s : Source) → SourceFits s → Takes ASource (source_operand s)
source_taken (Imm n) f = f
source_taken (Reg r) f = tt

sx_selected : (z : Size) (dst base : Register) (n : ℤ) → IsKnown (mnemonic.LoadSx z) → IsSelected (LoadSx z dst base n)
sx_selected Double dst base n k = absurd k
sx_selected _ dst base n k = tt

sx_known : (z : Size) (dst base : Register) (n : ℤ) → IsSelected (LoadSx z dst base n) → IsKnown (mnemonic.LoadSx z)
sx_known Double dst base n s = absurd s
sx_known _ dst base n s = tt

pub made_listed : (m : Mnemonic) (a : AllRead (kinds m)) → IsKnown m → AllTaken (kinds m) a → IsListed (made m a)
made_listed (mnemonic.Alu width op) a k t = record { numbers = source_fits a.1.0 t.1.0; selected = tt }
made_listed (mnemonic.Neg width) a k t = record { numbers = tt; selected = tt }
made_listed (mnemonic.MovSx width bits) a k t = record { numbers = tt; selected = k }
made_listed (mnemonic.End kind bits) a k t = record { numbers = tt; selected = k }
made_listed mnemonic.LoadWide a k t = record { numbers = t.1.0; selected = tt }
made_listed (mnemonic.Load size) a k t = record { numbers = t.1.0; selected = tt }
made_listed (mnemonic.LoadSx size) a k t = record { numbers = t.1.0; selected = sx_selected size a.0 a.1.0.0 a.1.0.1 k }
made_listed (mnemonic.Store size) a k t = record { numbers = t.0; selected = tt }
made_listed (mnemonic.StoreImm size) a k t = record { numbers = (t.0, t.1.0); selected = tt }
made_listed mnemonic.Jump a k t = record { numbers = t.0; selected = tt }
made_listed mnemonic.JumpLong a k t = record { numbers = t.0; selected = tt }
made_listed (mnemonic.JumpIf width test) a k t = record { numbers = (source_fits a.1.0 t.1.0, t.1.1.0); selected = tt }
made_listed mnemonic.Exit a k t = record { numbers = tt; selected = tt }

-- an instruction, made of its operands
pub record IsMade (i : Insn) : Type 0 where
  pub name : Mnemonic
  pub parts : AllRead (kinds name)
  pub is : made name parts ≡ i
  pub known : IsKnown name
  pub taken : AllTaken (kinds name) parts

abbrev pub IsMadeOf : (m : Mnemonic) (a : AllRead (kinds m)) → IsKnown m → AllTaken (kinds m) a → IsMade (made m a)
IsMadeOf m a k t = record { name = m; parts = a; is = refl; known = k; taken = t }

pub parts_of : (i : Insn) → IsListed i → IsMade i
parts_of (Alu width op dst src) l =
    IsMadeOf (mnemonic.Alu width op) (dst, (src, tt)) tt (tt, (source_taken src l.numbers, tt))
parts_of (Neg width dst) l = IsMadeOf (mnemonic.Neg width) (dst, tt) tt (tt, tt)
parts_of (MovSx width bits dst src) l = IsMadeOf (mnemonic.MovSx width bits) (dst, (src, tt)) l.selected (tt, (tt, tt))
parts_of (End kind bits dst) l = IsMadeOf (mnemonic.End kind bits) (dst, tt) l.selected (tt, tt)
parts_of (LoadWide dst value) l = IsMadeOf mnemonic.LoadWide (dst, (value, tt)) tt (tt, (l.numbers, tt))
parts_of (Load size dst base offset) l =
    IsMadeOf (mnemonic.Load size) (dst, ((base, offset), tt)) tt (tt, (l.numbers, tt))
parts_of (LoadSx size dst base offset) l =
    IsMadeOf (mnemonic.LoadSx size) (dst, ((base, offset), tt)) (sx_known size dst base offset l.selected) (
      tt,
      (l.numbers, tt),
    )
parts_of (Store size base offset src) l =
    IsMadeOf (mnemonic.Store size) ((base, offset), (src, tt)) tt (l.numbers, (tt, tt))
parts_of (StoreImm size base offset imm) l =
    IsMadeOf (mnemonic.StoreImm size) ((base, offset), (imm, tt)) tt (l.numbers.0, (l.numbers.1, tt))
parts_of (Jump distance) l = IsMadeOf mnemonic.Jump (distance, tt) tt (l.numbers, tt)
parts_of (JumpLong distance) l = IsMadeOf mnemonic.JumpLong (distance, tt) tt (l.numbers, tt)
parts_of (JumpIf width test dst src distance) l =
    IsMadeOf (mnemonic.JumpIf width test) (dst, (src, (distance, tt))) tt (
      tt,
      (source_taken src l.numbers.0, (l.numbers.1, tt)),
    )
parts_of Exit l = IsMadeOf mnemonic.Exit tt tt tt
