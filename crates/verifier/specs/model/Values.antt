-- The values that instructions write.
use Rattle.std.specs.Prelude.{ℕ, true, false, Option, Some, None}
use Rattle.instruction_set.specs.declared.insn.Register.{Register}
use Rattle.instruction_set.specs.declared.insn.Insn.{Insn}
use Rattle.instruction_set.specs.declared.insn.Insn.TheVariants.{Alu, Neg, MovSx, End, LoadWide, Load, LoadSx}
use Rattle.abstract_value.specs.Domain.{Ops}
use Rattle.abstract_value.specs.States.{View, with_register}
use Rattle.abstract_value.specs.declared.states.RegState.{RegState}
use Rattle.abstract_value.specs.declared.states.RegState.TheVariants.{Scalar, Unreadable}
use Rattle.verifier.specs.Rules.{operand_state, result_of, of_scalar}

-- the number of a register, if there is one
abbrev pub number_of : Option Register → Option ℕ
number_of None = None
number_of (Some r) = Some r.number

-- the destination's contents after an instruction that writes a register
abbrev pub value_of : {D : Type 0} → Ops D → Insn → View D → RegState D
value_of o (Alu width op dst src) s = result_of o width op (s.registers dst.number) (operand_state o s src)
value_of o (Neg width dst) s = of_scalar (o.neg width) (s.registers dst.number)
value_of o (MovSx width bits dst src) s = of_scalar (o.mov_sx width bits) (s.registers src.number)
value_of o (End kind bits dst) s = of_scalar (o.end kind bits) (s.registers dst.number)
value_of o (LoadWide dst value) s = Scalar (o.single value)
value_of o (Load size dst base offset) s = Scalar (o.load size false)
value_of o (LoadSx size dst base offset) s = Scalar (o.load size true)
value_of o _ s = Unreadable

-- the state once a register, if there is one, holds it
abbrev pub with_value : {D : Type 0} → Ops D → Insn → View D → Option ℕ → Option (View D)
with_value o i s None = None
with_value o i s (Some r) = Some (with_register s r (value_of o i s))
