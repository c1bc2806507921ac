-- The rules 15 to 26, as tests of an instruction in an abstract state, and the states on its edges.
use Rattle.std.specs.Prelude.{◌≡◌, ℕ, ◌+◌, ◌-◌, ◌^◌, ◌<◌, Bool, true, false, not, ◌&&◌, ◌||◌, ◌==◌, nat_le, int_le, ◌+ℤ◌, ◌-ℤ◌, if◌then◌else◌, ℤ, pos, negsuc, IsTrue, Option, Some, None, List, [], ◌∷◌}
use Rattle.std.specs.List.{list_all}
use Rattle.std.specs.Int.{w64, cast_unsigned}
use Rattle.instruction_set.specs.Machine.{bytes_of, record_len, stack_len}
use Rattle.instruction_set.specs.Operations.{low}
use Rattle.instruction_set.specs.declared.insn.Width.{Width}
use Rattle.instruction_set.specs.declared.insn.Width.TheVariants.{W32, W64}
use Rattle.instruction_set.specs.declared.insn.Size.{Size}
use Rattle.instruction_set.specs.declared.insn.AluOp.{AluOp}
use Rattle.instruction_set.specs.declared.insn.AluOp.TheVariants.{Add, Sub, Mov}
use Rattle.instruction_set.specs.declared.insn.Test.{Test}
use Rattle.instruction_set.specs.declared.insn.Source.{Source}
use Rattle.instruction_set.specs.declared.insn.Source.TheVariants.{Imm, Reg}
use Rattle.instruction_set.specs.declared.insn.Insn.{Insn}
use Rattle.instruction_set.specs.declared.insn.Insn.TheVariants.{Alu, Neg, MovSx, End, LoadWide, Load, LoadSx, Store, StoreImm, Jump, JumpLong, JumpIf, Exit}
use Rattle.abstract_value.specs.Domain.{Ops}
use Rattle.abstract_value.specs.Offsets.{least_offset, greatest_offset}
use Rattle.abstract_value.specs.StackBytes.{all_written, with_marks}
use Rattle.abstract_value.specs.States.{View, make_span, with_register}
use Rattle.abstract_value.specs.declared.states.Span.{Span}
use Rattle.abstract_value.specs.declared.states.RegState.{RegState}
use Rattle.abstract_value.specs.declared.states.RegState.TheVariants.{Scalar, Record, Stack, Unreadable}
use Rattle.verifier.specs.declared.rule.Rule.{Rule}
use Rattle.verifier.specs.declared.rule.Rule.TheVariants.{Unreadable as UnreadableRule, WritesR10, PointerOperation, PointerRange, PointerCompared, PointerStored, OutsideRecord, WritesRecord, OutsideStack, UnwrittenStack, ScalarAddress, PointerResult}
use Rattle.verifier.specs.Structure.{rule_number}

-- ---- kinds of registers

abbrev pub is_readable : {D : Type 0} → RegState D → Bool
is_readable Unreadable = false
is_readable _ = true

abbrev pub is_pointer : {D : Type 0} → RegState D → Bool
is_pointer (Record a) = true
is_pointer (Stack a) = true
is_pointer _ = false

abbrev pub is_scalar : {D : Type 0} → RegState D → Bool
is_scalar (Scalar a) = true
is_scalar _ = false

-- ---- what an instruction reads and writes

abbrev pub source_reads : Source → List ℕ
source_reads (Imm n) = []
source_reads (Reg r) = r.number ∷ []

-- the registers that it reads; a move reads its source alone
abbrev pub reads : Insn → List ℕ
reads (Alu width Mov dst src) = source_reads src
reads (Alu width op dst src) = dst.number ∷ source_reads src
reads (Neg width dst) = dst.number ∷ []
reads (MovSx width bits dst src) = src.number ∷ []
reads (End kind bits dst) = dst.number ∷ []
reads (LoadWide dst value) = []
reads (Load size dst base offset) = base.number ∷ []
reads (LoadSx size dst base offset) = base.number ∷ []
reads (Store size base offset src) = base.number ∷ src.number ∷ []
reads (StoreImm size base offset imm) = base.number ∷ []
reads (Jump distance) = []
reads (JumpLong distance) = []
reads (JumpIf width test dst src distance) = dst.number ∷ source_reads src
reads Exit = 0 ∷ []

-- the register that it writes
abbrev pub writes : Insn → Option ℕ
writes (Alu width op dst src) = Some dst.number
writes (Neg width dst) = Some dst.number
writes (MovSx width bits dst src) = Some dst.number
writes (End kind bits dst) = Some dst.number
writes (LoadWide dst value) = Some dst.number
writes (Load size dst base offset) = Some dst.number
writes (LoadSx size dst base offset) = Some dst.number
writes _ = None

-- the second operand, a number of the instruction extended by its sign
abbrev pub operand_state : {D : Type 0} → Ops D → View D → Source → RegState D
operand_state o s (Imm n) = Scalar (o.single (cast_unsigned w64 n))
operand_state o s (Reg r) = s.registers r.number

-- ---- moving an address

-- the steps by which a number moves an address: small, or small below zero
abbrev pub steps_of : {D : Type 0} → Ops D → D → Option (ℤ × ℤ)
steps_of o b =
    if nat_le (o.high b) 65535 then Some (pos (o.low b), pos (o.high b))
    else (if nat_le (2 ^ 64 - 65536) (o.low b) then Some (pos (o.low b) -ℤ pos (2 ^ 64), pos (o.high b) -ℤ pos (2 ^ 64))
    else None)

abbrev pub is_near : ℤ → ℤ → Bool
is_near lo hi = int_le least_offset lo && int_le hi greatest_offset

-- the offsets moved by the steps, if they stay in range
abbrev pub span_moved : AluOp → Span → ℤ × ℤ → Option Span
span_moved Sub a steps = if is_near (a.lo -ℤ steps.1) (a.hi -ℤ steps.0)
    then Some (make_span (a.lo -ℤ steps.1) (a.hi -ℤ steps.0)) else None
span_moved _ a steps = if is_near (a.lo +ℤ steps.0) (a.hi +ℤ steps.1)
    then Some (make_span (a.lo +ℤ steps.0) (a.hi +ℤ steps.1)) else None

abbrev pub moved_by : AluOp → Span → Option (ℤ × ℤ) → Option Span
moved_by op a None = None
moved_by op a (Some steps) = span_moved op a steps

-- the offsets after an address is moved by a number
abbrev pub moved_span : {D : Type 0} → Ops D → AluOp → Span → D → Option Span
moved_span o op a b = moved_by op a (steps_of o b)

-- ---- accesses

-- the offsets of the first bytes that an access may reach, and the number of bytes from there
pub record Reach : Type 0 where
  pub lo : ℤ
  pub hi : ℤ
  pub len : ℕ

abbrev pub reach_of : Span → ℤ → Size → Reach
reach_of a offset size = record { lo = a.lo +ℤ offset; hi = a.hi +ℤ offset; len = bytes_of size }

abbrev pub is_inside : ℤ → ℤ → Reach → Bool
is_inside first end a = int_le first a.lo && int_le (a.hi +ℤ pos a.len) end

abbrev pub in_record : ℕ → Reach → Bool
in_record len a = is_inside (pos 0) (pos len) a

abbrev pub in_stack : Reach → Bool
in_stack a = is_inside (pos 0 -ℤ pos stack_len) (pos 0) a

abbrev pub whole : ℤ → ℕ
whole (pos n) = n
whole (negsuc n) = 0

-- a stack offset, counted from the stack's lowest byte
abbrev pub stack_index : ℤ → ℕ
stack_index offset = whole (offset +ℤ pos stack_len)

-- all bytes from the first that may be reached to the last are written
abbrev pub is_written_at : (ℕ → Bool) → Reach → Bool
is_written_at written a = all_written written (stack_index a.lo) (whole (a.hi -ℤ a.lo) + a.len)

-- the base and the offset of an access to memory, and its size
pub record Access : Type 0 where
  pub base : ℕ
  pub offset : ℤ
  pub size : Size
  pub is_store : Bool

abbrev pub access_of : Insn → Option Access
access_of (Load size dst base offset) = Some (record {
  base = base.number;
  offset = offset;
  size = size;
  is_store = false;
})
access_of (LoadSx size dst base offset) = Some (record {
  base = base.number;
  offset = offset;
  size = size;
  is_store = false;
})
access_of (Store size base offset src) = Some (record {
  base = base.number;
  offset = offset;
  size = size;
  is_store = true;
})
access_of (StoreImm size base offset imm) = Some (record {
  base = base.number;
  offset = offset;
  size = size;
  is_store = true;
})
access_of _ = None

-- ---- the rules, each as a test; where a rule does not speak of an instruction or a register it is met

-- an operation on 64 bits may move an address: a move copies it, a sum takes it on either side, a difference on the
-- left
abbrev pub pointers_fit : {D : Type 0} → Width → AluOp → RegState D → RegState D → Bool
pointers_fit W64 Mov a b = true
pointers_fit W64 Add a b = not (is_pointer a && is_pointer b)
pointers_fit W64 Sub a b = not (is_pointer b)
pointers_fit w Mov a b = not (is_pointer b)
pointers_fit w op a b = not (is_pointer a || is_pointer b)

abbrev pub meets_operation : {D : Type 0} → Ops D → Insn → View D → Bool
meets_operation o (Alu width op dst src) s = pointers_fit width op (s.registers dst.number) (operand_state o s src)
meets_operation o (Neg width dst) s = not (is_pointer (s.registers dst.number))
meets_operation o (MovSx width bits dst src) s = not (is_pointer (s.registers src.number))
meets_operation o (End kind bits dst) s = not (is_pointer (s.registers dst.number))
meets_operation o _ s = true

abbrev pub is_move : Option Span → Bool
is_move None = false
is_move (Some a) = true

-- an address moved by a number stays near
abbrev pub sum_in_range : {D : Type 0} → Ops D → AluOp → RegState D → RegState D → Bool
sum_in_range o op (Record a) (Scalar b) = is_move (moved_span o op a b)
sum_in_range o op (Stack a) (Scalar b) = is_move (moved_span o op a b)
sum_in_range o Add (Scalar a) (Record b) = is_move (moved_span o Add b a)
sum_in_range o Add (Scalar a) (Stack b) = is_move (moved_span o Add b a)
sum_in_range o _ _ _ = true

abbrev pub operation_in_range : {D : Type 0} → Ops D → Width → AluOp → RegState D → RegState D → Bool
operation_in_range o W64 Add a b = sum_in_range o Add a b
operation_in_range o W64 Sub a b = sum_in_range o Sub a b
operation_in_range o w op a b = true

abbrev pub meets_range : {D : Type 0} → Ops D → Insn → View D → Bool
meets_range o (Alu width op dst src) s = operation_in_range o width op (s.registers dst.number) (operand_state o s src)
meets_range o _ s = true

abbrev pub meets_comparison : {D : Type 0} → Ops D → Insn → View D → Bool
meets_comparison o (JumpIf width test dst src distance) s = not (is_pointer (s.registers dst.number)
    || is_pointer (operand_state o s src))
meets_comparison o _ s = true

abbrev pub meets_stored : {D : Type 0} → Insn → View D → Bool
meets_stored (Store size base offset src) s = not (is_pointer (s.registers src.number))
meets_stored _ s = true

abbrev pub meets_result : {D : Type 0} → Insn → View D → Bool
meets_result Exit s = not (is_pointer (s.registers 0))
meets_result _ s = true

-- in a record of len bytes
abbrev pub inside_record : {D : Type 0} → ℕ → RegState D → Access → Bool
inside_record len (Record a) r = in_record len (reach_of a r.offset r.size)
inside_record len _ r = true

abbrev pub spares_record : {D : Type 0} → RegState D → Access → Bool
spares_record (Record a) r = not r.is_store
spares_record _ r = true

abbrev pub inside_stack : {D : Type 0} → RegState D → Access → Bool
inside_stack (Stack a) r = in_stack (reach_of a r.offset r.size)
inside_stack _ r = true

abbrev pub finds_written : {D : Type 0} → (ℕ → Bool) → RegState D → Access → Bool
finds_written written (Stack a) r = r.is_store || is_written_at written (reach_of a r.offset r.size)
finds_written written _ r = true

-- a test of the access of an instruction, if it has one
abbrev pub of_access : {D : Type 0} → Insn → View D → (RegState D → Access → Bool) → Bool
of_access i s test = elim (access_of i) [ None ↦ true | Some r ↦ test (s.registers r.base) r ]

abbrev pub is_r10 : Option ℕ → Bool
is_r10 None = false
is_r10 (Some r) = r == 10

-- whether an instruction in a state meets a rule, for records of len bytes
abbrev pub meets_for : {D : Type 0} → ℕ → Ops D → Insn → View D → Rule → Bool
meets_for len o i s UnreadableRule = list_all (λ r. is_readable (s.registers r)) (reads i)
meets_for len o i s WritesR10 = not (is_r10 (writes i))
meets_for len o i s PointerOperation = meets_operation o i s
meets_for len o i s PointerRange = meets_range o i s
meets_for len o i s PointerCompared = meets_comparison o i s
meets_for len o i s PointerStored = meets_stored i s
meets_for len o i s OutsideRecord = of_access i s (inside_record len)
meets_for len o i s WritesRecord = of_access i s spares_record
meets_for len o i s OutsideStack = of_access i s inside_stack
meets_for len o i s UnwrittenStack = of_access i s (finds_written s.written)
meets_for len o i s ScalarAddress = of_access i s (λ base r. not (is_scalar base))
meets_for len o i s PointerResult = meets_result i s
meets_for len o i s _ = true

-- it meets each rule
abbrev pub PassesFor : {D : Type 0} → ℕ → Ops D → Insn → View D → Type 0
PassesFor len o i s = (rule : Rule) → IsTrue (meets_for len o i s rule)

-- a rule is the first that it fails, for records of len bytes
pub record FailsFirstFor {D : Type 0} (len : ℕ) (o : Ops D) (i : Insn) (s : View D) (rule : Rule) : Type 0 where
  pub fails : meets_for len o i s rule ≡ false
  pub first : (other : Rule) → rule_number other < rule_number rule → IsTrue (meets_for len o i s other)

-- the same for the record of a clash
abbrev pub meets : {D : Type 0} → Ops D → Insn → View D → Rule → Bool
meets = meets_for record_len

abbrev pub Passes : {D : Type 0} → Ops D → Insn → View D → Type 0
Passes = PassesFor record_len

abbrev pub FailsFirst : {D : Type 0} → Ops D → Insn → View D → Rule → Type 0
FailsFirst = FailsFirstFor record_len

-- ---- what is carried on

-- an address moved, of the same kind
abbrev pub to_record : {D : Type 0} → Option Span → RegState D
to_record None = Unreadable
to_record (Some a) = Record a

abbrev pub to_stack : {D : Type 0} → Option Span → RegState D
to_stack None = Unreadable
to_stack (Some a) = Stack a

-- a sum or a difference of 64 bits
abbrev pub sum_of : {D : Type 0} → Ops D → AluOp → RegState D → RegState D → RegState D
sum_of o op (Scalar a) (Scalar b) = Scalar (o.alu W64 op a b)
sum_of o op (Record a) (Scalar b) = to_record (moved_span o op a b)
sum_of o op (Stack a) (Scalar b) = to_stack (moved_span o op a b)
sum_of o Add (Scalar a) (Record b) = to_record (moved_span o Add b a)
sum_of o Add (Scalar a) (Stack b) = to_stack (moved_span o Add b a)
sum_of o op _ _ = Unreadable

abbrev pub of_scalar : {D : Type 0} → (D → D) → RegState D → RegState D
of_scalar f (Scalar a) = Scalar (f a)
of_scalar f _ = Unreadable

abbrev pub of_scalars : {D : Type 0} → (D → D → D) → RegState D → RegState D → RegState D
of_scalars f (Scalar a) (Scalar b) = Scalar (f a b)
of_scalars f _ _ = Unreadable

-- the result of an operation; a move reads its source alone
abbrev pub result_of : {D : Type 0} → Ops D → Width → AluOp → RegState D → RegState D → RegState D
result_of o W64 Mov a b = b
result_of o W32 Mov a b = of_scalars (o.alu W32 Mov) b b
result_of o W64 Add a b = sum_of o Add a b
result_of o W64 Sub a b = sum_of o Sub a b
result_of o w op a b = of_scalars (o.alu w op) a b

-- a store at a single offset marks its bytes, at several offsets none
abbrev pub marks : (ℕ → Bool) → Reach → ℕ → Bool
marks written a = if int_le a.hi a.lo then with_marks written (stack_index a.lo) a.len else written

abbrev pub after_store : {D : Type 0} → View D → RegState D → ℤ → Size → View D
after_store s (Stack a) offset size = record {
  registers = s.registers;
  written = marks s.written (reach_of a offset size);
}
after_store s _ offset size = s

-- the state with a destination and a tested register cut, or nothing on a dead edge
abbrev pub cut_one : {D : Type 0} → View D → ℕ → Option (D × D) → Option (View D)
cut_one s d None = None
cut_one s d (Some p) = Some (with_register s d (Scalar p.0))

abbrev pub cut_both : {D : Type 0} → View D → ℕ → ℕ → Option (D × D) → Option (View D)
cut_both s d r None = None
cut_both s d r (Some p) = Some (with_register (with_register s d (Scalar p.0)) r (Scalar p.1))

-- a test against a number of the instruction cuts the destination alone
abbrev pub refined_imm : {D : Type 0} → Ops D → Width → Test → Bool → View D → ℕ → ℕ → RegState D → Option (View D)
refined_imm o w test taken s d n (Scalar a) = cut_one s d (o.refine w test taken a (o.single (low w n)))
refined_imm o w test taken s d n _ = None

abbrev pub refined_pair : {D : Type 0} → Ops D → Width → Test → Bool → View D → ℕ → ℕ → RegState D → RegState D
    → Option (View D)
refined_pair o w test taken s d r (Scalar a) (Scalar b) = cut_both s d r (o.refine w test taken a b)
refined_pair o w test taken s d r _ _ = None

-- a test of two registers cuts both, a register tested with itself none
abbrev pub on_edge : {D : Type 0} → Ops D → Width → Test → Bool → View D → ℕ → Source → Option (View D)
on_edge o w test taken s d (Imm n) = refined_imm o w test taken s d (cast_unsigned w64 n) (s.registers d)
on_edge o w test taken s d (Reg r) = if d == r.number then Some s
    else refined_pair o w test taken s d r.number (s.registers d) (s.registers r.number)

-- the state that goes on to the next instruction
abbrev pub fall : {D : Type 0} → Ops D → Insn → View D → Option (View D)
fall o (Alu width op dst src) s = Some (with_register s dst.number
    (result_of o width op (s.registers dst.number) (operand_state o s src)))
fall o (Neg width dst) s = Some (with_register s dst.number (of_scalar (o.neg width) (s.registers dst.number)))
fall o (MovSx width bits dst src) s = Some (with_register s dst.number
    (of_scalar (o.mov_sx width bits) (s.registers src.number)))
fall o (End kind bits dst) s = Some (with_register s dst.number (of_scalar (o.end kind bits) (s.registers dst.number)))
fall o (LoadWide dst value) s = Some (with_register s dst.number (Scalar (o.single value)))
fall o (Load size dst base offset) s = Some (with_register s dst.number (Scalar (o.load size false)))
fall o (LoadSx size dst base offset) s = Some (with_register s dst.number (Scalar (o.load size true)))
fall o (Store size base offset src) s = Some (after_store s (s.registers base.number) offset size)
fall o (StoreImm size base offset imm) s = Some (after_store s (s.registers base.number) offset size)
fall o (Jump distance) s = None
fall o (JumpLong distance) s = None
fall o (JumpIf width test dst src distance) s = on_edge o width test false s dst.number src
fall o Exit s = None

-- the state that goes along the jump
abbrev pub jump : {D : Type 0} → Ops D → Insn → View D → Option (View D)
jump o (Jump distance) s = Some s
jump o (JumpLong distance) s = Some s
jump o (JumpIf width test dst src distance) s = on_edge o width test true s dst.number src
jump o _ s = None
