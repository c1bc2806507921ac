-- Abstract states, over a domain's operations.
use Rattle.std.specs.Prelude.{ℕ, Bool, true, false, ◌&&◌, ◌==◌, int_le, if◌then◌else◌, ℤ, pos, IsTrue, slice_index_or}
use Rattle.std.specs.Int.{int_min, int_max}
use Rattle.abstract_value.specs.Domain.{Ops}
use Rattle.abstract_value.specs.Offsets.{least_offset, greatest_offset}
use Rattle.abstract_value.specs.StackBytes.{is_written}
use Rattle.abstract_value.specs.laws.Ends.{span_ordered, span_near_below, span_near_above}
use Rattle.abstract_value.specs.declared.states.RegState.{RegState}
use Rattle.abstract_value.specs.declared.states.RegState.TheVariants.{Scalar, Record, Stack, Unreadable}
use Rattle.abstract_value.specs.declared.states.Span.{Span}
use Rattle.abstract_value.specs.declared.states.State.{State}

-- f with v at i
abbrev pub put : {A : Type 0} → (ℕ → A) → ℕ → A → ℕ → A
put f i v k = if k == i then v else f k

-- ---- spans of offsets

-- the nearest offset
abbrev pub near : ℤ → ℤ
near z = int_max least_offset (int_min z greatest_offset)

-- the offsets from lo to hi, if these are in order and in range
abbrev pub make_span : ℤ → ℤ → Span
make_span lo hi = record {
  lo = near (int_min lo hi);
  hi = near hi;
  ordered = span_ordered lo hi;
  near_below = span_near_below (int_min lo hi);
  near_above = span_near_above hi;
}

-- each offset of a is one of b
abbrev pub span_below : Span → Span → Bool
span_below a b = int_le b.lo a.lo && int_le a.hi b.hi

-- the least span above both
abbrev pub span_join : Span → Span → Span
span_join a b = make_span (int_min a.lo b.lo) (int_max a.hi b.hi)

-- ---- registers

-- the register may hold less; an unreadable one may hold anything
abbrev pub reg_below : {D : Type 0} → Ops D → RegState D → RegState D → Bool
reg_below o a Unreadable = true
reg_below o (Scalar a) (Scalar b) = o.below a b
reg_below o (Record a) (Record b) = span_below a b
reg_below o (Stack a) (Stack b) = span_below a b
reg_below o _ _ = false

-- the hull within one kind
abbrev pub reg_join : {D : Type 0} → Ops D → RegState D → RegState D → RegState D
reg_join o (Scalar a) (Scalar b) = Scalar (o.join a b)
reg_join o (Record a) (Record b) = Record (span_join a b)
reg_join o (Stack a) (Stack b) = Stack (span_join a b)
reg_join o _ _ = Unreadable

-- ---- states

-- the possible contents of each register, and the written stack bytes, counted from the lowest
pub record View (D : Type 0) : Type 0 where
  pub registers : ℕ → RegState D
  pub written : ℕ → Bool

-- a register that doesn't exist is unreadable
abbrev pub view : {D : Type 0} → State D → View D
view s = record { registers = λ r. slice_index_or s.registers r Unreadable; written = is_written s.stack }

-- at entry R1 is the record's address, R10 is the address just past the stack, and no byte is written
abbrev pub first_view : {D : Type 0} → View D
first_view = record {
  registers = λ r.
      if r == 1 then Record (make_span (pos 0) (pos 0))
      else (if r == 10 then Stack (make_span (pos 0) (pos 0)) else Unreadable);
  written = λ k. false;
}

-- each register may hold less, and more bytes are written
pub record ViewBelow {D : Type 0} (o : Ops D) (s t : View D) : Type 0 where
  pub registers : (r : ℕ) → IsTrue (reg_below o (s.registers r) (t.registers r))
  pub written : (k : ℕ) → IsTrue (t.written k) → IsTrue (s.written k)

-- register by register, and the bytes that both have written
abbrev pub view_join : {D : Type 0} → Ops D → View D → View D → View D
view_join o s t =
    record { registers = λ r. reg_join o (s.registers r) (t.registers r); written = λ k. s.written k && t.written k }

-- the state with another register, or with more bytes written
abbrev pub with_register : {D : Type 0} → View D → ℕ → RegState D → View D
with_register s r x = record { registers = put s.registers r x; written = s.written }

abbrev pub with_written : {D : Type 0} → View D → (ℕ → Bool) → View D
with_written s written = record { registers = s.registers; written = written }
