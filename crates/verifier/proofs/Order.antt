-- The order of registers, and what keeps it: kinds, addresses moved, bytes that are written.
use Rattle.std.proofs.Common.{◌≡◌, ℕ, zero, suc, ◌+◌, ◌-◌, ◌^◌, ◌<◌, ◌≤◌, Bool, true, false, cond, ◌&&◌, ◌||◌, ◌⊎◌, inl, inr, refl, ap, ap₂, sym, subst, arith, Option, Some, None, ℤ}
use Rattle.std.specs.Prelude.{IsTrue, pos, negsuc, ◌≤ℤ◌, ◌+ℤ◌, ◌-ℤ◌, nat_le, not}
use Rattle.std.proofs.lemmas.Int.{ints}
use Rattle.std.proofs.lemmas.Bool.Decides.{nat_tests}
use Rattle.instruction_set.specs.declared.insn.Width.{Width}
use Rattle.instruction_set.specs.declared.insn.Width.TheVariants.{W32, W64}
use Rattle.instruction_set.specs.declared.insn.AluOp.{AluOp}
use Rattle.instruction_set.specs.declared.insn.AluOp.TheVariants.{Add, Sub, Mov}
use Rattle.abstract_value.specs.Domain.{Ops, Laws}
use Rattle.abstract_value.specs.StackBytes.{all_written}
use Rattle.abstract_value.specs.States.{make_span, span_below, reg_below}
use Rattle.abstract_value.specs.laws.OrderOfStates.{span_within, within_span, make_lo, make_hi}
use Rattle.abstract_value.specs.declared.states.Span.{Span}
use Rattle.abstract_value.specs.declared.states.RegState.{RegState}
use Rattle.abstract_value.specs.declared.states.RegState.TheVariants.{Scalar, Record, Stack, Unreadable}
use Rattle.verifier.specs.Rules.{is_readable, is_pointer, is_scalar, steps_of, is_near, span_moved, moved_by, moved_span, is_move, pointers_fit, operation_in_range, to_record, to_stack, of_scalar, result_of}
use Rattle.verifier.proofs.Moves.{is_mov}

pub both : (a b : Bool) → IsTrue (a && b) → IsTrue a × IsTrue b
both true b h = (refl, h)
both false b h = absurd (cc)

pub and : (a b : Bool) → IsTrue a → IsTrue b → IsTrue (a && b)
and true b h k = k
and false b h k = absurd (cc)

-- a register below one that is readable
pub data Readable {D : Type 0} (o : Ops D) : RegState D → RegState D → Type 0 where
  numbers : (a b : D) → IsTrue (o.below a b) → Readable o (Scalar a) (Scalar b)
  records : (a b : Span) → IsTrue (span_below a b) → Readable o (Record a) (Record b)
  stacks : (a b : Span) → IsTrue (span_below a b) → Readable o (Stack a) (Stack b)

pub is_below : {D : Type 0} (o : Ops D) (a b : RegState D) → IsTrue (reg_below o a b) → IsTrue (is_readable b)
    → Readable o a b
is_below o (Scalar a) (Scalar b) h k = numbers a b h
is_below o (Record a) (Record b) h k = records a b h
is_below o (Stack a) (Stack b) h k = stacks a b h
is_below o a Unreadable h k = absurd (cc)
is_below o Unreadable (Scalar b) h k = absurd (cc)
is_below o (Record a) (Scalar b) h k = absurd (cc)
is_below o (Stack a) (Scalar b) h k = absurd (cc)
is_below o Unreadable (Record b) h k = absurd (cc)
is_below o (Scalar a) (Record b) h k = absurd (cc)
is_below o (Stack a) (Record b) h k = absurd (cc)
is_below o Unreadable (Stack b) h k = absurd (cc)
is_below o (Scalar a) (Stack b) h k = absurd (cc)
is_below o (Record a) (Stack b) h k = absurd (cc)

pub readable_down : {D : Type 0} {o : Ops D} {a b : RegState D} → Readable o a b → IsTrue (is_readable a)
readable_down (numbers a b h) = refl
readable_down (records a b h) = refl
readable_down (stacks a b h) = refl

-- both are of one kind
pub same_pointer : {D : Type 0} {o : Ops D} {a b : RegState D} → Readable o a b → is_pointer a ≡ is_pointer b
same_pointer (numbers a b h) = refl
same_pointer (records a b h) = refl
same_pointer (stacks a b h) = refl

pub same_scalar : {D : Type 0} {o : Ops D} {a b : RegState D} → Readable o a b → is_scalar a ≡ is_scalar b
same_scalar (numbers a b h) = refl
same_scalar (records a b h) = refl
same_scalar (stacks a b h) = refl

-- whether an operation may have these operands depends on their kinds alone, and of a move on its source's
pub same_fit : {D : Type 0} (w : Width) (op : AluOp) (a b c e : RegState D)
    → (is_mov op ≡ false → is_pointer a ≡ is_pointer b) → is_pointer c ≡ is_pointer e
    → pointers_fit w op a c ≡ pointers_fit w op b e
same_fit W64 Mov a b c e h k = refl
same_fit W32 Mov a b c e h k = ap (λ x. not x) k
same_fit W64 Add a b c e h k = ap₂ (λ x y. not (x && y)) (h refl) k
same_fit W64 Sub a b c e h k = ap (λ x. not x) k
same_fit W32 op a b c e h k = ap₂ (λ x y. not (x || y)) (h refl) k
same_fit W64 op a b c e h k = ap₂ (λ x y. not (x || y)) (h refl) k

-- ---- moving addresses

-- of less known numbers the steps are among those of more
abbrev StepsWithin : Option (ℤ × ℤ) → Option (ℤ × ℤ) → Type 0
StepsWithin x None = Unit {0}
StepsWithin None (Some s) = ⊥
StepsWithin (Some r) (Some s) = (s.0 ≤ℤ r.0) × (r.1 ≤ℤ s.1) × (r.0 ≤ℤ r.1)

abbrev steps : ℕ → ℕ → Option (ℤ × ℤ)
steps low high = cond (nat_le high 65535) (Some (pos low, pos high))
    (cond (nat_le (2 ^ 64 - 65536) low) (Some (pos low -ℤ pos (2 ^ 64), pos high -ℤ pos (2 ^ 64))) None)

le_tells : (m n : ℕ) → ((nat_le m n ≡ true) × (m ≤ n)) ⊎ ((nat_le m n ≡ false) × (n < m))
le_tells m n = grind (arith, nat_tests)

steps_within : (low high low' high' : ℕ) → low' ≤ low → high ≤ high' → low ≤ high
    → StepsWithin (steps low high) (steps low' high')
steps_within low high low' high' l h o =
    elim (le_tells high' 65535) [
      | inl p ↦
          let t : nat_le high 65535 ≡ true = grind (arith, nat_tests) in
          rw (p.0, t) (omega (arith, ints), omega (arith, ints), omega (arith, ints))
      | inr p ↦ elim (le_tells (2 ^ 64 - 65536) low') [
        | inl q ↦
            let f : nat_le high 65535 ≡ false = grind (arith, nat_tests) in
            let t : nat_le (2 ^ 64 - 65536) low ≡ true = grind (arith, nat_tests) in
            rw (p.0, q.0, f, t) (omega (arith, ints), omega (arith, ints), omega (arith, ints))
        | inr q ↦ rw (p.0, q.0) tt
      ]
    ]

-- a span moved, below another moved
abbrev SpanBelow : Option Span → Option Span → Type 0
SpanBelow x None = Unit {0}
SpanBelow None (Some b) = ⊥
SpanBelow (Some a) (Some b) = IsTrue (span_below a b)

near_tells : (lo hi : ℤ) → ((is_near lo hi ≡ true) × (negsuc 65535 ≤ℤ lo) × (hi ≤ℤ pos 65536)) ⊎ (is_near lo hi ≡ false)
near_tells lo hi = grind (arith, ints)

near : (lo hi : ℤ) → negsuc 65535 ≤ℤ lo → hi ≤ℤ pos 65536 → is_near lo hi ≡ true
near lo hi l h = grind (arith, ints)

made : (lo hi lo' hi' : ℤ) → lo' ≤ℤ lo → hi ≤ℤ hi' → lo ≤ℤ hi → negsuc 65535 ≤ℤ lo' → hi' ≤ℤ pos 65536
    → IsTrue (span_below (make_span lo hi) (make_span lo' hi'))
made lo hi lo' hi' l h o m n =
    let a = make_lo lo hi o (omega (arith, ints)) (omega (arith, ints)) in
    let b = make_hi lo hi o (omega (arith, ints)) (omega (arith, ints)) in
    let c = make_lo lo' hi' (omega (arith, ints)) m n in
    let d = make_hi lo' hi' (omega (arith, ints)) m n in
    within_span (make_span lo hi) (make_span lo' hi') (subst (λ z. z ≤ℤ (make_span lo hi).lo) (sym c)
    (subst (λ z. lo' ≤ℤ z) (sym a) l)) (subst (λ z. z ≤ℤ (make_span lo' hi').hi) (sym b)
    (subst (λ z. hi ≤ℤ z) (sym d) h))

add_down : (a b : Span) (r s : ℤ × ℤ) → IsTrue (span_below a b) → s.0 ≤ℤ r.0 → r.1 ≤ℤ s.1 → r.0 ≤ℤ r.1
    → SpanBelow (span_moved Add a r) (span_moved Add b s)
add_down a b r s h l u o =
    let w = span_within a b h in
    let ao : a.lo ≤ℤ a.hi = a.ordered in
    elim (near_tells (b.lo +ℤ s.0) (b.hi +ℤ s.1)) [
      | inl p ↦
          let t = near (a.lo +ℤ r.0) (a.hi +ℤ r.1) (omega (arith, ints)) (omega (arith, ints)) in
          rw (p.0, t) (made (a.lo +ℤ r.0) (a.hi +ℤ r.1) (b.lo +ℤ s.0) (b.hi +ℤ s.1) (omega (arith, ints))
          (omega (arith, ints)) (omega (arith, ints)) p.1 p.2)
      | inr f ↦ rw f tt
    ]

sub_down : (a b : Span) (r s : ℤ × ℤ) → IsTrue (span_below a b) → s.0 ≤ℤ r.0 → r.1 ≤ℤ s.1 → r.0 ≤ℤ r.1
    → SpanBelow (span_moved Sub a r) (span_moved Sub b s)
sub_down a b r s h l u o =
    let w = span_within a b h in
    let ao : a.lo ≤ℤ a.hi = a.ordered in
    elim (near_tells (b.lo -ℤ s.1) (b.hi -ℤ s.0)) [
      | inl p ↦
          let t = near (a.lo -ℤ r.1) (a.hi -ℤ r.0) (omega (arith, ints)) (omega (arith, ints)) in
          rw (p.0, t) (made (a.lo -ℤ r.1) (a.hi -ℤ r.0) (b.lo -ℤ s.1) (b.hi -ℤ s.0) (omega (arith, ints))
          (omega (arith, ints)) (omega (arith, ints)) p.1 p.2)
      | inr f ↦ rw f tt
    ]

add_steps_down : (a b : Span) (x y : Option (ℤ × ℤ)) → IsTrue (span_below a b) → StepsWithin x y
    → SpanBelow (moved_by Add a x) (moved_by Add b y)
add_steps_down a b x None h k = tt
add_steps_down a b None (Some s) h k = absurd k
add_steps_down a b (Some r) (Some s) h k = add_down a b r s h k.0 k.1 k.2

sub_steps_down : (a b : Span) (x y : Option (ℤ × ℤ)) → IsTrue (span_below a b) → StepsWithin x y
    → SpanBelow (moved_by Sub a x) (moved_by Sub b y)
sub_steps_down a b x None h k = tt
sub_steps_down a b None (Some s) h k = absurd k
sub_steps_down a b (Some r) (Some s) h k = sub_down a b r s h k.0 k.1 k.2

is_move_down : (x y : Option Span) → SpanBelow x y → IsTrue (is_move y) → IsTrue (is_move x)
is_move_down x None h k = absurd (cc)
is_move_down None (Some b) h k = absurd h
is_move_down (Some a) (Some b) h k = refl

-- ---- bytes that are written

within_all : (w v : ℕ → Bool) (from n from' n' : ℕ) → ((k : ℕ) → IsTrue (v k) → IsTrue (w k)) → from ≤ from'
    → from' + n' ≤ from + n → ((j : ℕ) → j < n → IsTrue (v (from + j))) → IsTrue (all_written w from' n')
within_all w v from n from' zero up l h each = refl
within_all w v from n from' (suc n') up l h each =
    let j = from' - from in
    let e : from + j ≡ from' = omega arith in
    and (w from') (all_written w (from' + 1) n') (up from' (subst (λ k. IsTrue (v k)) e (each j (omega arith))))
    (within_all w v from n (from' + 1) n' up (omega arith) (omega arith) each)

each_of : (w : ℕ → Bool) (from n j : ℕ) → IsTrue (all_written w from n) → j < n → IsTrue (w (from + j))
each_of w from zero j h l = absurd (omega arith)
each_of w from (suc n) zero h l = let e : from + 0 ≡ from = omega arith in
    subst (λ k. IsTrue (w k)) (sym e) (both (w from) (all_written w (from + 1) n) h).0
each_of w from (suc n) (suc j) h l =
    let e : from + 1 + j ≡ from + suc j = omega arith in
    subst (λ k. IsTrue (w k)) e (each_of w (from + 1) n j (both (w from) (all_written w (from + 1) n) h).1
    (omega arith))

-- fewer bytes of more that are written
pub all_written_down : (w v : ℕ → Bool) (from n from' n' : ℕ) → ((k : ℕ) → IsTrue (v k) → IsTrue (w k)) → from ≤ from'
    → from' + n' ≤ from + n → IsTrue (all_written v from n) → IsTrue (all_written w from' n')
all_written_down w v from n from' n' up l h all = within_all w v from n from' n' up l h
    (λ j k. each_of v from n j all k)

module _ {D : Type 0} {o : Ops D} (laws : Laws o) where
  steps_down : (a b : D) → IsTrue (o.below a b) → StepsWithin (steps_of o a) (steps_of o b)
  steps_down a b h = let p = laws.bounds_widen a b h in steps_within (o.low a) (o.high a) (o.low b) (o.high b) p.0 p.1
      (laws.bounds_ordered a)

  -- operands in range are so in each state below
  pub range_down : (w : Width) (op : AluOp) {a b c e : RegState D} → Readable o a b → Readable o c e
      → IsTrue (operation_in_range o w op b e) → IsTrue (operation_in_range o w op a c)
  range_down W64 Add (records a b h) (numbers c e k) f = is_move_down (moved_span o Add a c) (moved_span o Add b e)
      (add_steps_down a b (steps_of o c) (steps_of o e) h (steps_down c e k)) f
  range_down W64 Add (stacks a b h) (numbers c e k) f = is_move_down (moved_span o Add a c) (moved_span o Add b e)
      (add_steps_down a b (steps_of o c) (steps_of o e) h (steps_down c e k)) f
  range_down W64 Add (numbers c e k) (records a b h) f = is_move_down (moved_span o Add a c) (moved_span o Add b e)
      (add_steps_down a b (steps_of o c) (steps_of o e) h (steps_down c e k)) f
  range_down W64 Add (numbers c e k) (stacks a b h) f = is_move_down (moved_span o Add a c) (moved_span o Add b e)
      (add_steps_down a b (steps_of o c) (steps_of o e) h (steps_down c e k)) f
  range_down W64 Sub (records a b h) (numbers c e k) f = is_move_down (moved_span o Sub a c) (moved_span o Sub b e)
      (sub_steps_down a b (steps_of o c) (steps_of o e) h (steps_down c e k)) f
  range_down W64 Sub (stacks a b h) (numbers c e k) f = is_move_down (moved_span o Sub a c) (moved_span o Sub b e)
      (sub_steps_down a b (steps_of o c) (steps_of o e) h (steps_down c e k)) f
  range_down W32 op h k f = refl
  range_down W64 op h k f = refl

  to_record_up : (x y : Option Span) → SpanBelow x y → IsTrue (reg_below o (to_record x) (to_record y))
  to_record_up x None h = refl
  to_record_up None (Some b) h = absurd h
  to_record_up (Some a) (Some b) h = h

  to_stack_up : (x y : Option Span) → SpanBelow x y → IsTrue (reg_below o (to_stack x) (to_stack y))
  to_stack_up x None h = refl
  to_stack_up None (Some b) h = absurd h
  to_stack_up (Some a) (Some b) h = h

  -- results keep the order
  pub result_up : (w : Width) (op : AluOp) {a b c e : RegState D} → is_mov op ≡ false → Readable o a b → Readable o c e
      → IsTrue (reg_below o (result_of o w op a c) (result_of o w op b e))
  result_up w Mov n h k = absurd (cc)
  result_up W64 Add n (numbers a b h) (numbers c e k) = laws.alu_monotone W64 Add a c b e h k
  result_up W64 Add n (records a b h) (numbers c e k) = to_record_up (moved_span o Add a c) (moved_span o Add b e)
      (add_steps_down a b (steps_of o c) (steps_of o e) h (steps_down c e k))
  result_up W64 Add n (stacks a b h) (numbers c e k) = to_stack_up (moved_span o Add a c) (moved_span o Add b e)
      (add_steps_down a b (steps_of o c) (steps_of o e) h (steps_down c e k))
  result_up W64 Add n (numbers c e k) (records a b h) = to_record_up (moved_span o Add a c) (moved_span o Add b e)
      (add_steps_down a b (steps_of o c) (steps_of o e) h (steps_down c e k))
  result_up W64 Add n (numbers c e k) (stacks a b h) = to_stack_up (moved_span o Add a c) (moved_span o Add b e)
      (add_steps_down a b (steps_of o c) (steps_of o e) h (steps_down c e k))
  result_up W64 Sub n (numbers a b h) (numbers c e k) = laws.alu_monotone W64 Sub a c b e h k
  result_up W64 Sub n (records a b h) (numbers c e k) = to_record_up (moved_span o Sub a c) (moved_span o Sub b e)
      (sub_steps_down a b (steps_of o c) (steps_of o e) h (steps_down c e k))
  result_up W64 Sub n (stacks a b h) (numbers c e k) = to_stack_up (moved_span o Sub a c) (moved_span o Sub b e)
      (sub_steps_down a b (steps_of o c) (steps_of o e) h (steps_down c e k))
  result_up W32 op n (numbers a b h) (numbers c e k) = laws.alu_monotone W32 op a c b e h k
  result_up W64 op n (numbers a b h) (numbers c e k) = laws.alu_monotone W64 op a c b e h k
  result_up W32 op n h k = refl
  result_up W64 op n h k = refl

  pub scalar_up : (f g : D → D) {a b : RegState D} → ((x y : D) → IsTrue (o.below x y) → IsTrue (o.below (f x) (g y)))
      → Readable o a b → IsTrue (reg_below o (of_scalar f a) (of_scalar g b))
  scalar_up f g m (numbers a b h) = m a b h
  scalar_up f g m (records a b h) = refl
  scalar_up f g m (stacks a b h) = refl

  -- a 32-bit move reads its source alone
  pub mov_up : (w : Width) (a b : RegState D) {c e : RegState D} → Readable o c e → IsTrue (reg_below o c e)
      → IsTrue (reg_below o (result_of o w Mov a c) (result_of o w Mov b e))
  mov_up W64 a b h k = k
  mov_up W32 a b (numbers c e h) k = laws.alu_monotone W32 Mov c c e e h h
  mov_up W32 a b (records c e h) k = refl
  mov_up W32 a b (stacks c e h) k = refl
