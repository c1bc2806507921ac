-- The order of abstract states, from the laws of a domain.
use Rattle.std.specs.Prelude.{◌≡◌, ◌+◌, Bool, true, false, ◌&&◌, ◌||◌, nat_lt, nat_le, int_le, ◌≤ℤ◌, ℤ, pos, negsuc, IsTrue}
use Rattle.std.proofs.Common.{arith, refl, ap, inl, inr}
use Rattle.std.proofs.lemmas.Bool.Decides.{eqb_tells}
use Rattle.std.proofs.lemmas.Int.{ints, clamps}
use Rattle.std.proofs.Math.Dec.{T_prop}
use Rattle.std.specs.Int.{int_min, int_max}
use mathlib.Core.HLevel.{is_prop→PathP}
use Rattle.abstract_value.specs.Domain.{Ops, Laws}
use Rattle.abstract_value.specs.States.{make_span, span_below, span_join, reg_below, reg_join, View, ViewBelow, view_join}
use Rattle.abstract_value.specs.StateOrder.{StateOrder}
use Rattle.abstract_value.specs.declared.states.RegState.{RegState}
use Rattle.abstract_value.specs.declared.states.RegState.TheVariants.{Scalar, Record, Stack, Unreadable}
use Rattle.abstract_value.specs.declared.states.Span.{Span}

-- ---- spans

pub span_within : (a b : Span) → IsTrue (span_below a b) → (b.lo ≤ℤ a.lo) × (a.hi ≤ℤ b.hi)
span_within a b h = grind (arith, ints)

pub within_span : (a b : Span) → b.lo ≤ℤ a.lo → a.hi ≤ℤ b.hi → IsTrue (span_below a b)
within_span a b h k = grind (arith, ints)

-- spans in range have the requested ends
pub make_lo : (lo hi : ℤ) → lo ≤ℤ hi → negsuc 65535 ≤ℤ lo → hi ≤ℤ pos 65536 → (make_span lo hi).lo ≡ lo
make_lo lo hi o l h = omega (arith, ints, clamps)

pub make_hi : (lo hi : ℤ) → lo ≤ℤ hi → negsuc 65535 ≤ℤ lo → hi ≤ℤ pos 65536 → (make_span lo hi).hi ≡ hi
make_hi lo hi o l h = omega (arith, ints, clamps)

-- the join of two spans has the requested ends
join_ends : (a b : Span) → ((span_join a b).lo ≡ int_min a.lo b.lo) × ((span_join a b).hi ≡ int_max a.hi b.hi)
join_ends a b =
    let al : negsuc 65535 ≤ℤ a.lo = a.near_below in
    let ah : a.hi ≤ℤ pos 65536 = a.near_above in
    let ao : a.lo ≤ℤ a.hi = a.ordered in
    let bl : negsuc 65535 ≤ℤ b.lo = b.near_below in
    let bh : b.hi ≤ℤ pos 65536 = b.near_above in
    let bo : b.lo ≤ℤ b.hi = b.ordered in
    (omega (arith, ints, clamps), omega (arith, ints, clamps))

span_same : (a : Span) → IsTrue (span_below a a)
span_same a = grind (arith, ints)

span_through : (a b c : Span) → IsTrue (span_below a b) → IsTrue (span_below b c) → IsTrue (span_below a c)
span_through a b c h k = grind (arith, ints)

at_most_prop : (a b : ℤ) (p q : a ≤ℤ b) → p ≡ q
at_most_prop a b p q i = record { le = T_prop (int_le a b) p.le q.le i }

same_span : (a b : Span) → a.lo ≡ b.lo → a.hi ≡ b.hi → a ≡ b
same_span a b h k i = record {
  lo = h i;
  hi = k i;
  ordered = is_prop→PathP (λ j. h j ≤ℤ k j) (λ j. at_most_prop (h j) (k j)) a.ordered b.ordered i;
  near_below =
      is_prop→PathP (λ j. negsuc 65535 ≤ℤ h j) (λ j. at_most_prop (negsuc 65535) (h j)) a.near_below b.near_below i;
  near_above = is_prop→PathP (λ j. k j ≤ℤ pos 65536) (λ j. at_most_prop (k j) (pos 65536)) a.near_above b.near_above i;
}

span_both : (a b : Span) → IsTrue (span_below a b) → IsTrue (span_below b a) → a ≡ b
span_both a b h k =
    let p = span_within a b h in
    let q = span_within b a k in
    same_span a b (omega (arith, ints)) (omega (arith, ints))

span_left : (a b : Span) → IsTrue (span_below a (span_join a b))
span_left a b =
    let e = join_ends a b in within_span a (span_join a b) (omega (arith, ints, clamps)) (omega (arith, ints, clamps))

span_right : (a b : Span) → IsTrue (span_below b (span_join a b))
span_right a b =
    let e = join_ends a b in within_span b (span_join a b) (omega (arith, ints, clamps)) (omega (arith, ints, clamps))

span_least : (a b c : Span) → IsTrue (span_below a c) → IsTrue (span_below b c) → IsTrue (span_below (span_join a b) c)
span_least a b c h k =
    let e = join_ends a b in
    let p = span_within a c h in
    let q = span_within b c k in
    within_span (span_join a b) c (omega (arith, ints, clamps)) (omega (arith, ints, clamps))

-- ---- written bytes

both : (a b : Bool) → IsTrue (a && b) → IsTrue a × IsTrue b
both true b h = (refl, h)
both false b h = absurd (cc)

-- a mark on more bytes leaves more bytes
either_below : (c a b : Bool) → (IsTrue b → IsTrue a) → IsTrue (c || b) → IsTrue (c || a)
either_below true a b h k = refl
either_below false a b h k = h k

module _ {D : Type 0} {o : Ops D} (laws : Laws o) where
  -- ---- registers

  pub reg_same : (a : RegState D) → IsTrue (reg_below o a a)
  reg_same (Scalar a) = laws.below_same a
  reg_same (Record a) = span_same a
  reg_same (Stack a) = span_same a
  reg_same Unreadable = refl

  -- the middle register comes first: its kind decides the cases
  reg_through : (b a c : RegState D) → IsTrue (reg_below o a b) → IsTrue (reg_below o b c) → IsTrue (reg_below o a c)
  reg_through (Scalar b) (Scalar a) (Scalar c) h k = laws.below_through a b c h k
  reg_through (Record b) (Record a) (Record c) h k = span_through a b c h k
  reg_through (Stack b) (Stack a) (Stack c) h k = span_through a b c h k
  reg_through b a Unreadable h k = refl
  reg_through b a c h k = absurd (cc)

  pub reg_both : (a b : RegState D) → IsTrue (reg_below o a b) → IsTrue (reg_below o b a) → a ≡ b
  reg_both (Scalar a) (Scalar b) h k = ap Scalar (laws.below_both a b h k)
  reg_both (Record a) (Record b) h k = ap Record (span_both a b h k)
  reg_both (Stack a) (Stack b) h k = ap Stack (span_both a b h k)
  reg_both Unreadable Unreadable h k = refl
  reg_both a b h k = absurd (cc)

  pub reg_left : (a b : RegState D) → IsTrue (reg_below o a (reg_join o a b))
  reg_left (Scalar a) (Scalar b) = laws.join_left a b
  reg_left (Record a) (Record b) = span_left a b
  reg_left (Stack a) (Stack b) = span_left a b
  reg_left a b = refl

  pub reg_right : (a b : RegState D) → IsTrue (reg_below o b (reg_join o a b))
  reg_right (Scalar a) (Scalar b) = laws.join_right a b
  reg_right (Record a) (Record b) = span_right a b
  reg_right (Stack a) (Stack b) = span_right a b
  reg_right a b = refl

  pub reg_least : (a b c : RegState D) → IsTrue (reg_below o a c) → IsTrue (reg_below o b c)
      → IsTrue (reg_below o (reg_join o a b) c)
  reg_least a b Unreadable h k = refl
  reg_least (Scalar a) (Scalar b) (Scalar c) h k = laws.join_least a b c h k
  reg_least (Record a) (Record b) (Record c) h k = span_least a b c h k
  reg_least (Stack a) (Stack b) (Stack c) h k = span_least a b c h k
  reg_least a b c h k = absurd (cc)

  -- ---- states

  pub view_same : (s : View D) → ViewBelow o s s
  view_same s = record { registers = λ r. reg_same (s.registers r); written = λ k h. h }

  pub view_through : (s t u : View D) → ViewBelow o s t → ViewBelow o t u → ViewBelow o s u
  view_through s t u h k = record {
    registers = λ r. reg_through (t.registers r) (s.registers r) (u.registers r) (h.registers r) (k.registers r);
    written = λ i w. h.written i (k.written i w);
  }

  pub view_left : (s t : View D) → ViewBelow o s (view_join o s t)
  view_left s t = record {
    registers = λ r. reg_left (s.registers r) (t.registers r);
    written = λ k h. (both (s.written k) (t.written k) h).0;
  }

  pub view_right : (s t : View D) → ViewBelow o t (view_join o s t)
  view_right s t = record {
    registers = λ r. reg_right (s.registers r) (t.registers r);
    written = λ k h. (both (s.written k) (t.written k) h).1;
  }

  pub view_least : (s t u : View D) → ViewBelow o s u → ViewBelow o t u → ViewBelow o (view_join o s t) u
  view_least s t u h k = record {
    registers = λ r. reg_least (s.registers r) (t.registers r) (u.registers r) (h.registers r) (k.registers r);
    written = λ i w. let p = h.written i w in let q = k.written i w in cc;
  }

  pub state_order : StateOrder o
  state_order = record {
    reg_same = reg_same;
    reg_through = λ a b c. reg_through b a c;
    reg_both = reg_both;
    reg_left = reg_left;
    reg_right = reg_right;
    reg_least = reg_least;
    view_same = view_same;
    view_through = view_through;
    view_left = view_left;
    view_right = view_right;
    view_least = view_least;
    register_below = λ s t r x y h k. record {
      registers = λ n. elim (eqb_tells n r) [ inl p ↦ rw p.0 k | inr p ↦ rw p.0 (h.registers n) ];
      written = h.written;
    };
    mark_below = λ s t from n h. record {
      registers = h.registers;
      written = λ k. either_below (nat_le from k && nat_lt k (from + n)) (s.written k) (t.written k) (h.written k);
    };
  }
