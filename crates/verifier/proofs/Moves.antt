-- What an operation does to tagged words: numbers by their meaning, addresses moved by numbers.
use Rattle.std.proofs.Common.{◌≡◌, ℕ, ◌+◌, ◌-◌, ◌%◌, ◌^◌, ◌<◌, ◌≤◌, Bool, true, false, cond, ◌⊎◌, inl, inr, refl, ◌∙◌, sym, subst, arith, Option, Some, None, ℤ}
use Rattle.std.specs.Prelude.{IsTrue, pos, negsuc, ◌≤ℤ◌, ◌+ℤ◌, ◌-ℤ◌, nat_le}
use Rattle.std.specs.Int.{w64, cast_unsigned}
use Rattle.std.proofs.lemmas.Int.{ints}
use Rattle.std.proofs.lemmas.Bool.Decides.{nat_tests}
use Rattle.instruction_set.specs.Machine.{Placement}
use Rattle.instruction_set.specs.Operations.{alu_of}
use Rattle.instruction_set.specs.declared.insn.Width.{Width}
use Rattle.instruction_set.specs.declared.insn.Width.TheVariants.{W32, W64}
use Rattle.instruction_set.specs.declared.insn.AluOp.{AluOp}
use Rattle.instruction_set.specs.declared.insn.AluOp.TheVariants.{Add, Sub, Mov}
use Rattle.abstract_value.specs.Domain.{Ops, Laws}
use Rattle.abstract_value.specs.States.{make_span}
use Rattle.abstract_value.specs.laws.OrderOfStates.{make_lo, make_hi}
use Rattle.abstract_value.specs.declared.states.Span.{Span}
use Rattle.abstract_value.specs.declared.states.RegState.{RegState}
use Rattle.abstract_value.specs.declared.states.RegState.TheVariants.{Scalar, Record, Stack, Unreadable}
use Rattle.verifier.specs.Rules.{is_readable, steps_of, is_near, moved_by, moved_span, is_move, pointers_fit, operation_in_range, to_record, to_stack, result_of}
use Rattle.verifier.proofs.Tags.{the_record, the_stack, Tag, num, ptr, base_of, raw, Covers}

pub truth : (b : Bool) → (b ≡ true) ⊎ (b ≡ false)
truth true = inl refl
truth false = inr refl

-- ---- steps

-- a number as a step: a whole number near zero whose word it is
pub record Step (lo hi : ℤ) (u : ℕ) : Type 0 where
  pub by : ℤ
  pub above : lo ≤ℤ by
  pub below : by ≤ℤ hi
  pub word : cast_unsigned w64 by ≡ u
  pub near_below : negsuc 65535 ≤ℤ by
  pub near_above : by ≤ℤ pos 65536

-- the steps of a domain's value, if it has some
pub data Steps : ℕ → ℕ → Option (ℤ × ℤ) → Type 0 where
  small : (low high : ℕ) → high ≤ 65535 → Steps low high (Some (pos low, pos high))
  below_zero : (low high : ℕ) → 2 ^ 64 - 65536 ≤ low → Steps low high
      (Some (pos low -ℤ pos (2 ^ 64), pos high -ℤ pos (2 ^ 64)))
  none : (low high : ℕ) → Steps low high None

abbrev chosen : ℕ → ℕ → Option (ℤ × ℤ)
chosen low high = cond (nat_le high 65535) (Some (pos low, pos high))
    (cond (nat_le (2 ^ 64 - 65536) low) (Some (pos low -ℤ pos (2 ^ 64), pos high -ℤ pos (2 ^ 64))) None)

steps_are : (low high : ℕ) → Steps low high (chosen low high)
steps_are low high =
    elim (truth (nat_le high 65535)) [
      | inl t ↦ rw t (small low high (grind (arith, nat_tests)))
      | inr f ↦ elim (truth (nat_le (2 ^ 64 - 65536) low)) [
        | inl t ↦ rw (f, t) (below_zero low high (grind (arith, nat_tests)))
        | inr g ↦ rw (f, g) (none low high)
      ]
    ]

abbrev Stepped : Option (ℤ × ℤ) → ℕ → Type 0
Stepped None u = Unit {0}
Stepped (Some steps) u = Step steps.0 steps.1 u

step_of : (low high u : ℕ) (q : Option (ℤ × ℤ)) → Steps low high q → low ≤ u → u ≤ high → high < 2 ^ 64 → Stepped q u
step_of low high u q (small l h s) a b f =
    record {
      by = pos u;
      above = omega (arith, ints);
      below = omega (arith, ints);
      word = omega (arith, ints);
      near_below = omega (arith, ints);
      near_above = omega (arith, ints);
    }
step_of low high u q (below_zero l h s) a b f =
    record {
      by = pos u -ℤ pos (2 ^ 64);
      above = omega (arith, ints);
      below = omega (arith, ints);
      word = omega (arith, ints);
      near_below = omega (arith, ints);
      near_above = omega (arith, ints);
    }
step_of low high u q (none l h) a b f = tt

-- ---- moving an address

-- an address at an offset moved by a number, and its new offset among the new ones
pub record Moved (op : AluOp) (k : ℤ) (u : ℕ) (r : Option Span) : Type 0 where
  pub span : Span
  pub is : r ≡ Some span
  pub to : ℤ
  pub above : span.lo ≤ℤ to
  pub below : to ≤ℤ span.hi
  pub word : (base : ℕ) → alu_of W64 op ((base + cast_unsigned w64 k) % 2 ^ 64) u
      ≡ (base + cast_unsigned w64 to) % 2 ^ 64

near_tells : (lo hi : ℤ) → is_near lo hi ≡ true → (negsuc 65535 ≤ℤ lo) × (hi ≤ℤ pos 65536)
near_tells lo hi h = grind (arith, ints)

add_word : (base u : ℕ) (k d : ℤ) → negsuc 65535 ≤ℤ k → k ≤ℤ pos 65536 → negsuc 65535 ≤ℤ d → d ≤ℤ pos 65536
    → cast_unsigned w64 d ≡ u
    → alu_of W64 Add ((base + cast_unsigned w64 k) % 2 ^ 64) u ≡ (base + cast_unsigned w64 (k +ℤ d)) % 2 ^ 64
add_word base u k d a b c e f = omega (arith, ints)

sub_word : (base u : ℕ) (k d : ℤ) → negsuc 65535 ≤ℤ k → k ≤ℤ pos 65536 → negsuc 65535 ≤ℤ d → d ≤ℤ pos 65536
    → cast_unsigned w64 d ≡ u
    → alu_of W64 Sub ((base + cast_unsigned w64 k) % 2 ^ 64) u ≡ (base + cast_unsigned w64 (k -ℤ d)) % 2 ^ 64
sub_word base u k d a b c e f = omega (arith, ints)

add_swapped : (x y : ℕ) → alu_of W64 Add x y ≡ alu_of W64 Add y x
add_swapped x y = omega arith

add_made : (a : Span) (lo hi by k : ℤ) (u : ℕ) → a.lo ≤ℤ k → k ≤ℤ a.hi → lo ≤ℤ by → by ≤ℤ hi → negsuc 65535 ≤ℤ by
    → by ≤ℤ pos 65536 → cast_unsigned w64 by ≡ u
    → (is_near (a.lo +ℤ lo) (a.hi +ℤ hi) ≡ true) → Moved Add k u (Some (make_span (a.lo +ℤ lo) (a.hi +ℤ hi)))
add_made a lo hi by k u l h sl sh bl bh w near =
    let n = near_tells (a.lo +ℤ lo) (a.hi +ℤ hi) near in
    let al : negsuc 65535 ≤ℤ a.lo = a.near_below in
    let ah : a.hi ≤ℤ pos 65536 = a.near_above in
    let o : (a.lo +ℤ lo) ≤ℤ (a.hi +ℤ hi) = omega (arith, ints) in
    let elo = make_lo (a.lo +ℤ lo) (a.hi +ℤ hi) o n.0 n.1 in
    let ehi = make_hi (a.lo +ℤ lo) (a.hi +ℤ hi) o n.0 n.1 in
    record {
      span = make_span (a.lo +ℤ lo) (a.hi +ℤ hi);
      is = refl;
      to = k +ℤ by;
      above = subst (λ z. z ≤ℤ (k +ℤ by)) (sym elo) (omega (arith, ints));
      below = subst (λ z. (k +ℤ by) ≤ℤ z) (sym ehi) (omega (arith, ints));
      word = λ base. add_word base u k by (omega (arith, ints)) (omega (arith, ints)) bl bh w;
    }

sub_made : (a : Span) (lo hi by k : ℤ) (u : ℕ) → a.lo ≤ℤ k → k ≤ℤ a.hi → lo ≤ℤ by → by ≤ℤ hi → negsuc 65535 ≤ℤ by
    → by ≤ℤ pos 65536 → cast_unsigned w64 by ≡ u
    → (is_near (a.lo -ℤ hi) (a.hi -ℤ lo) ≡ true) → Moved Sub k u (Some (make_span (a.lo -ℤ hi) (a.hi -ℤ lo)))
sub_made a lo hi by k u l h sl sh bl bh w near =
    let n = near_tells (a.lo -ℤ hi) (a.hi -ℤ lo) near in
    let al : negsuc 65535 ≤ℤ a.lo = a.near_below in
    let ah : a.hi ≤ℤ pos 65536 = a.near_above in
    let o : (a.lo -ℤ hi) ≤ℤ (a.hi -ℤ lo) = omega (arith, ints) in
    let elo = make_lo (a.lo -ℤ hi) (a.hi -ℤ lo) o n.0 n.1 in
    let ehi = make_hi (a.lo -ℤ hi) (a.hi -ℤ lo) o n.0 n.1 in
    record {
      span = make_span (a.lo -ℤ hi) (a.hi -ℤ lo);
      is = refl;
      to = k -ℤ by;
      above = subst (λ z. z ≤ℤ (k -ℤ by)) (sym elo) (omega (arith, ints));
      below = subst (λ z. (k -ℤ by) ≤ℤ z) (sym ehi) (omega (arith, ints));
      word = λ base. sub_word base u k by (omega (arith, ints)) (omega (arith, ints)) bl bh w;
    }

add_moved : (a : Span) (k : ℤ) (u : ℕ) (q : Option (ℤ × ℤ)) → a.lo ≤ℤ k → k ≤ℤ a.hi → Stepped q u
    → IsTrue (is_move (moved_by Add a q)) → Moved Add k u (moved_by Add a q)
add_moved a k u None l h s m = absurd (cc)
add_moved a k u (Some steps) l h s m =
    elim (truth (is_near (a.lo +ℤ steps.0) (a.hi +ℤ steps.1))) [
      | inl t ↦ rw t (add_made a steps.0 steps.1 s.by k u l h s.above s.below s.near_below s.near_above s.word t)
      | inr f ↦ let bad : false ≡ true = rw f at m in absurd (cc)
    ]

sub_moved : (a : Span) (k : ℤ) (u : ℕ) (q : Option (ℤ × ℤ)) → a.lo ≤ℤ k → k ≤ℤ a.hi → Stepped q u
    → IsTrue (is_move (moved_by Sub a q)) → Moved Sub k u (moved_by Sub a q)
sub_moved a k u None l h s m = absurd (cc)
sub_moved a k u (Some steps) l h s m =
    elim (truth (is_near (a.lo -ℤ steps.1) (a.hi -ℤ steps.0))) [
      | inl t ↦ rw t (sub_made a steps.0 steps.1 s.by k u l h s.above s.below s.near_below s.near_above s.word t)
      | inr f ↦ let bad : false ≡ true = rw f at m in absurd (cc)
    ]

-- ---- results

-- a tagged result that the abstract one covers, and whose word is the operation's at each placement
pub record Result {D : Type 0} (o : Ops D) (w : Width) (op : AluOp) (c : RegState D) (x y : Tag) : Type 0 where
  pub tag : Tag
  pub covers : Covers o c (Some tag)
  pub word : (p : Placement) → alu_of w op (raw p x) (raw p y) ≡ raw p tag

abbrev pub is_mov : AluOp → Bool
is_mov Mov = true
is_mov _ = false

to_record_covers : {D : Type 0} (o : Ops D) (r : Option Span) (span : Span) (k : ℤ) → r ≡ Some span → span.lo ≤ℤ k
    → k ≤ℤ span.hi → Covers o (to_record r) (Some (ptr the_record k))
to_record_covers o None span k e l h = absurd (cc)
to_record_covers o (Some a) span k e l h = let f : a ≡ span = cc in
    subst (λ (s : Span). (s.lo ≤ℤ k) × (k ≤ℤ s.hi)) (sym f) (l, h)

to_stack_covers : {D : Type 0} (o : Ops D) (r : Option Span) (span : Span) (k : ℤ) → r ≡ Some span → span.lo ≤ℤ k
    → k ≤ℤ span.hi → Covers o (to_stack r) (Some (ptr the_stack k))
to_stack_covers o None span k e l h = absurd (cc)
to_stack_covers o (Some a) span k e l h = let f : a ≡ span = cc in
    subst (λ (s : Span). (s.lo ≤ℤ k) × (k ≤ℤ s.hi)) (sym f) (l, h)

module _ {D : Type 0} {o : Ops D} (laws : Laws o) where
  pub word_fits : (a : D) (v : ℕ) → o.holds a v → v < 2 ^ 64
  word_fits a v h = let b = laws.bounds_hold a v h in let f = laws.bounds_fit a in omega arith

  stepped : (b : D) (u : ℕ) → o.holds b u → Stepped (steps_of o b) u
  stepped b u h = let q = laws.bounds_hold b u h in step_of (o.low b) (o.high b) u (steps_of o b)
      (steps_are (o.low b) (o.high b)) q.0 q.1 (laws.bounds_fit b)

  -- an address that is moved
  in_record : (op : AluOp) (k : ℤ) (u : ℕ) (r : Option Span) → Moved op k u r
      → Result o W64 op (to_record r) (ptr the_record k) (num u)
  in_record op k u r m = record {
    tag = ptr the_record m.to;
    covers = to_record_covers o r m.span m.to m.is m.above m.below;
    word = λ p. m.word p.record_at;
  }

  in_stack : (op : AluOp) (k : ℤ) (u : ℕ) (r : Option Span) → Moved op k u r
      → Result o W64 op (to_stack r) (ptr the_stack k) (num u)
  in_stack op k u r m = record {
    tag = ptr the_stack m.to;
    covers = to_stack_covers o r m.span m.to m.is m.above m.below;
    word = λ p. m.word (base_of p the_stack);
  }

  -- a sum has one result in both orders
  swapped : (c : RegState D) (x y : Tag) → Result o W64 Add c x y → Result o W64 Add c y x
  swapped c x y r = record {
    tag = r.tag;
    covers = r.covers;
    word = λ p. add_swapped (raw p y) (raw p x) ∙ r.word p;
  }

  -- what operations other than a move give
  pub binary : (w : Width) (op : AluOp) (a b : RegState D) (x y : Tag) → is_mov op ≡ false → IsTrue (is_readable a)
      → IsTrue (is_readable b) → Covers o a (Some x) → Covers o b (Some y)
      → IsTrue (pointers_fit w op a b) → IsTrue (operation_in_range o w op a b)
      → Result o w op (result_of o w op a b) x y
  binary w Mov a b x y n r s h k f g = absurd (cc)
  binary W64 Add (Record a) (Scalar b) (ptr the_record k) (num u) n r s h c f g =
      in_record Add k u (moved_span o Add a b) (add_moved a k u (steps_of o b) h.0 h.1 (stepped b u c) g)
  binary W64 Add (Stack a) (Scalar b) (ptr the_stack k) (num u) n r s h c f g =
      in_stack Add k u (moved_span o Add a b) (add_moved a k u (steps_of o b) h.0 h.1 (stepped b u c) g)
  binary W64 Add (Scalar b) (Record a) (num u) (ptr the_record k) n r s c h f g =
      swapped (to_record (moved_span o Add a b)) (ptr the_record k) (num u)
      (in_record Add k u (moved_span o Add a b) (add_moved a k u (steps_of o b) h.0 h.1 (stepped b u c) g))
  binary W64 Add (Scalar b) (Stack a) (num u) (ptr the_stack k) n r s c h f g =
      swapped (to_stack (moved_span o Add a b)) (ptr the_stack k) (num u)
      (in_stack Add k u (moved_span o Add a b) (add_moved a k u (steps_of o b) h.0 h.1 (stepped b u c) g))
  binary W64 Sub (Record a) (Scalar b) (ptr the_record k) (num u) n r s h c f g =
      in_record Sub k u (moved_span o Sub a b) (sub_moved a k u (steps_of o b) h.0 h.1 (stepped b u c) g)
  binary W64 Sub (Stack a) (Scalar b) (ptr the_stack k) (num u) n r s h c f g =
      in_stack Sub k u (moved_span o Sub a b) (sub_moved a k u (steps_of o b) h.0 h.1 (stepped b u c) g)
  binary w op (Scalar a) (Scalar b) (num v) (num u) n r s h c f g =
      record { tag = num (alu_of w op v u); covers = scalars w op a b v u n h c; word = λ p. refl }
    where
      scalars : (w : Width) (op : AluOp) (a b : D) (v u : ℕ) → is_mov op ≡ false → o.holds a v → o.holds b u
          → Covers o (result_of o w op (Scalar a) (Scalar b)) (Some (num (alu_of w op v u)))
      scalars w Mov a b v u n h k = absurd (cc)
      scalars W64 op a b v u n h k = laws.alu_holds W64 op a b v u h k
      scalars W32 op a b v u n h k = laws.alu_holds W32 op a b v u h k
  binary w op Unreadable b x y n r s h c f g = absurd (cc)
  binary w op a Unreadable x y n r s h c f g = absurd (cc)
  binary W32 op a b x y n r s h c f g = absurd (first_of (assumption, cc))
  binary W64 op a b x y n r s h c f g = absurd (first_of (assumption, cc))
