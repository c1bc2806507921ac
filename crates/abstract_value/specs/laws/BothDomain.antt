-- Pairs of ranges keep the laws of a domain.
use Rattle.std.specs.Prelude.{◌≡◌, ℕ, ◌*◌, ◌%◌, ◌≤◌, ◌<◌, ◌^◌, Bool, true, false, ◌==◌, not, Option, Some, None, nat_lt, nat_le}
use Rattle.std.proofs.Common.{arith, ◌∙◌, ap, sym}
use Rattle.std.proofs.lemmas.Bool.Decides.{nat_tests}
use Rattle.std.proofs.Math.Nat.{mod-eq_of_lt}
use Rattle.instruction_set.specs.Operations.{alu_of, neg_of, mov_sx_of, end_of, is_taken, IsMovSxBits}
use Rattle.instruction_set.specs.Machine.{bytes_of}
use Rattle.instruction_set.specs.declared.insn.Width.{Width}
use Rattle.instruction_set.specs.declared.insn.Width.TheVariants.{W64}
use Rattle.instruction_set.specs.declared.insn.AluOp.{AluOp}
use Rattle.instruction_set.specs.declared.insn.Size.{Size}
use Rattle.instruction_set.specs.declared.insn.Test.{Test}
use Rattle.instruction_set.specs.declared.insn.Test.TheVariants.{Jeq, Jgt, Jge, Jne, Jsgt, Jsge, Jlt, Jle, Jslt, Jsle}
use Rattle.abstract_value.specs.Domain.{Laws, Keeps, BelowPair}
use Rattle.abstract_value.specs.laws.TurnedWords.{flip_less, flip_at_most}
use Rattle.abstract_value.specs.laws.MadeRanges.{Holds, IsBelow, within}
use Rattle.abstract_value.specs.Ranges.{only, full_at, interval_ops, interval_alu, interval_neg, interval_mov_sx, interval_end, interval_load, interval_refine}
use Rattle.abstract_value.specs.laws.IntervalDomain.{interval_laws}
use Rattle.abstract_value.specs.laws.Refinement.{row_laws}
use Rattle.abstract_value.specs.SignedWords.{flip, InBoth}
use Rattle.abstract_value.specs.model.NormalForms.{normal, lift}
use Rattle.abstract_value.specs.Boths.{both_join, signed_alu, signed_mov_sx, signed_load, signed_refine, pair_of, normal_pair, both_ops}
use Rattle.abstract_value.specs.laws.SignedRows.{full_flip, signed_alu_holds, signed_alu_monotone, signed_mov_sx_holds, signed_mov_sx_monotone, signed_load_holds}
use Rattle.abstract_value.specs.laws.BothOrder.{HoldsBoth, IsBelowBoth, within_both, below_both, widened, below_included, below_both_ways, low_word, shaped_holds, shaped_below, NormalIs, no_words, some_words, normal_is, included_below, lift_holds, lift_below}
use Rattle.abstract_value.specs.declared.intervals.Interval.{Interval}
use Rattle.abstract_value.specs.Fits.{StateFitsInMemory}
use Rattle.abstract_value.specs.declared.boths.Both.{Both}
use Rattle.abstract_value.specs.contracts.boths.Both.{the_row}

-- ---- words of a value

fits : (a : Both) (v : ℕ) → HoldsBoth a v → v < 2 ^ 64
fits a v h = let f : a.u.hi < 2 ^ 64 = a.u.fits in let g : v ≤ a.u.hi = h.0.1 in omega arith

-- ---- the join

join_above : (a b : Both) → IsBelowBoth a (both_join a b) × IsBelowBoth b (both_join a b)
join_above a b = (
  below_both a (both_join a b) (interval_laws.join_left a.u b.u) (interval_laws.join_left a.s b.s),
  below_both b
      (both_join a b) (interval_laws.join_right a.u b.u) (interval_laws.join_right a.s b.s),
)

join_least : (a b c : Both) → IsBelowBoth a c → IsBelowBoth b c → IsBelowBoth (both_join a b) c
join_least a b c h k =
    let p = within_both a c h in
    let q = within_both b c k in
    below_both (both_join a b) c (interval_laws.join_least a.u b.u c.u p.0 q.0)
    (interval_laws.join_least a.s b.s c.s p.1 q.1)

-- ---- operations

pub alu_in_both : (w : Width) (op : AluOp) (a b : Both) (v u : ℕ) → HoldsBoth a v → HoldsBoth b u
    → InBoth (interval_alu w op a.u b.u) (signed_alu w op a b) (alu_of w op v u)
alu_in_both w op a b v u h k = (
  interval_laws.alu_holds w op a.u b.u v u h.0 k.0,
  signed_alu_holds w op a b v u (fits a v h) (fits b u k) h.1 k.1
      k.0,
)

alu_holds : (w : Width) (op : AluOp) (a b : Both) (v u : ℕ) → HoldsBoth a v → HoldsBoth b u
    → HoldsBoth (both_ops.alu w op a b) (alu_of w op v u)
alu_holds w op a b v u h k =
    shaped_holds (interval_alu w op a.u b.u) (signed_alu w op a b) (alu_of w op v u) (alu_in_both w op a b v u h k)

alu_monotone : (w : Width) (op : AluOp) (a b c d : Both) → IsBelowBoth a c → IsBelowBoth b d
    → IsBelowBoth (both_ops.alu w op a b) (both_ops.alu w op c d)
alu_monotone w op a b c d h k =
    let p = within_both a c h in
    let q = within_both b d k in
    shaped_below (interval_alu w op a.u b.u) (signed_alu w op a b) (interval_alu w op c.u d.u) (signed_alu w op c d)
    (alu_of w op a.u.lo b.u.lo)
    (alu_in_both w op a b a.u.lo b.u.lo (low_word a) (low_word b))
    (interval_laws.alu_monotone w op a.u b.u c.u d.u p.0 q.0)
    (signed_alu_monotone w op a b c d p.1 q.1 q.0)

pub mov_sx_in_both : (w : Width) (bits : ℕ) (a : Both) (v : ℕ) → IsMovSxBits w bits → HoldsBoth a v
    → InBoth (interval_mov_sx w bits a.u) (signed_mov_sx w bits a) (mov_sx_of w bits v)
mov_sx_in_both w bits a v i h =
    (interval_laws.mov_sx_holds w bits a.u v i h.0, signed_mov_sx_holds w bits a v i (fits a v h) h.1)

mov_sx_monotone : (w : Width) (bits : ℕ) (a c : Both) → IsMovSxBits w bits → IsBelowBoth a c
    → IsBelowBoth (both_ops.mov_sx w bits a) (both_ops.mov_sx w bits c)
mov_sx_monotone w bits a c i h =
    let p = within_both a c h in
    shaped_below (interval_mov_sx w bits a.u) (signed_mov_sx w bits a) (interval_mov_sx w bits c.u)
    (signed_mov_sx w bits c) (mov_sx_of w bits a.u.lo)
    (mov_sx_in_both w bits a a.u.lo i (low_word a))
    (interval_laws.mov_sx_monotone w bits a.u c.u i p.0)
    (signed_mov_sx_monotone w bits a c p.1)

pub load_in_both : (size : Size) (v : ℕ) → v < 2 ^ (8 * bytes_of size)
    → InBoth (interval_load size true) (signed_load size true) (mov_sx_of W64 (8 * bytes_of size) v)
load_in_both size v h = (interval_laws.load_sx_holds size v h, signed_load_holds size v)

-- ---- refinement

abbrev KeepsIn : Option Both → ℕ → Type 0
KeepsIn None v = ⊥
KeepsIn (Some a) v = HoldsBoth a v

abbrev BelowIn : Option Both → Option Both → Type 0
BelowIn None y = Unit {0}
BelowIn (Some a) None = ⊥
BelowIn (Some a) (Some b) = IsBelowBoth a b

normal_keeps : (u s : Interval) (v : ℕ) → InBoth u s v → KeepsIn (normal u s) v
normal_keeps u s v h = keeps u s v h (normal u s) (normal_is u s)
  where
    keeps : (u s : Interval) (v : ℕ) → InBoth u s v → (x : Option Both) → NormalIs u s x → KeepsIn x v
    keeps u s v h None (no_words n) = n v h
    keeps u s v h (Some b) (some_words _ i o) = i v h

normal_below : (u s u' s' : Interval) → IsBelow u u' → IsBelow s s' → BelowIn (normal u s) (normal u' s')
normal_below u s u' s' h k = ordered u s u' s' h k (normal u s) (normal u' s') (normal_is u s) (normal_is u' s')
  where
    ordered : (u s u' s' : Interval) → IsBelow u u' → IsBelow s s' → (x y : Option Both) → NormalIs u s x
        → NormalIs u' s' y → BelowIn x y
    ordered u s u' s' h k None y m n = tt
    ordered u s u' s' h k (Some a) None (some_words _ i o) (no_words n) =
        n a.u.lo (widened u s u' s' a.u.lo h k (o a.u.lo (low_word a)))
    ordered u s u' s' h k (Some a) (Some b) (some_words _ i o) (some_words _ i' o') =
        included_below a b (λ v m. i' v (widened u s u' s' v h k (o v m)))

pair_keeps : (x y : Option Both) (v w : ℕ) → KeepsIn x v → KeepsIn y w → Keeps both_ops (pair_of x y) v w
pair_keeps None y v w h k = absurd h
pair_keeps (Some a) None v w h k = absurd k
pair_keeps (Some a) (Some b) v w h k = (h, k)

pair_below : (x y x' y' : Option Both) → BelowIn x x' → BelowIn y y' → BelowPair both_ops (pair_of x y) (pair_of x' y')
pair_below None y x' y' h k = tt
pair_below (Some a) None x' y' h k = tt
pair_below (Some a) (Some b) None y' h k = absurd h
pair_below (Some a) (Some b) (Some c) None h k = absurd k
pair_below (Some a) (Some b) (Some c) (Some d) h k = (h, k)

-- a pair kept in both orders is kept in normal form
refined_keeps : (p q : Option (Interval × Interval)) (v w : ℕ) → Keeps interval_ops p v w
    → Keeps interval_ops q (flip v) (flip w) → Keeps both_ops (normal_pair p q) v w
refined_keeps None q v w h k = absurd h
refined_keeps (Some p) None v w h k = absurd k
refined_keeps (Some p) (Some q) v w h k =
    pair_keeps (normal p.0 q.0) (normal p.1 q.1) v w (normal_keeps p.0 q.0 v (h.0, k.0))
    (normal_keeps p.1 q.1 w (h.1, k.1))

refined_below : (p q p' q' : Option (Interval × Interval)) → BelowPair interval_ops p p' → BelowPair interval_ops q q'
    → BelowPair both_ops (normal_pair p q) (normal_pair p' q')
refined_below None q p' q' h k = tt
refined_below (Some p) None p' q' h k = tt
refined_below (Some p) (Some q) None q' h k = absurd h
refined_below (Some p) (Some q) (Some p') None h k = absurd k
refined_below (Some p) (Some q) (Some p') (Some q') h k =
    pair_below (normal p.0 q.0) (normal p.1 q.1) (normal p'.0 q'.0) (normal p'.1 q'.1)
    (normal_below p.0 q.0 p'.0 q'.0 h.0 k.0) (normal_below p.1 q.1 p'.1 q'.1 h.1 k.1)

-- a signed test on flipped words
less_of_turned : (v u : ℕ) (taken : Bool) → v < 2 ^ 64 → u < 2 ^ 64 → is_taken W64 Jslt v u ≡ taken
    → nat_lt (flip v) (flip u) ≡ taken
less_of_turned v u taken h k e =
    let x : v % 2 ^ 64 ≡ v = mod-eq_of_lt h in
    let y : u % 2 ^ 64 ≡ u = mod-eq_of_lt k in
    sym (flip_less v u h k) ∙ (rw (x, y) at e)

at_most_of_turned : (v u : ℕ) (taken : Bool) → v < 2 ^ 64 → u < 2 ^ 64 → is_taken W64 Jsle v u ≡ taken
    → nat_le (flip v) (flip u) ≡ taken
at_most_of_turned v u taken h k e =
    let x : v % 2 ^ 64 ≡ v = mod-eq_of_lt h in
    let y : u % 2 ^ 64 ≡ u = mod-eq_of_lt k in
    sym (flip_at_most v u h k) ∙ (rw (x, y) at e)

equal_words : (v u : ℕ) → v < 2 ^ 64 → u < 2 ^ 64 → v % 2 ^ 64 ≡ u % 2 ^ 64 → flip v ≡ flip u
equal_words v u h k e =
    let x : v % 2 ^ 64 ≡ v = mod-eq_of_lt h in
    let y : u % 2 ^ 64 ≡ u = mod-eq_of_lt k in
    ap flip (omega arith)

same_turned : (v u : ℕ) → v < 2 ^ 64 → u < 2 ^ 64 → is_taken W64 Jeq v u ≡ true → (flip v == flip u) ≡ true
same_turned v u h k e =
    let f : flip v ≡ flip u = equal_words v u h k (grind (arith, nat_tests)) in
    grind (arith, nat_tests)

no_other_turned : (v u : ℕ) → v < 2 ^ 64 → u < 2 ^ 64 → is_taken W64 Jne v u ≡ false → not (flip v == flip u) ≡ false
no_other_turned v u h k e =
    let f : flip v ≡ flip u = equal_words v u h k (grind (arith, nat_tests)) in
    grind (arith, nat_tests)

signed_refine_keeps : (w : Width) (t : Test) (taken : Bool) (a b : Interval) (v u : ℕ) → v < 2 ^ 64 → u < 2 ^ 64
    → Holds a (flip v) → Holds b (flip u) → is_taken w t v u ≡ taken
    → Keeps interval_ops (signed_refine w t taken a b) (flip v) (flip u)
signed_refine_keeps W64 Jeq true a b v u x y h k e =
    (row_laws W64 Jeq true).keeps a b (flip v) (flip u) h k (same_turned v u x y e)
signed_refine_keeps W64 Jne false a b v u x y h k e =
    (row_laws W64 Jne false).keeps a b (flip v) (flip u) h k (no_other_turned v u x y e)
signed_refine_keeps W64 Jsgt taken a b v u x y h k e =
    (row_laws W64 Jgt taken).keeps a b (flip v) (flip u) h k (less_of_turned u v taken y x e)
signed_refine_keeps W64 Jsge taken a b v u x y h k e =
    (row_laws W64 Jge taken).keeps a b (flip v) (flip u) h k (at_most_of_turned u v taken y x e)
signed_refine_keeps W64 Jslt taken a b v u x y h k e =
    (row_laws W64 Jlt taken).keeps a b (flip v) (flip u) h k (less_of_turned v u taken x y e)
signed_refine_keeps W64 Jsle taken a b v u x y h k e =
    (row_laws W64 Jle taken).keeps a b (flip v) (flip u) h k (at_most_of_turned v u taken x y e)
signed_refine_keeps w t taken a b v u x y h k e = (h, k)

signed_refine_monotone : (w : Width) (t : Test) (taken : Bool) (a b c d : Interval) → IsBelow a c → IsBelow b d
    → BelowPair interval_ops (signed_refine w t taken a b) (signed_refine w t taken c d)
signed_refine_monotone W64 Jeq true a b c d h k = (row_laws W64 Jeq true).grows a b c d h k
signed_refine_monotone W64 Jne false a b c d h k = (row_laws W64 Jne false).grows a b c d h k
signed_refine_monotone W64 Jsgt taken a b c d h k = (row_laws W64 Jgt taken).grows a b c d h k
signed_refine_monotone W64 Jsge taken a b c d h k = (row_laws W64 Jge taken).grows a b c d h k
signed_refine_monotone W64 Jslt taken a b c d h k = (row_laws W64 Jlt taken).grows a b c d h k
signed_refine_monotone W64 Jsle taken a b c d h k = (row_laws W64 Jle taken).grows a b c d h k
signed_refine_monotone w t taken a b c d h k = (h, k)

refine_keeps : (w : Width) (t : Test) (taken : Bool) (a b : Both) (v u : ℕ) → HoldsBoth a v → HoldsBoth b u
    → is_taken w t v u ≡ taken → Keeps both_ops (both_ops.refine w t taken a b) v u
refine_keeps w t taken a b v u h k e =
    refined_keeps (interval_refine w t taken a.u b.u) (signed_refine w t taken a.s b.s) v u
    (interval_laws.refine_keeps w t taken a.u b.u v u h.0 k.0 e)
    (signed_refine_keeps w t taken a.s b.s v u (fits a v h) (fits b u k) h.1 k.1 e)

refine_monotone : (w : Width) (t : Test) (taken : Bool) (a b c d : Both) → IsBelowBoth a c → IsBelowBoth b d
    → BelowPair both_ops (both_ops.refine w t taken a b) (both_ops.refine w t taken c d)
refine_monotone w t taken a b c d h k =
    let p = within_both a c h in
    let q = within_both b d k in
    refined_below (interval_refine w t taken a.u b.u) (signed_refine w t taken a.s b.s)
    (interval_refine w t taken c.u d.u) (signed_refine w t taken c.s d.s)
    (interval_laws.refine_monotone w t taken a.u b.u c.u d.u p.0 q.0)
    (signed_refine_monotone w t taken a.s b.s c.s d.s p.1 q.1)

-- ---- all of them

pub both_laws : Laws both_ops
both_laws = record {
  below_same = λ a. below_both a a (interval_laws.below_same a.u) (interval_laws.below_same a.s);
  below_through = λ a b c h k.
      let p = within_both a b h in
      let q = within_both b c k in
      below_both a c (interval_laws.below_through a.u b.u c.u p.0 q.0)
      (interval_laws.below_through a.s b.s c.s p.1 q.1);
  below_both = below_both_ways;
  holds_above = λ a b v h k. below_included a b h v k;
  full_above =
      λ a. included_below a (lift (full_at 64)) (λ v h. lift_holds (full_at 64) v
      (interval_laws.full_holds v (fits a v h)));
  full_holds = λ v h. lift_holds (full_at 64) v (interval_laws.full_holds v h);
  single_holds = λ v h. lift_holds (only v) v (interval_laws.single_holds v h);
  bounds_hold = λ a v h. h.0;
  bounds_ordered = λ a. a.u.ordered;
  bounds_fit = λ a. a.u.fits;
  bounds_widen = λ a b h. within a.u b.u (within_both a b h).0;
  join_left = λ a b. (join_above a b).0;
  join_right = λ a b. (join_above a b).1;
  join_least = join_least;
  alu_holds = alu_holds;
  alu_monotone = alu_monotone;
  neg_holds = λ w a v h. lift_holds (interval_neg w a.u) (neg_of w v) (interval_laws.neg_holds w a.u v h.0);
  neg_monotone =
      λ w a c h. lift_below (interval_neg w a.u) (interval_neg w c.u)
      (interval_laws.neg_monotone w a.u c.u (within_both a c h).0);
  mov_sx_holds =
      λ w bits a v i h. shaped_holds (interval_mov_sx w bits a.u) (signed_mov_sx w bits a) (mov_sx_of w bits v)
      (mov_sx_in_both w bits a v i h);
  mov_sx_monotone = mov_sx_monotone;
  end_holds =
      λ kind bits a v i h. lift_holds (interval_end kind bits a.u) (end_of kind bits v)
      (interval_laws.end_holds kind bits a.u v i h.0);
  end_monotone =
      λ kind bits a c i h. lift_below (interval_end kind bits a.u) (interval_end kind bits c.u)
      (interval_laws.end_monotone kind bits a.u c.u i (within_both a c h).0);
  load_holds =
      λ size v h. shaped_holds (interval_load size false) (full_at 64) v
      (interval_laws.load_holds size v h, full_flip v);
  load_sx_holds =
      λ size v h. shaped_holds (interval_load size true) (signed_load size true) (mov_sx_of W64 (8 * bytes_of size) v)
      (load_in_both size v h);
  refine_keeps = refine_keeps;
  refine_monotone = refine_monotone;
}

-- a state over pairs of ranges fits in memory
pub both_fits : StateFitsInMemory the_row
both_fits = omega arith
