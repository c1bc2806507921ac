-- Pairs of ranges know no less than ranges of words alone.
use Rattle.std.specs.Prelude.{ℕ, ◌*◌, Bool, true, false, Option, Some, None, refl}
use Rattle.std.proofs.Common.{ap}
use Rattle.std.proofs.lemmas.Nat.{pow_pos}
use Rattle.instruction_set.specs.Operations.{alu_of, mov_sx_of, IsMovSxBits}
use Rattle.instruction_set.specs.Machine.{bytes_of}
use Rattle.instruction_set.specs.declared.insn.Width.{Width}
use Rattle.instruction_set.specs.declared.insn.Width.TheVariants.{W64}
use Rattle.instruction_set.specs.declared.insn.AluOp.{AluOp}
use Rattle.instruction_set.specs.declared.insn.Size.{Size}
use Rattle.instruction_set.specs.declared.insn.Test.{Test}
use Rattle.abstract_value.specs.Domain.{BelowPair}
use Rattle.abstract_value.specs.laws.Widening.{Widens, lift_pair}
use Rattle.abstract_value.specs.laws.MadeRanges.{IsBelow}
use Rattle.abstract_value.specs.Ranges.{full_at, interval_ops, interval_alu, interval_neg, interval_mov_sx, interval_end, interval_load, interval_refine}
use Rattle.abstract_value.specs.laws.IntervalDomain.{interval_laws}
use Rattle.abstract_value.specs.model.NormalForms.{normal, lift}
use Rattle.abstract_value.specs.Boths.{signed_alu, signed_mov_sx, signed_load, signed_refine, pair_of, normal_pair, both_ops}
use Rattle.abstract_value.specs.laws.SignedRows.{below_full}
use Rattle.abstract_value.specs.laws.BothOrder.{IsBelowBoth, included_below, low_word, shaped_below, NormalIs, some_words, normal_is, lift_holds, lift_below, lift_range}
use Rattle.abstract_value.specs.laws.BothDomain.{alu_in_both, mov_sx_in_both, load_in_both}
use Rattle.abstract_value.specs.declared.intervals.Interval.{Interval}
use Rattle.abstract_value.specs.declared.boths.Both.{Both}

within_lift : (a : Interval) → IsBelow (lift a).u a
within_lift a = rw (lift_range a) (interval_laws.below_same a)

wider_alu : (w : Width) (op : AluOp) (a b : Interval)
    → IsBelowBoth (both_ops.alu w op (lift a) (lift b)) (lift (interval_alu w op a b))
wider_alu w op a b =
    shaped_below (interval_alu w op (lift a).u (lift b).u) (signed_alu w op (lift a) (lift b)) (interval_alu w op a b)
    (full_at 64) (alu_of w op (lift a).u.lo (lift b).u.lo)
    (alu_in_both w op (lift a) (lift b) (lift a).u.lo (lift b).u.lo (low_word (lift a)) (low_word (lift b)))
    (interval_laws.alu_monotone w op (lift a).u (lift b).u a b (within_lift a) (within_lift b))
    (below_full (signed_alu w op (lift a) (lift b)))

wider_mov_sx : (w : Width) (bits : ℕ) (a : Interval) → IsMovSxBits w bits
    → IsBelowBoth (both_ops.mov_sx w bits (lift a)) (lift (interval_mov_sx w bits a))
wider_mov_sx w bits a i =
    shaped_below (interval_mov_sx w bits (lift a).u) (signed_mov_sx w bits (lift a)) (interval_mov_sx w bits a)
    (full_at 64) (mov_sx_of w bits (lift a).u.lo)
    (mov_sx_in_both w bits (lift a) (lift a).u.lo i (low_word (lift a)))
    (interval_laws.mov_sx_monotone w bits (lift a).u a i (within_lift a))
    (below_full (signed_mov_sx w bits (lift a)))

wider_load : (size : Size) (signed : Bool) → IsBelowBoth (both_ops.load size signed) (lift (interval_load size signed))
wider_load size false =
    lift_below (interval_load size false) (interval_load size false)
    (interval_laws.below_same (interval_load size false))
wider_load size true =
    shaped_below (interval_load size true) (signed_load size true) (interval_load size true) (full_at 64)
    (mov_sx_of W64 (8 * bytes_of size) 0)
    (load_in_both size 0 (pow_pos (8 * bytes_of size))) (interval_laws.below_same (interval_load size true))
    (below_full (signed_load size true))

-- a pair cut in both orders is below the pair cut in one
abbrev BelowLift : Option Both → Interval → Type 0
BelowLift None u = Unit {0}
BelowLift (Some a) u = IsBelowBoth a (lift u)

normal_lift : (u s u' : Interval) → IsBelow u u' → BelowLift (normal u s) u'
normal_lift u s u' h = go u s u' h (normal u s) (normal_is u s)
  where
    go : (u s u' : Interval) → IsBelow u u' → (x : Option Both) → NormalIs u s x → BelowLift x u'
    go u s u' h None n = tt
    go u s u' h (Some a) (some_words _ i o) =
        included_below a (lift u') (λ v k. lift_holds u' v (interval_laws.holds_above u u' v h (o v k).0))

pair_lift : (x y : Option Both) (u u' : Interval) → BelowLift x u → BelowLift y u'
    → BelowPair both_ops (pair_of x y) (Some (lift u, lift u'))
pair_lift None y u u' h k = tt
pair_lift (Some a) None u u' h k = tt
pair_lift (Some a) (Some b) u u' h k = (h, k)

cut_lift : (p q p' : Option (Interval × Interval)) → BelowPair interval_ops p p'
    → BelowPair both_ops (normal_pair p q) (lift_pair lift p')
cut_lift None q p' h = tt
cut_lift (Some p) None p' h = tt
cut_lift (Some p) (Some q) None h = absurd h
cut_lift (Some p) (Some q) (Some p') h =
    pair_lift (normal p.0 q.0) (normal p.1 q.1) p'.0 p'.1 (normal_lift p.0 q.0 p'.0 h.0) (normal_lift p.1 q.1 p'.1 h.1)

wider_refine : (w : Width) (t : Test) (taken : Bool) (a b : Interval)
    → BelowPair both_ops (both_ops.refine w t taken (lift a) (lift b)) (lift_pair lift (interval_refine w t taken a b))
wider_refine w t taken a b =
    cut_lift (interval_refine w t taken (lift a).u (lift b).u) (signed_refine w t taken (lift a).s (lift b).s)
    (interval_refine w t taken a b)
    (interval_laws.refine_monotone w t taken (lift a).u (lift b).u a b (within_lift a) (within_lift b))

pub both_widens : Widens interval_ops both_ops
both_widens = record {
  lift = lift;
  low = λ a. ap (λ x. x.lo) (lift_range a);
  high = λ a. ap (λ x. x.hi) (lift_range a);
  single = λ v. refl;
  below = lift_below;
  alu = wider_alu;
  neg =
      λ w a. lift_below (interval_neg w (lift a).u) (interval_neg w a)
      (interval_laws.neg_monotone w (lift a).u a (within_lift a));
  mov_sx = wider_mov_sx;
  end =
      λ kind bits a i. lift_below (interval_end kind bits (lift a).u) (interval_end kind bits a)
      (interval_laws.end_monotone kind bits (lift a).u a i (within_lift a));
  load = wider_load;
  refine = wider_refine;
}
