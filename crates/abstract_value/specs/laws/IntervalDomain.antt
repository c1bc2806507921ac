-- Ranges keep the laws of a domain.
use Rattle.std.specs.Prelude.{◌≡◌, ◌-◌, ◌≤◌, ◌<◌, ◌^◌, min, max}
use Rattle.std.proofs.Common.{arith}
use Rattle.std.proofs.lemmas.Bool.Decides.{nat_tests}
use Rattle.std.proofs.Math.Bridge.{le_prop}
use mathlib.Core.HLevel.{is_prop→PathP}
use Rattle.abstract_value.specs.Domain.{Laws}
use Rattle.abstract_value.specs.laws.MadeRanges.{IsBelow, within, below, held, only_held, below_a_made}
use Rattle.abstract_value.specs.laws.Alu.{interval_alu_holds, interval_alu_monotone}
use Rattle.abstract_value.specs.laws.Unary.{interval_neg_holds, interval_neg_monotone, interval_mov_sx_holds, interval_mov_sx_monotone, interval_end_holds, interval_end_monotone, interval_load_holds, interval_load_sx_holds}
use Rattle.abstract_value.specs.laws.Refinement.{interval_refine_keeps, interval_refine_monotone}
use Rattle.abstract_value.specs.Ranges.{interval_ops}
use Rattle.abstract_value.specs.Fits.{StateFitsInMemory}
use Rattle.abstract_value.specs.declared.intervals.Interval.{Interval}
use Rattle.abstract_value.specs.contracts.intervals.Interval.{the_row}

same_ends : (a b : Interval) → a.lo ≡ b.lo → a.hi ≡ b.hi → a ≡ b
same_ends a b h k i = record {
  lo = h i;
  hi = k i;
  ordered = is_prop→PathP (λ j. h j ≤ k j) (λ j. le_prop) a.ordered b.ordered i;
  fits = is_prop→PathP (λ j. k j < 2 ^ 64) (λ j. le_prop) a.fits b.fits i;
}

above_both : (a b : Interval) → IsBelow a (interval_ops.join a b) × IsBelow b (interval_ops.join a b)
above_both a b =
    let o : a.lo ≤ a.hi = a.ordered in
    let p : b.lo ≤ b.hi = b.ordered in (
      below_a_made a (min a.lo b.lo) (max a.hi b.hi) (omega arith) (omega arith),
      below_a_made b (min a.lo b.lo) (max a.hi b.hi) (omega arith) (omega arith),
    )

join_least : (a b c : Interval) → IsBelow a c → IsBelow b c → IsBelow (interval_ops.join a b) c
join_least a b c h k =
    let p = within a c h in
    let q = within b c k in
    let r : a.lo ≤ a.hi = a.ordered in
    let f : c.hi < 2 ^ 64 = c.fits in
    below (interval_ops.join a b) c (omega arith) (omega arith)

pub interval_laws : Laws interval_ops
interval_laws = record {
  below_same = λ a. grind (arith, nat_tests);
  below_through = λ a b c h k. grind (arith, nat_tests);
  below_both = λ a b h k. let p = within a b h in let q = within b a k in same_ends a b (omega arith) (omega arith);
  holds_above = λ a b v h k. let e : (b.lo ≤ a.lo) × (a.hi ≤ b.hi) = within a b h in (omega arith, omega arith);
  full_above = λ a. let f : a.hi < 2 ^ 64 = a.fits in below_a_made a 0 (2 ^ 64 - 1) (omega arith) (omega arith);
  full_holds = λ v h. held 0 (2 ^ 64 - 1) v (omega arith) (omega arith) (omega arith);
  single_holds = only_held;
  bounds_hold = λ a v h. h;
  bounds_ordered = λ a. a.ordered;
  bounds_fit = λ a. a.fits;
  bounds_widen = within;
  join_left = λ a b. (above_both a b).0;
  join_right = λ a b. (above_both a b).1;
  join_least = join_least;
  alu_holds = interval_alu_holds;
  alu_monotone = interval_alu_monotone;
  neg_holds = interval_neg_holds;
  neg_monotone = interval_neg_monotone;
  mov_sx_holds = interval_mov_sx_holds;
  mov_sx_monotone = interval_mov_sx_monotone;
  end_holds = interval_end_holds;
  end_monotone = interval_end_monotone;
  load_holds = interval_load_holds;
  load_sx_holds = interval_load_sx_holds;
  refine_keeps = interval_refine_keeps;
  refine_monotone = interval_refine_monotone;
}

-- a state over ranges fits in memory
pub interval_fits : StateFitsInMemory the_row
interval_fits = omega arith
