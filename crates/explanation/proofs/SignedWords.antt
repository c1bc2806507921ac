-- A word lies in the signed range of each value that has it.
use Rattle.std.specs.Prelude.{nat_le}
use Rattle.std.proofs.Common.{◌≡◌, ℕ, ◌≤◌, ◌<◌, ◌^◌, ◌%◌, true, Option, Some, None, refl, arith}
use Rattle.std.proofs.Math.Nat.{mod-eq_of_lt}
use Rattle.std.proofs.lemmas.Bool.Decides.{nat_tests}
use Rattle.instruction_set.specs.Operations.{is_taken}
use Rattle.instruction_set.specs.declared.insn.Width.TheVariants.{W64}
use Rattle.instruction_set.specs.declared.insn.Test.TheVariants.{Jsge, Jslt}
use Rattle.abstract_value.specs.Domain.{Ops, Laws, Keeps}
use Rattle.abstract_value.specs.laws.TurnedWords.{signed_low, signed_high}
use Rattle.explanation.specs.SignedRanges.{IsFrom, IsUpTo, IsBetween, negative, other}

word : (v : ℕ) → v < 2 ^ 64 → v % 2 ^ 64 ≡ v
word v h = mod-eq_of_lt h

-- a word from 2 ^ 63 on is less than zero, and another isn't
below_zero : (v : ℕ) → 2 ^ 63 ≤ v → v < 2 ^ 64 → is_taken W64 Jslt v 0 ≡ true
below_zero v h k = rw (word v k, signed_high v h k) refl

from_zero : (v : ℕ) → v < 2 ^ 63 → is_taken W64 Jsge v 0 ≡ true
from_zero v h = rw (word v (omega arith), signed_low v h) (zero_at_most v)
  where
    zero_at_most : (n : ℕ) → nat_le 0 n ≡ true
    zero_at_most n = grind (arith, nat_tests)

module _ {D : Type 0} (o : Ops D) (laws : Laws o) where
  zero_held : o.holds (o.single 0) 0
  zero_held = laws.single_holds 0 (omega arith)

  from_part : (v : ℕ) (part : Option (D × D)) → 2 ^ 63 ≤ v → Keeps o part v 0 → IsFrom o part v
  from_part v None h kept = kept
  from_part v (Some n) h kept = let b = laws.bounds_hold n.0 v kept.0 in omega (arith, b.0)

  up_to_part : (v : ℕ) (part : Option (D × D)) → v < 2 ^ 63 → Keeps o part v 0 → IsUpTo o part v
  up_to_part v None h kept = kept
  up_to_part v (Some p) h kept = let b = laws.bounds_hold p.0 v kept.0 in omega (arith, b.1)

  pub within : (a : D) (v : ℕ) → v < 2 ^ 64 → o.holds a v → IsBetween o a v
  within a v fits held = record {
    if_negative = λ h. from_part v (negative o a) h
        (laws.refine_keeps W64 Jslt true a (o.single 0) v 0 held zero_held (below_zero v h fits));
    if_other = λ h. up_to_part v (other o a) h
        (laws.refine_keeps W64 Jsge true a (o.single 0) v 0 held zero_held (from_zero v h));
  }
