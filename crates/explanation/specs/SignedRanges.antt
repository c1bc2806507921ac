-- The signed numbers among the words of a value. A word from 2 ^ 63 on is the negative number that is 2 ^ 64 below it.
use Rattle.std.specs.Prelude.{ℕ, ◌-◌, ◌^◌, ◌≤◌, ◌<◌, min, max, Bool, true, ◌&&◌, ◌==◌, nat_le, nat_lt, if◌then◌else◌, List, [], ◌++◌, codes, Option, Some, None}
use Rattle.std.specs.Fmt.{decimal}
use Rattle.instruction_set.specs.declared.insn.Width.TheVariants.{W64}
use Rattle.instruction_set.specs.declared.insn.Test.TheVariants.{Jsge, Jslt}
use Rattle.abstract_value.specs.Domain.{Ops}

-- the words of a value that are negative numbers, and the others, as the domain refines them by a test; none if there are
-- no such words
abbrev pub negative : {D : Type 0} → Ops D → D → Option (D × D)
negative o a = o.refine W64 Jslt true a (o.single 0)

abbrev pub other : {D : Type 0} → Ops D → D → Option (D × D)
other o a = o.refine W64 Jsge true a (o.single 0)

-- the word of the least negative number, and the greatest number
abbrev pub least_word : {D : Type 0} → Ops D → D × D → ℕ
least_word o part = max (o.low part.0) (2 ^ 63)

abbrev pub greatest_word : {D : Type 0} → Ops D → D × D → ℕ
greatest_word o part = min (o.high part.0) (2 ^ 63 - 1)

-- the bounds of the value allow negative numbers and others, so that they say nothing about signed numbers
abbrev pub is_mixed : {D : Type 0} → Ops D → D → Bool
is_mixed o a = nat_lt (o.low a) (2 ^ 63) && nat_le (2 ^ 63) (o.high a)

-- the range from the number of a word to a number, as ` signed -8..7`, unless it has all numbers
abbrev pub ends_text : ℕ → ℕ → List ℕ
ends_text low high =
    if (low == 2 ^ 63) && (high == 2 ^ 63 - 1) then []
    else codes " signed -" ++ (decimal (2 ^ 64 - low) ++ (codes ".." ++ decimal high))

abbrev pub parts_text : {D : Type 0} → Ops D → Option (D × D) → Option (D × D) → List ℕ
parts_text o (Some n) (Some p) = ends_text (least_word o n) (greatest_word o p)
parts_text o (Some n) None = []
parts_text o None p = []

-- the signed range of a value, if it is smaller than the one that its bounds give
abbrev pub signed_text : {D : Type 0} → Ops D → D → List ℕ
signed_text o a = if is_mixed o a then parts_text o (negative o a) (other o a) else []

-- ---- the meaning

abbrev pub IsFrom : {D : Type 0} → Ops D → Option (D × D) → ℕ → Type 0
IsFrom o None v = ⊥
IsFrom o (Some n) v = least_word o n ≤ v

abbrev pub IsUpTo : {D : Type 0} → Ops D → Option (D × D) → ℕ → Type 0
IsUpTo o None v = ⊥
IsUpTo o (Some p) v = v ≤ greatest_word o p

-- a negative word is at least that of the least number, and another word at most the greatest number
pub record IsBetween {D : Type 0} (o : Ops D) (a : D) (v : ℕ) : Type 0 where
  pub if_negative : 2 ^ 63 ≤ v → IsFrom o (negative o a) v
  pub if_other : v < 2 ^ 63 → IsUpTo o (other o a) v
