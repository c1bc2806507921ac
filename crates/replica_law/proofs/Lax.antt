-- Histories in which a laxer rule gives a position to two edits or two states.
use Rattle.std.proofs.Common.{◌≡◌, List, ℕ, [], ◌∷◌, refl, arith}
use Rattle.replica_law.specs.Groups.{Life, Member, Entry, Starts, Leads, Changes, Edits, Shows, Follows, Applies, place}
use Rattle.replica_law.specs.Rules.{in_own_view, in_own_latest, is_any, GivesTwoEdits, changes_in_place, starts_again, GivesTwoStates}

abbrev pub a : Life
a = record { node = 1; incarnation = 1 }

abbrev pub b : Life
b = record { node = 2; incarnation = 1 }

abbrev pub entry : ℕ → Entry ℕ
entry edit = record { at = place a 1 1; edit = edit }

differ : (x y : ℕ) → x ≡ 1 → y ≡ 2 → x ≡ y → ⊥
differ x y one two e = omega (arith, one, two, e)

-- back to an earlier position of the view that it leads
pub own_latest : GivesTwoEdits in_own_latest
own_latest = (
  Edits a 2 ∷ Follows a 0 ∷ Edits a 1 ∷ Shows a ∷ Starts a ∷ [],
  (1, 0, entry 1, entry 2, refl, refl, refl, differ 1 2 refl refl),
)

-- back to a view that it led before
pub own : GivesTwoEdits in_own_view
own = (
  Edits a 2 ∷ Follows a 0 ∷ Leads a ∷ Edits a 1 ∷ Shows a ∷ Starts a ∷ [],
  (1, 0, entry 1, entry 2, refl, refl, refl, differ 1 2 refl refl),
)

-- another replica in the view
pub all : GivesTwoEdits is_any
all = (
  Edits b 2 ∷ Edits a 1 ∷ Follows b 0 ∷ Starts b ∷ Shows a ∷ Starts a ∷ [],
  (1, 0, entry 1, entry 2, refl, refl, refl, differ 1 2 refl refl),
)

abbrev pub holds : List ℕ → ℕ → Member (List ℕ)
holds state op = record { state = state; at = place a 1 op; latest = 1; made = 0 }

-- a change in place, which those that follow don't learn of
pub in_place : GivesTwoStates changes_in_place
in_place = (
  Changes a (1 ∷ []) ∷ Follows b 0 ∷ Starts b ∷ Shows a ∷ Starts a ∷ [],
  (a, b, holds (1 ∷ []) 0, holds [] 0, refl, refl, refl, λ e. absurd (cc)),
)

-- a node that starts anew in a life that it had
pub again : GivesTwoStates starts_again
again = (
  Edits a 2 ∷ Starts a ∷ Applies b 0 ∷ Follows b 0 ∷ Starts b ∷ Edits a 1 ∷ Shows a ∷ Starts a ∷ [],
  (a, b, record (holds (2 ∷ []) 1) { made = 1 }, holds (1 ∷ []) 1, refl, refl, refl, λ e. absurd (cc)),
)
