-- The printed form of refusals.
use Rattle.std.specs.Prelude.{ℕ, List, [], ◌++◌, codes, Option, Some, None}
use Rattle.std.specs.Fmt.{decimal}
use Rattle.refusals.specs.declared.place.Place.{Place}
use Rattle.refusals.specs.declared.place.Place.TheVariants.{Slot, Line, Byte, Item}
use Rattle.refusals.specs.declared.refusal.NumberedRefusal.{NumberedRefusal}

-- a place, as `slot 3`
abbrev pub place_text : Place → List ℕ
place_text (Slot slot) = codes "slot " ++ decimal slot
place_text (Line line) = codes "line " ++ decimal line
place_text (Byte byte) = codes "byte " ++ decimal byte
place_text (Item item) = codes "item " ++ decimal item

-- the place of a refusal, as ` at slot 3`, or nothing
abbrev pub at_place : Option Place → List ℕ
at_place None = []
at_place (Some place) = codes " at " ++ place_text place

-- a refusal, as `refused 21 at slot 3`
abbrev pub refusal_text : NumberedRefusal → List ℕ
refusal_text refusal = codes "refused " ++ (decimal refusal.number ++ at_place refusal.place)
