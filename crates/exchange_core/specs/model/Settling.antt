-- When an exchange can be settled, and what the journal gets.
use Rattle.std.specs.Prelude.{◌≡◌, ℕ, List, length, map, Some}
use Rattle.partition_table.specs.Tables.{Clash}
use Rattle.exchange_core.specs.declared.settling.Course.{Course}
use Rattle.exchange_law.specs.Sides.{Judged, Heard, Exchange, Side, clashes_of}
use Rattle.exchange_law.specs.Calls.{Call, Take}
use Rattle.exchange_core.specs.Settling.{judged_in}

-- there is one place for each of these clashes, once the offer is heard
abbrev pub HasPlaces : List Clash → Exchange → Type 0
HasPlaces all exchange = (heard : Heard) → exchange.heard ≡ Some heard → length heard.rulings ≡ length all

abbrev pub SideHasPlaces : Side → Type 0
SideHasPlaces side = (exchange : Exchange) → side.exchange ≡ Some exchange → HasPlaces (clashes_of side) exchange

-- the calls that take these rulings, the earliest first
abbrev pub take_calls : ℕ → List (ℕ × Judged) → List Call
take_calls number rulings = map (λ p. Take number p.0 p.1) rulings

abbrev pub judge_by : Course → ℕ → ℕ → Clash → Judged
judge_by course n = judged_in course.seed course.round n
