-- The comparison of the two tables of an open exchange that a side's state keeps.
use Rattle.std.specs.Prelude.{◌≡◌, ℕ, Bool, List, Option, length, map}
use Rattle.std.specs.Option.{option_map, option_and_then}
use Rattle.std.specs.Arc.{arc_value}
use Rattle.std.specs.FinMap.{keys}
use Rattle.clash_record.specs.declared.side_id.SideId.{SideId}
use Rattle.clash_record.specs.declared.side_id.SideId.TheVariants.{A, B}
use Rattle.partition_table.specs.declared.clashing.Compared.{Compared}
use Rattle.partition_table.specs.Tables.{Table, clashes, has_first, names_without}
use Rattle.exchange_core.specs.declared.state.State.TheInside.{Inside}
use Rattle.exchange_law.specs.Sides.{Side, Exchange, Heard, Offer, heard_clashes}
use Rattle.exchange_core.specs.Views.{state_seen}

-- whether the first table has the first registration of each clash, and how many names each table has alone
abbrev pub Marks : Type 0
Marks = List Bool × (ℕ × ℕ)

abbrev pub marks_of : Compared → Marks
marks_of found = (found.first_of_a.items, (found.alone_a, found.alone_b))

abbrev pub marks_between : Table → ℕ → Table → ℕ → Marks
marks_between a uptime_a b uptime_b = (
  map (has_first a) (clashes a uptime_a b uptime_b),
  (length (names_without b (keys a)), length (names_without a (keys b))),
)

-- of a side's table and the other's. A's goes first
abbrev pub marks_for : SideId → Table → ℕ → Table → ℕ → Marks
marks_for A own uptime other other_uptime = marks_between own uptime other other_uptime
marks_for B own uptime other other_uptime = marks_between other other_uptime own uptime

abbrev pub marks_heard : Side → Exchange → Heard → Marks
marks_heard side exchange heard = marks_for side.id side.table exchange.uptime heard.table heard.uptime

-- of the open exchange, once an offer was heard
abbrev pub heard_marks : Side → Option Marks
heard_marks side = option_and_then (λ exchange. option_map (marks_heard side exchange) exchange.heard) side.exchange

-- of the offer, if an exchange is open
abbrev pub marks_offered : Side → Offer → Option Marks
marks_offered side offer =
    option_map (λ exchange. marks_for side.id side.table exchange.uptime offer.table offer.uptime) side.exchange

-- what is kept was found by comparing the two tables of the open exchange
pub record HasCompared (s : Inside) : Type 0 where
  pub clashes : option_map (λ (found : Compared). arc_value found.clashes) s.compared ≡ heard_clashes (state_seen s)
  pub marks : option_map marks_of s.compared ≡ heard_marks (state_seen s)
