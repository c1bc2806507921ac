-- A side that hears an offer: whether it has heard one, and the clashes that it then finds.
use Rattle.std.specs.Prelude.{Bool, false, List, [], is_some}
use Rattle.std.specs.Option.{option_map_or}
use Rattle.partition_table.specs.Tables.{Clash}
use Rattle.exchange_law.specs.Sides.{Offer, Side, clashes_for}

-- the other side's offer was heard in the open exchange
abbrev pub has_heard : Side → Bool
has_heard side = option_map_or (λ exchange. is_some exchange.heard) side.exchange false

-- the clashes of an open side's table with the offered one
abbrev pub clashes_offered : Side → Offer → List Clash
clashes_offered side offer =
    option_map_or (λ exchange. clashes_for side.id side.table exchange.uptime offer.table offer.uptime) side.exchange []
