-- The views of a side's state and of a finished exchange in contracts.
use Rattle.std.specs.Arc.{arc_value}
use Rattle.exchange_core.specs.declared.finished.Finished.TheInside as finished
use Rattle.exchange_core.specs.declared.state.State.TheInside as state
use Rattle.exchange_law.specs.Sides.{Side}
use Rattle.exchange_core.specs.Finished.{Finished, finished_by}
use Rattle.exchange_core.specs.Codings.{names_of}

abbrev pub state_seen : state.Inside → Side
state_seen s = record { id = s.id; table = s.table; exchange = s.exchange; latest = s.latest }

abbrev pub finished_inside : finished.Inside → Finished
finished_inside f =
    finished_by f.id f.number f.seed
    (record { table = f.own; uptime = f.own_uptime; gone = f.own_gone.items })
    (record { table = arc_value f.other; uptime = f.other_uptime; gone = names_of f.other_gone })
    f.rulings.items (arc_value f.table)
