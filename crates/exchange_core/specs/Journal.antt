-- What the events of a journal record, and where a journal leads.
use Rattle.std.specs.Prelude.{ℕ, ◌*◌, List, [], ◌∷◌}
use Rattle.std.specs.Option.{option_and_then}
use Rattle.std.specs.FinMap.{get}
use Rattle.partition_table.specs.Tables.{most_names}
use Rattle.exchange_core.specs.declared.journal.Event.{Event}
use Rattle.exchange_core.specs.declared.journal.Event.TheVariants as event
use Rattle.exchange_core.specs.declared.journal.Past.{Past, Empty, Then'}
use Rattle.exchange_law.specs.Calls.{Call, Register, Unregister, Begin, Hear, Take, Withdraw, Close_list, Hear_list, Finish, Abandon}

-- the most events that the journal of a side of this limit holds: 16 for each name
abbrev pub max_events : ℕ → ℕ
max_events limit = 16 * limit

-- the most events that any journal holds
abbrev pub most_events : ℕ
most_events = max_events most_names

-- the call that an event records
abbrev pub call_of : Event → Call
call_of (event.Register name registration table) = Register name (record {
  registration = registration;
  code = option_and_then (λ row. row.code) (get table.value name);
})
call_of (event.Unregister name) = Unregister name
call_of (event.Begin number seed uptime) = Begin number seed uptime
call_of (event.Hear offer) = Hear offer.value
call_of (event.Take number k judged) = Take number k judged
call_of (event.Withdraw name) = Withdraw name
call_of event.CloseList = Close_list
call_of (event.HearList sent) = Hear_list sent.value
call_of event.Finish = Finish
call_of event.Abandon = Abandon

-- the calls of a journal, the latest first
abbrev pub calls_of : Past → List Call
calls_of Empty = []
calls_of (Then' event shape earlier) = call_of event ∷ calls_of earlier
