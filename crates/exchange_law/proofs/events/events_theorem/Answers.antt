use Rattle.exchange_law.proofs.events.events_theorem.Goals as goal
use Rattle.exchange_law.proofs.Once.{one_seed, began_once, closed_once, judged_once}
use Rattle.exchange_law.specs.laws.Replays.{led}
use Rattle.exchange_law.specs.laws.Told.{told}
use Rattle.exchange_law.specs.laws.Calling.{events_are_calls, calls_send, calls_happen, judgings_add}

pub returns-clause-one_seed : goal.returns-clause-one_seed
returns-clause-one_seed c = one_seed

pub returns-clause-begins_once : goal.returns-clause-begins_once
returns-clause-begins_once c = began_once

pub returns-clause-closes_once : goal.returns-clause-closes_once
returns-clause-closes_once c = closed_once

pub returns-clause-judges_once : goal.returns-clause-judges_once
returns-clause-judges_once c = judged_once

pub returns-clause-told : goal.returns-clause-told
returns-clause-told c = told

pub returns-clause-replayed : goal.returns-clause-replayed
returns-clause-replayed c = led

pub returns-clause-calls : goal.returns-clause-calls
returns-clause-calls c = events_are_calls

pub returns-clause-sends : goal.returns-clause-sends
returns-clause-sends c = calls_send

pub returns-clause-happen : goal.returns-clause-happen
returns-clause-happen c = calls_happen

pub returns-clause-judgings : goal.returns-clause-judgings
returns-clause-judgings c = judgings_add
