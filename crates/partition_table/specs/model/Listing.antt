-- The walk of a merge over the clashes of two tables and the names of the first.
use Rattle.std.specs.Prelude.{if◌then◌else◌, Option, Some, None, List, [], ◌∷◌}
use Rattle.std.specs.Borrow.{Bor}
use Rattle.std.specs.Slice.Iter.{iter_rest}
use Rattle.clash_record.specs.declared.registrations.Registration.{Registration}
use Rattle.clash_record.specs.Name.{Name}
use Rattle.builtin_resolvers.specs.declared.verdicts.Verdict3.{Verdict3}
use Rattle.builtin_resolvers.specs.declared.verdicts.Verdict3.TheVariants.{First, Second, Neither}
use Rattle.partition_table.specs.Tables.{Clash, is_same_name}
use Rattle.partition_table.specs.declared.upcoming.Upcoming.{Upcoming}
use Rattle.partition_table.specs.model.Merging.{answers_behind}

-- the next clash and the rest; empty at the end
abbrev pub from_next : Option (Bor Clash) → List Clash → List Clash
from_next None rest = []
from_next (Some clash) rest = clash.now ∷ rest

-- the clashes that are ahead
abbrev pub clashes_ahead : Upcoming → List Clash
clashes_ahead u = from_next u.next (iter_rest u.rest)

-- who keeps the name of a clash
abbrev pub chosen : Clash → Verdict3 → Option Registration
chosen clash First = Some clash.first
chosen clash Second = Some clash.second
chosen clash Neither = None

-- what is kept under a name with this registration, where these clashes are ahead
abbrev pub kept_of : Name → Registration → List Clash → Verdict3 → Option Registration
kept_of name mine [] x = Some mine
kept_of name mine (c ∷ cs) x = if is_same_name c.name name then chosen c x else Some mine

-- the clashes after a name
abbrev pub clashes_behind : Name → List Clash → List Clash
clashes_behind name [] = []
clashes_behind name (c ∷ cs) = if is_same_name c.name name then cs else c ∷ cs

-- the answers after a name
abbrev pub answers_ahead : Name → List Clash → List Verdict3 → List Verdict3
answers_ahead name [] xs = xs
answers_ahead name (c ∷ cs) xs = if is_same_name c.name name then answers_behind xs else xs
