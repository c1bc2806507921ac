-- One side of an exchange: what it keeps, and what each of its calls leaves.
use Rattle.std.specs.Prelude.{ℕ, Bool, true, false, not, ◌&&◌, ◌==◌, nat_lt, if◌then◌else◌, List, [], ◌∷◌, ◌++◌, length, map, replicate, Option, Some, None, is_none, is_some, unwrap_or, slice_get, slice_set}
use Rattle.std.specs.Option.{option_map, option_and_then, option_map_or}
use Rattle.std.specs.List.{fold, list_all}
use Rattle.std.specs.Cmp.Lexicographic.{pointwise}
use Rattle.std.specs.FinMap.{empty, insert, remove, contains_key, len}
use Rattle.builtin_resolvers.specs.declared.verdicts.Verdict3.{Verdict3}
use Rattle.builtin_resolvers.specs.declared.verdicts.Verdict3.TheVariants.{Neither}
use Rattle.clash_record.specs.Name.{Name}
use Rattle.partition_table.specs.Tables.{Row, Table, most_names, agrees_with, same_clash, same_table, is_same_name, Clash, clashes, merge, is_in, fit_together}
pub use Rattle.partition_table.specs.declared.judged.Judged.{Judged}
pub use Rattle.partition_table.specs.Rulings.{is_one_of_four, is_answer, is_lawful}
use Rattle.clash_record.specs.declared.side_id.SideId.{SideId}
use Rattle.clash_record.specs.declared.side_id.SideId.TheVariants.{A, B}

-- a table without these names
abbrev pub without : List Name → Table → Table
without names table = fold (λ rest name. remove rest name) table names

-- ---- what is sent, and what a side keeps

-- made by a begin, from the table as it then is
pub record Offer : Type 0 where
  pub side : SideId
  pub number : ℕ
  pub seed : ℕ
  pub uptime : ℕ
  pub table : Table

-- the names that a side withdrew, made as it closes its list
pub record Withdrawals : Type 0 where
  pub side : SideId
  pub number : ℕ
  pub names : List Name

-- the other's table and uptime, and a place for the ruling of each clash
pub record Heard : Type 0 where
  pub table : Table
  pub uptime : ℕ
  pub rulings : List (Option Judged)

pub record Exchange : Type 0 where
  pub number : ℕ
  pub seed : ℕ
  pub uptime : ℕ  -- this side's own
  pub heard : Option Heard
  pub withdrawn : List Name  -- of this side's own names, the earliest first
  pub closed : Bool  -- this side withdraws no more
  pub their_list : Option (List Name)  -- the other's, once it was heard

pub record Side : Type 0 where
  pub id : SideId
  pub table : Table
  pub exchange : Option Exchange  -- none: the side is idle
  pub latest : Option ℕ  -- the greatest number that it began

abbrev pub new_side : SideId → Side
new_side id = record { id = id; table = empty; exchange = None; latest = None }

abbrev pub new_exchange : ℕ → ℕ → ℕ → Exchange
new_exchange number seed uptime = record {
  number = number;
  seed = seed;
  uptime = uptime;
  heard = None;
  withdrawn = [];
  closed = false;
  their_list = None;
}

abbrev pub is_side : SideId → SideId → Bool
is_side A A = true
is_side A B = false
is_side B A = false
is_side B B = true

-- the clashes of a side's table with the other's, whether the two fit together, and their merge. A's table goes
-- first, on either side
abbrev pub clashes_for : SideId → Table → ℕ → Table → ℕ → List Clash
clashes_for A own uptime other other_uptime = clashes own uptime other other_uptime
clashes_for B own uptime other other_uptime = clashes other other_uptime own uptime

abbrev pub fit_for : SideId → Table → Table → Bool
fit_for A own other = fit_together own other
fit_for B own other = fit_together other own

abbrev pub merge_for : SideId → Table → Table → List Verdict3 → List Name → List Name → Table
merge_for A own other answers own_gone other_gone =
    merge own other answers (record { of_a = own_gone; of_b = other_gone })
merge_for B own other answers own_gone other_gone =
    merge other own answers (record { of_a = other_gone; of_b = own_gone })

abbrev pub clashes_heard : Side → Exchange → Heard → List Clash
clashes_heard side exchange heard = clashes_for side.id side.table exchange.uptime heard.table heard.uptime

-- the clashes of the open exchange, once an offer was heard
abbrev pub heard_clashes : Side → Option (List Clash)
heard_clashes side = option_and_then (λ exchange. option_map (clashes_heard side exchange) exchange.heard) side.exchange

-- the same, or an empty list before an offer was heard
abbrev pub clashes_of : Side → List Clash
clashes_of side =
    option_map_or (λ exchange. option_map_or (clashes_heard side exchange) exchange.heard []) side.exchange []

-- the places for its rulings. There are none before an offer was heard
abbrev pub rulings_of : Side → List (Option Judged)
rulings_of side =
    option_map_or (λ exchange. option_map_or (λ heard. heard.rulings) exchange.heard []) side.exchange []

-- the clash is clash k of the open exchange
abbrev pub has_clash : Side → ℕ → Clash → Bool
has_clash side k clash = option_map_or (same_clash clash) (slice_get (clashes_of side) k) false

-- the table that a side shows: without the names that it withdrew in the open exchange
abbrev pub shown_table : Side → Table
shown_table side = option_map_or (λ exchange. without exchange.withdrawn side.table) side.exchange side.table

-- ---- each call of a side, with what it leaves; none where it is refused

-- a call of an open side that changes its exchange alone
abbrev pub in_exchange : Side → (Exchange → Option Exchange) → Option Side
in_exchange side call =
    option_map (λ exchange. record side { exchange = Some exchange }) (option_and_then call side.exchange)

-- an idle side takes names into its table, each once, and no program with two codes
abbrev pub register : Side → Name → Row → Option Side
register side name row =
    if is_none side.exchange
    && not (contains_key side.table name)
    && nat_lt (len side.table) most_names
    && agrees_with side.table row
    then Some (record side { table = insert side.table name row })
    else None

-- an idle side takes names out of its table
abbrev pub unregister : Side → Name → Option Side
unregister side name =
    if is_none side.exchange && contains_key side.table name
    then Some (record side { table = remove side.table name })
    else None

-- the number is above every number so far
abbrev pub is_above : ℕ → Option ℕ → Bool
is_above number None = true
is_above number (Some latest) = nat_lt latest number

-- an idle side opens an exchange
abbrev pub begin : Side → ℕ → ℕ → ℕ → Option Side
begin side number seed uptime =
    if is_none side.exchange && is_above number side.latest
    then Some (record side { exchange = Some (new_exchange number seed uptime); latest = Some number })
    else None

-- it was sent by the other side, of the number that is open
abbrev pub is_theirs : SideId → Exchange → SideId → ℕ → Bool
is_theirs id exchange sender number = exchange.number == number && not (is_side id sender)

abbrev pub heard_of : SideId → Table → Exchange → Offer → Heard
heard_of id own exchange offer =
    let all = clashes_for id own exchange.uptime offer.table offer.uptime in
    record { table = offer.table; uptime = offer.uptime; rulings = replicate (length all) None }

-- the first offer needs this side's seed, and a table that fits
abbrev pub hear_first : SideId → Table → Offer → Exchange → Option Exchange
hear_first id own offer exchange =
    if exchange.seed == offer.seed && fit_for id own offer.table
    then Some (record exchange { heard = Some (heard_of id own exchange offer) })
    else None

abbrev pub hear_in : SideId → Table → Offer → Exchange → Option Exchange
hear_in id own offer exchange =
    if is_theirs id exchange offer.side offer.number
    then (if is_some exchange.heard then Some exchange else hear_first id own offer exchange)
    else None

-- an offer that comes after the first changes nothing
abbrev pub hear : Side → Offer → Option Side
hear side offer = in_exchange side (hear_in side.id side.table offer)

-- a second ruling of a clash changes nothing
abbrev pub put_ruling : List (Option Judged) → ℕ → Judged → List (Option Judged)
put_ruling rulings k judged =
    if is_some (unwrap_or (slice_get rulings k) None) then rulings else slice_set rulings k (Some judged)

abbrev pub take_heard : List Clash → ℕ → Judged → Exchange → Heard → Option Exchange
take_heard all k judged exchange heard =
    if is_lawful all exchange.seed k judged
    then Some (record exchange { heard = Some (record heard { rulings = put_ruling heard.rulings k judged }) })
    else None

abbrev pub take_in : List Clash → ℕ → ℕ → Judged → Exchange → Option Exchange
take_in all number k judged exchange =
    if exchange.number == number then option_and_then (take_heard all k judged exchange) exchange.heard else None

-- a ruling of clash k, once the other's offer was heard
abbrev pub take : Side → ℕ → ℕ → Judged → Option Side
take side number k judged = in_exchange side (take_in (clashes_of side) number k judged)

abbrev pub withdraw_in : Table → Name → Exchange → Option Exchange
withdraw_in own name exchange =
    if not exchange.closed && contains_key own name && not (is_in name exchange.withdrawn)
    then Some (record exchange { withdrawn = exchange.withdrawn ++ name ∷ [] })
    else None

-- the owner of this side's name is gone
abbrev pub withdraw : Side → Name → Option Side
withdraw side name = in_exchange side (withdraw_in side.table name)

abbrev pub close_in : Exchange → Option Exchange
close_in exchange = if exchange.closed then None else Some (record exchange { closed = true })

-- afterwards it withdraws no name
abbrev pub close_list : Side → Option Side
close_list side = in_exchange side close_in

abbrev pub hear_list_in : SideId → Withdrawals → Exchange → Option Exchange
hear_list_in id sent exchange =
    if is_theirs id exchange sent.side sent.number
    then Some (if is_some exchange.their_list then exchange else record exchange { their_list = Some sent.names })
    else None

-- a second list changes nothing
abbrev pub hear_list : Side → Withdrawals → Option Side
hear_list side sent = in_exchange side (hear_list_in side.id sent)

abbrev pub answer_in : Option Judged → Verdict3
answer_in None = Neither
answer_in (Some judged) = judged.answer

abbrev pub merged_table : Side → Exchange → Heard → List Name → Table
merged_table side exchange heard theirs =
    merge_for side.id side.table heard.table (map answer_in heard.rulings) exchange.withdrawn theirs

abbrev pub finish_by : Side → Exchange → Heard → List Name → Option Side
finish_by side exchange heard theirs =
    if list_all is_some heard.rulings && exchange.closed
    then Some (record side { table = merged_table side exchange heard theirs; exchange = None })
    else None

abbrev pub finish_in : Side → Exchange → Option Heard → Option (List Name) → Option Side
finish_in side exchange (Some heard) (Some theirs) = finish_by side exchange heard theirs
finish_in side exchange (Some heard) None = None
finish_in side exchange None theirs = None

-- once the other's offer was heard, a ruling taken for each clash, its own list closed and the other's heard
abbrev pub finish : Side → Option Side
finish side = option_and_then (λ exchange. finish_in side exchange exchange.heard exchange.their_list) side.exchange

-- the names that it withdrew are gone, as after a finish
abbrev pub abandon : Side → Option Side
abandon side = if is_some side.exchange then Some (record side { table = shown_table side; exchange = None }) else None

-- ---- messages that come again

-- the exchange heard an offer with another seed, uptime or table
abbrev pub other_heard : Exchange → Offer → Bool
other_heard exchange offer =
    option_map_or (λ heard. not (exchange.seed == offer.seed
    && (heard.uptime == offer.uptime && same_table heard.table offer.table))) exchange.heard false

-- an offer of the other side and the open number that isn't the one that was heard
abbrev pub heard_other_offer : Side → Offer → Bool
heard_other_offer side offer =
    option_map_or (λ exchange. is_theirs side.id exchange offer.side offer.number && other_heard exchange offer)
    side.exchange false

-- the exchange heard a list of other names
abbrev pub other_list : Exchange → List Name → Bool
other_list exchange names =
    option_map_or (λ theirs. not (pointwise is_same_name theirs names)) exchange.their_list false

-- a list of the other side and the open number that isn't the one that was heard
abbrev pub heard_other_list : Side → Withdrawals → Bool
heard_other_list side sent =
    option_map_or (λ exchange. is_theirs side.id exchange sent.side sent.number && other_list exchange sent.names)
    side.exchange false

-- ---- giving an exchange up

-- the names that it withdrew in the open exchange
abbrev pub withdrawn_by : Side → List Name
withdrawn_by side = option_map_or (λ exchange. exchange.withdrawn) side.exchange []

-- idle, without the names that it withdrew in an open exchange
abbrev pub rested : Side → Side
rested side = record side { table = shown_table side; exchange = None }
