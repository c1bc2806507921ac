-- The refusal that is due at each call of a side: the least that applies.
use Rattle.std.specs.Prelude.{ℕ, ◌+◌, ◌-◌, Bool, not, ◌&&◌, ◌==◌, nat_lt, nat_le, if◌then◌else◌, List, [], ◌∷◌, length, Option, Some, None, is_some, is_none, filter}
use Rattle.std.specs.Option.{option_map_or}
use Rattle.std.specs.FinMap.{len, contains_key}
use Rattle.clash_record.specs.declared.registrations.Registration.{Registration}
use Rattle.upload_store.specs.Programs.{Programs}
use Rattle.clash_record.specs.Name.{Name}
use Rattle.partition_table.specs.Tables.{Table, Clash, row_for, agrees_with, union_len, tables_agree, is_in}
use Rattle.partition_table.specs.declared.fault.TableFault.TheVariants.{NameTaken, NoSuchName, Full, TooManyNames, UnknownProgram, OtherCode}
use Rattle.partition_table.specs.Faults.{is_known}
use Rattle.clash_record.specs.declared.side_id.SideId.{SideId}
use Rattle.clash_record.specs.declared.side_id.SideId.TheVariants.{A, B}
use Rattle.exchange_core.specs.declared.fault.MissingPart.{MissingPart}
use Rattle.exchange_core.specs.declared.fault.MissingPart.TheVariants.{TheirOffer, Ruling, OwnList, OtherList}
use Rattle.exchange_core.specs.declared.fault.SideFault.{SideFault}
use Rattle.exchange_core.specs.declared.fault.SideFault.TheVariants.{Healing, NotHealing, StaleNumber, SeedDiffers, StrangeRuling, Missing, JournalFull, OtherNumber, OwnOffer, Withdrawn, ListClosed}
use Rattle.exchange_core.specs.declared.fault.SideFault.TheVariants as of
use Rattle.exchange_core.specs.Journal.{max_events}
use Rattle.exchange_law.specs.Sides.{Offer, Withdrawals, Judged, Heard, Exchange, Side, is_one_of_four, is_side, is_above, is_theirs, clashes_of, has_clash}

-- In each of these, `limit` is the most names that the side may have, and `full` whether its journal holds no more events.

abbrev pub register_fault : ℕ → Bool → Side → Name → Registration → Programs → Option SideFault
register_fault limit full side name r store =
    if contains_key side.table name then Some (of.Table NameTaken)
    else (if not (nat_lt (len side.table) limit) then Some (of.Table Full)
    else (if is_some side.exchange then Some Healing
    else (if full then Some JournalFull
    else (if not (is_known store r.resolver) then Some (of.Table UnknownProgram)
    else (if not (agrees_with side.table (row_for store r)) then Some (of.Table OtherCode) else None)))))

abbrev pub unregister_fault : Bool → Side → Name → Option SideFault
unregister_fault full side name =
    if not (contains_key side.table name) then Some (of.Table NoSuchName)
    else (if is_some side.exchange then Some Healing
    else (if full then Some JournalFull else None))

abbrev pub begin_fault : Bool → Side → ℕ → Option SideFault
begin_fault full side number =
    if is_some side.exchange then Some Healing
    else (if not (is_above number side.latest) then Some StaleNumber
    else (if full then Some JournalFull else None))

-- how many names the two tables have together, and whether they agree on the code of each program. A's goes first
abbrev pub union_for : SideId → Table → Table → ℕ
union_for A own other = union_len own other
union_for B own other = union_len other own

abbrev pub agree_for : SideId → Table → Table → Bool
agree_for A own other = tables_agree own other
agree_for B own other = tables_agree other own

-- what is due to the other side's first offer of the open number
abbrev pub first_offer_fault : ℕ → Bool → Side → Exchange → Offer → Option SideFault
first_offer_fault limit full side exchange offer =
    if not (exchange.seed == offer.seed) then Some SeedDiffers
    else (if not (nat_le (union_for side.id side.table offer.table) limit) then Some (of.Table TooManyNames)
    else (if full then Some JournalFull
    else (if not (agree_for side.id side.table offer.table) then Some (of.Table OtherCode) else None)))

-- what is due to what a side sent, of this number
abbrev pub sent_fault : Bool → SideId → Exchange → SideId → ℕ → Option SideFault
sent_fault full id exchange sender number =
    if full then Some JournalFull
    else (if not (exchange.number == number) then Some OtherNumber
    else (if is_side id sender then Some OwnOffer else None))

-- what is due to a message by its sender and number alone
abbrev pub message_fault : Bool → Side → SideId → ℕ → Option SideFault
message_fault full side sender number =
    option_map_or (λ exchange. if is_theirs side.id exchange sender number
    then None else sent_fault full side.id exchange sender number) side.exchange (Some NotHealing)

abbrev pub is_first_offer : SideId → Exchange → Offer → Bool
is_first_offer id exchange offer =
    is_none exchange.heard && (exchange.number == offer.number && not (is_side id offer.side))

abbrev pub hear_fault_in : ℕ → Bool → Side → Offer → Exchange → Option SideFault
hear_fault_in limit full side offer exchange =
    if is_first_offer side.id exchange offer
    then first_offer_fault limit full side exchange offer
    else sent_fault full side.id exchange offer.side offer.number

abbrev pub hear_fault : ℕ → Bool → Side → Offer → Option SideFault
hear_fault limit full side offer = option_map_or (hear_fault_in limit full side offer) side.exchange (Some NotHealing)

-- the ruling isn't of clash k of the open exchange, or its word is none of the clash's four
abbrev pub is_strange : Side → Exchange → ℕ → Clash → ℕ → Bool
is_strange side exchange k clash word =
    not (has_clash side k clash && is_one_of_four word exchange.seed (length (clashes_of side)) k)

abbrev pub take_fault_in : Bool → Side → ℕ → ℕ → Clash → ℕ → Exchange → Option SideFault
take_fault_in full side number k clash word exchange =
    if exchange.number == number && is_strange side exchange k clash word then Some StrangeRuling
    else (if full then Some JournalFull
    else (if not (exchange.number == number) then Some OtherNumber else None))

-- of a ruling of this number, clash and word
abbrev pub take_fault : Bool → Side → ℕ → ℕ → Clash → ℕ → Option SideFault
take_fault full side number k clash word =
    option_map_or (take_fault_in full side number k clash word) side.exchange (Some NotHealing)

abbrev pub withdraw_fault_in : Bool → Name → Exchange → Option SideFault
withdraw_fault_in full name exchange =
    if full then Some JournalFull
    else (if is_in name exchange.withdrawn then Some Withdrawn
    else (if exchange.closed then Some ListClosed else None))

abbrev pub withdraw_fault : Bool → Side → Name → Option SideFault
withdraw_fault full side name =
    if not (contains_key side.table name) then Some (of.Table NoSuchName)
    else option_map_or (withdraw_fault_in full name) side.exchange (Some NotHealing)

abbrev pub close_list_fault_in : Bool → Exchange → Option SideFault
close_list_fault_in full exchange =
    if full then Some JournalFull else (if exchange.closed then Some ListClosed else None)

abbrev pub close_list_fault : Bool → Side → Option SideFault
close_list_fault full side = option_map_or (close_list_fault_in full) side.exchange (Some NotHealing)

abbrev pub hear_list_fault : Bool → Side → Withdrawals → Option SideFault
hear_list_fault full side sent =
    option_map_or (λ exchange. sent_fault full side.id exchange sent.side sent.number) side.exchange (Some NotHealing)

-- the first place without a ruling, where the list begins at place k
abbrev pub first_without : ℕ → List (Option Judged) → Option ℕ
first_without k [] = None
first_without k (None ∷ rulings) = Some k
first_without k (Some judged ∷ rulings) = first_without (k + 1) rulings

-- what is missing once the offer was heard: a ruling, else the own list, else the other's
abbrev pub missing_after : Option ℕ → Bool → Bool → Option MissingPart
missing_after (Some k) closed list_heard = Some (Ruling k)
missing_after None closed list_heard =
    if not closed then Some OwnList else (if not list_heard then Some OtherList else None)

abbrev pub missing_by : Option Heard → Bool → Bool → Option MissingPart
missing_by None closed list_heard = Some TheirOffer
missing_by (Some heard) closed list_heard = missing_after (first_without 0 heard.rulings) closed list_heard

-- the first thing that an exchange lacks before it can be finished
abbrev pub missing_of : Exchange → Option MissingPart
missing_of exchange = missing_by exchange.heard exchange.closed (is_some exchange.their_list)

abbrev pub missing_or_full : Bool → Option MissingPart → Option SideFault
missing_or_full full (Some part) = Some (Missing part)
missing_or_full full None = if full then Some JournalFull else None

abbrev pub finish_fault : Bool → Side → Option SideFault
finish_fault full side =
    option_map_or (λ exchange. missing_or_full full (missing_of exchange)) side.exchange (Some NotHealing)

abbrev pub abandon_fault : Bool → Side → Option SideFault
abandon_fault full side =
    if is_none side.exchange then Some NotHealing else (if full then Some JournalFull else None)

-- the clashes without a ruling
abbrev pub count_lacking : List (Option Judged) → ℕ
count_lacking rulings = length (filter is_none rulings)

abbrev pub settle_fault_heard : ℕ → ℕ → Option Heard → Option SideFault
settle_fault_heard limit events None = Some (Missing TheirOffer)
settle_fault_heard limit events (Some heard) =
    if nat_lt (max_events limit - events) (count_lacking heard.rulings) then Some JournalFull else None

-- of a side whose journal has this many events: each ruling that is taken adds one
abbrev pub settle_fault : ℕ → ℕ → Side → Option SideFault
settle_fault limit events side =
    option_map_or (λ exchange. settle_fault_heard limit events exchange.heard) side.exchange (Some NotHealing)

abbrev pub clashes_fault_in : Exchange → Option SideFault
clashes_fault_in exchange = if is_some exchange.heard then None else Some (Missing TheirOffer)

abbrev pub clashes_fault : Side → Option SideFault
clashes_fault side = option_map_or clashes_fault_in side.exchange (Some NotHealing)

abbrev pub renew_fault : Side → Option SideFault
renew_fault side = if is_some side.exchange then Some Healing else None
