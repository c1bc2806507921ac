-- The refusals that a side checks before it looks further.
use Rattle.std.specs.Prelude.{ℕ, Bool, not, ◌==◌, nat_le, nat_lt, if◌then◌else◌, Option, Some, None, is_some}
use Rattle.std.specs.Option.{option_map_or}
use Rattle.std.specs.FinMap.{len, contains_key}
use Rattle.clash_record.specs.Name.{Name}
use Rattle.exchange_core.specs.declared.fault.SideFault.{SideFault}
use Rattle.exchange_core.specs.declared.fault.SideFault.TheVariants.{Healing, NotHealing, SeedDiffers, JournalFull}
use Rattle.exchange_core.specs.declared.fault.SideFault.TheVariants as of
use Rattle.partition_table.specs.declared.fault.TableFault.TheVariants.{NameTaken, Full, TooManyNames}
use Rattle.exchange_law.specs.Sides.{Offer, Exchange, Side}
use Rattle.exchange_core.specs.Refusals.{union_for, is_first_offer, sent_fault}

-- of a registration, on a side with an open exchange or a full journal
abbrev pub closed_register_fault : ℕ → Side → Name → SideFault
closed_register_fault limit side name =
    if contains_key side.table name then of.Table NameTaken
    else (if not (nat_lt (len side.table) limit) then of.Table Full
    else (if is_some side.exchange then Healing else JournalFull))

-- of the other side's first offer, before its table is compared with this side's. Only a full journal has names counted
abbrev pub early_offer_fault : ℕ → Bool → Side → Exchange → Offer → Option SideFault
early_offer_fault limit full side exchange offer =
    if not (exchange.seed == offer.seed) then Some SeedDiffers
    else (if not full then None
    else (if not (nat_le (union_for side.id side.table offer.table) limit) then Some (of.Table TooManyNames)
    else Some JournalFull))

abbrev pub early_hear_fault_in : ℕ → Bool → Side → Offer → Exchange → Option SideFault
early_hear_fault_in limit full side offer exchange =
    if is_first_offer side.id exchange offer
    then early_offer_fault limit full side exchange offer
    else sent_fault full side.id exchange offer.side offer.number

abbrev pub early_hear_fault : ℕ → Bool → Side → Offer → Option SideFault
early_hear_fault limit full side offer =
    option_map_or (early_hear_fault_in limit full side offer) side.exchange (Some NotHealing)
