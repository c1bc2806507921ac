-- When an exchange can be finished, and with which result.
use Rattle.std.specs.Prelude.{◌≡◌, ℕ, Bool, true, List, length, Option, Some, is_some, slice_get, map}
use Rattle.std.specs.Option.{option_map}
use Rattle.std.specs.List.{list_all}
use Rattle.clash_record.specs.Name.{Name}
use Rattle.partition_table.specs.Tables.{Table}
use Rattle.clash_record.specs.declared.side_id.SideId.{SideId}
use Rattle.exchange_law.specs.Sides.{Judged, Heard, Exchange, clashes_for, fit_for, is_lawful, merge_for, answer_in}
use Rattle.partition_table.specs.declared.clashing.Compared.{Compared}
use Rattle.partition_table.specs.declared.merging.MergedTable.{MergedTable}
use Rattle.exchange_core.specs.Finished.{all_held}
use Rattle.exchange_core.specs.model.Keeping.{marks_for}
use Rattle.exchange_core.specs.model.Pairing.{IsComparedFor, merged_for}

-- the exchange of a side with this table can be finished
pub record IsMergeable (id : SideId) (own : Table) (exchange : Exchange) : Type 0 where
  pub heard : Heard
  pub theirs : List Name
  pub was_heard : exchange.heard ≡ Some heard
  pub list_heard : exchange.their_list ≡ Some theirs
  pub list_closed : exchange.closed ≡ true
  pub full : list_all is_some heard.rulings ≡ true
  pub fit : fit_for id own heard.table ≡ true
  pub places : length heard.rulings ≡ length (clashes_for id own exchange.uptime heard.table heard.uptime)
  pub lawful : (k : ℕ) (judged : Judged) → slice_get heard.rulings k ≡ Some (Some judged) →
      is_lawful (clashes_for id own exchange.uptime heard.table heard.uptime) exchange.seed k judged ≡ true

-- the comparison was of this side's table and the other's
abbrev pub IsComparedIn : SideId → Table → Exchange → Compared → Type 0
IsComparedIn id own exchange found = (heard : Heard) → exchange.heard ≡ Some heard →
    IsComparedFor id own exchange.uptime heard.table heard.uptime found

-- the table that the merge is
abbrev pub merged_in : SideId → Table → Exchange → MergedTable → Option Table
merged_in id own exchange merged = option_map (λ heard. merged_for id own heard.table merged) exchange.heard

-- these are the marks of its clashes
abbrev pub IsMarkedIn : SideId → Table → Exchange → List Bool → Type 0
IsMarkedIn id own exchange marks = (heard : Heard) → exchange.heard ≡ Some heard →
    marks ≡ (marks_for id own exchange.uptime heard.table heard.uptime).0

-- these rulings and this table are what it is merged to
abbrev pub IsMergeOf : SideId → Table → Exchange → List Judged → Table → Type 0
IsMergeOf id own exchange rulings table =
    (heard : Heard) (theirs : List Name) → exchange.heard ≡ Some heard → exchange.their_list ≡ Some theirs →
    (rulings ≡ all_held heard.rulings)
    × (table ≡ merge_for id own heard.table (map answer_in heard.rulings) exchange.withdrawn theirs)
