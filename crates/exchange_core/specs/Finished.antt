-- The result of a finish.
use Rattle.std.specs.Prelude.{◌≡◌, ℕ, IsTrue, List, [], ◌∷◌, length, map, Option, Some, None, slice_get}
use Rattle.std.specs.Option.{option_and_then}
use Rattle.clash_record.specs.Name.{Name}
use Rattle.partition_table.specs.Tables.{Table, Clash, Gone, clashes, merge, fit_together}
use Rattle.clash_record.specs.declared.side_id.SideId.{SideId}
use Rattle.clash_record.specs.declared.side_id.SideId.TheVariants.{A, B}
use Rattle.exchange_law.specs.Sides.{Judged, Heard, Exchange, Side, is_lawful, merged_table}

-- the two tables that were merged, with the uptimes of their halves and the names withdrawn of each, the ruling of each
-- clash, and the merged table
pub record Finished : Type 0 where
  pub number : ℕ
  pub seed : ℕ
  pub a : Table
  pub uptime_a : ℕ
  pub b : Table
  pub uptime_b : ℕ
  pub gone : Gone
  pub rulings : List Judged
  pub table : Table

-- the clashes of the two tables
abbrev pub clashes_merged : Finished → List Clash
clashes_merged f = clashes f.a f.uptime_a f.b f.uptime_b

-- The table is the merge of the two under the rulings and the lists. Each word is one of its clash's four, and each
-- answer its resolver's at that word
pub record IsFinished (f : Finished) : Type 0 where
  pub fit : IsTrue (fit_together f.a f.b)
  pub one_each : length f.rulings ≡ length (clashes_merged f)
  pub lawful : (k : ℕ) (judged : Judged) → slice_get f.rulings k ≡ Some judged →
      IsTrue (is_lawful (clashes_merged f) f.seed k judged)
  pub merged : f.table ≡ merge f.a f.b (map (λ judged. judged.answer) f.rulings) f.gone

-- one of the two that are merged
pub record Half : Type 0 where
  pub table : Table
  pub uptime : ℕ
  pub gone : List Name

-- of a side's own half and the other's
abbrev pub finished_by : SideId → ℕ → ℕ → Half → Half → List Judged → Table → Finished
finished_by A number seed own other rulings table = record {
  number = number;
  seed = seed;
  a = own.table;
  uptime_a = own.uptime;
  b = other.table;
  uptime_b = other.uptime;
  gone = record { of_a = own.gone; of_b = other.gone };
  rulings = rulings;
  table = table;
}
finished_by B number seed own other rulings table = record {
  number = number;
  seed = seed;
  a = other.table;
  uptime_a = other.uptime;
  b = own.table;
  uptime_b = own.uptime;
  gone = record { of_a = other.gone; of_b = own.gone };
  rulings = rulings;
  table = table;
}

-- the rulings that are there
abbrev pub all_held : List (Option Judged) → List Judged
all_held [] = []
all_held (Some judged ∷ rulings) = judged ∷ all_held rulings
all_held (None ∷ rulings) = all_held rulings

abbrev pub finished_at : SideId → Table → Exchange → Heard → List Name → List Judged → Table → Finished
finished_at id own exchange heard theirs rulings table =
    finished_by id exchange.number exchange.seed
    (record { table = own; uptime = exchange.uptime; gone = exchange.withdrawn })
    (record { table = heard.table; uptime = heard.uptime; gone = theirs }) rulings table

abbrev pub finished_of : Side → Exchange → Heard → List Name → Finished
finished_of side exchange heard theirs =
    finished_at side.id side.table exchange heard theirs (all_held heard.rulings)
    (merged_table side exchange heard theirs)

abbrev pub finished_in : Side → Exchange → Option Heard → Option (List Name) → Option Finished
finished_in side exchange (Some heard) (Some theirs) = Some (finished_of side exchange heard theirs)
finished_in side exchange (Some heard) None = None
finished_in side exchange None theirs = None

-- what a finish of this side gives; none where the exchange isn't open, or the offer or the list wasn't heard
abbrev pub finished_from : Side → Option Finished
finished_from side = option_and_then (λ exchange. finished_in side exchange exchange.heard exchange.their_list)
    side.exchange
