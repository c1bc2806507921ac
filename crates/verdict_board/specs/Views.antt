-- The views of a board and of a pass in contracts.
use Rattle.std.specs.Prelude.{ℕ, List, map, Option}
use Rattle.partition_table.specs.Tables.{Clash}
use Rattle.once_cell.specs.declared.race.note.Note.{Note}
use Rattle.verdict_board.specs.Boards.{Place, Pass}

abbrev pub WordNote : Type 0
WordNote = Note ℕ

abbrev pub names : List WordNote → List ℕ
names notes = map (λ (n : WordNote). n.cell) notes

abbrev pub words : List WordNote → List (Option ℕ)
words notes = map (λ (n : WordNote). n.known) notes

abbrev pub place_of : ℕ → ℕ → List Clash → List ℕ → Place
place_of number seed clashes cells = record { number = number; seed = seed; clashes = clashes; cells = cells }

abbrev pub pass_of : ℕ → ℕ → List Clash → List WordNote → Pass
pass_of number seed clashes notes =
    record { place = place_of number seed clashes (names notes); words = words notes }
