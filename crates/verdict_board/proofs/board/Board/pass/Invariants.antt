use Rattle.std.proofs.Common.{◌≡◌, ℕ, None, map, take, get_or}
use Rattle.once_cell.specs.Once.{cell_name}
use Rattle.verdict_board.specs.Views.{names, words}
use Rattle.verdict_board.proofs.board.Board.pass.Given as goal

abbrev pub invariant-loop-cell : goal.invariant-loop-cell
invariant-loop-cell l = (names l.notes.items ≡ take l.cell-index (map cell_name l.self-inside.cells.items))
    × ((k : ℕ) → get_or (words l.notes.items) k None ≡ None)
