use Rattle.std.proofs.Common.{rules, ◌≡◌, ◌<◌, ℕ, ◌+◌, List, None, map, length, take, get_or, sym, ap, ◌∙◌, subst}
use Rattle.once_cell.specs.Once.{cell_name}
use Rattle.std.proofs.lemmas.List.{get_or-map, length-map}
use Rattle.verdict_board.specs.Views.{WordNote, names, words}
use Rattle.verdict_board.proofs.Looking.{none_more, names_more}
use Rattle.verdict_board.proofs.board.Board.pass.Goals as goal

pub loop-cell-preserved : goal.loop-cell-preserved
loop-cell-preserved c =
    let i = c.loop-cell.invariant in
    let e = c.in_ok-push.ensures.items in
    let inside : c.loop-cell.cell-index < length c.self.inside.cells.items = search rules in
    let here : c.note.result.cell ≡ get_or
    (map cell_name c.self.inside.cells.items) c.loop-cell.cell-index c.note.result.cell =
    c.note.ensures.0 ∙ ap cell_name (c.cell-item.is
    ∙ ap (λ l. get_or l c.loop-cell.cell-index c.cell-item.result) c.deref-cell-items.ensures.value)
    ∙ sym (get_or-map cell_name c.self.inside.cells.items c.loop-cell.cell-index c.cell-item.result
    c.note.result.cell inside) in
    let there : c.loop-cell.cell-index < length (map cell_name c.self.inside.cells.items) =
    subst (λ (m : ℕ). c.loop-cell.cell-index < m) (sym (length-map c.self.inside.cells.items cell_name)) inside in
    subst (λ (l : List WordNote). (names l ≡ take (c.loop-cell.cell-index + 1)
    (map cell_name c.self.inside.cells.items)) × ((k : ℕ) → get_or (words l) k None ≡ None)) (sym e)
    (names_more _ _ _ _ i.0 there here, none_more _ _ c.note.ensures.1 i.1)
