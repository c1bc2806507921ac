use Rattle.std.proofs.Common.{rules, sym, ap, ◌∙◌}
use Rattle.verdict_board.specs.Boards.{Place, Pass}
use Rattle.verdict_board.proofs.Looking.{same_cell}
use Rattle.verdict_board.proofs.pass.Pass.agree.Goals as goal

pub compare-requires : goal.compare-requires
compare-requires c =
    let names = ap (λ (p : Pass). p.place.cells) c.self.view_is ∙ ap (λ (b : Place). b.cells) c.requires
    ∙ sym (ap (λ (p : Pass). p.place.cells) c.other.view_is) in
    let cell = same_cell _ _ _ _ _ names (search rules)
    (search rules) c.index_mut-then-place-len-2.ensures.value c.index_mut.ensures.value in
    ap (λ n. n.cell) c.again-note.ensures.1 ∙ cell
