use Rattle.std.proofs.Common.{◌≡◌, ◌+◌, ◌<◌, [], All, vec_len}
use Rattle.verdict_board.specs.model.Given.{hand}
use Rattle.verdict_board.proofs.draw_words.deal.Given as goal

abbrev pub invariant-loop-left : goal.invariant-loop-left
invariant-loop-left l = (l.whole.table_id ≡ l.words.table_id) × (l.whole.me ≡ (hand l.left [], []))
    × (vec_len l.all + l.left ≡ l.fn.seats) × (0 < l.left)
    × All (λ s. (s.draws ≡ l.words.table_id) × (s.drawn ≡ [])) l.all.items

abbrev pub decreases-loop-left : goal.decreases-loop-left
decreases-loop-left l = l.left
