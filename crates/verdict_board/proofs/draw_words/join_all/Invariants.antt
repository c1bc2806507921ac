use Rattle.std.proofs.Common.{◌≡◌, ℕ, ◌+◌, [], All, vec_len}
use Rattle.verdict_board.specs.Draws.{weigh, weigh_all}
use Rattle.verdict_board.proofs.draw_words.join_all.Given as goal

abbrev pub invariant-loop-next : goal.invariant-loop-next
invariant-loop-next l =
    (l.all.table_id ≡ l.words.table_id) × (l.all.me.1 ≡ []) × (l.all.me.0.parts + vec_len l.rest ≡ vec_len l.fn.seats)
    × ((f : ℕ × ℕ → ℕ) → weigh f l.all.me.0.drawn + weigh_all f l.rest.items ≡ weigh_all f l.fn.seats.items)
    × All (λ s. s.draws ≡ l.words.table_id) l.rest.items

abbrev pub decreases-loop-next : goal.decreases-loop-next
decreases-loop-next l = vec_len l.rest
