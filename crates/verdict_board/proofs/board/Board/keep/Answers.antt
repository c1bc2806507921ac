use Rattle.std.proofs.Common.{rules, ◌≡◌, Some, length, ◌∙◌}
use Rattle.std.specs.Prelude.{slice_get}
use Rattle.partition_table.specs.Tables.{word_of}
use Rattle.partition_table.specs.Judged.{clash_of_verdict, word_of_verdict}
use Rattle.verdict_board.proofs.Answering.{has_word, kept_so}
use Rattle.verdict_board.proofs.board.Board.keep.Goals as goal

pub keep_answer-requires-clause-clash : goal.keep_answer-requires-clause-clash
keep_answer-requires-clause-clash c =
    let clashes = c.self.inside.site.clashes.now in
    let at : slice_get clashes c.args.k ≡ Some (clash_of_verdict c.args.verdict) = search rules in
    has_word _ c.args.k clashes (clash_of_verdict c.args.verdict) c.self.invariant.7 at

pub keep_answer-requires-clause-answer : goal.keep_answer-requires-clause-answer
keep_answer-requires-clause-answer c =
    let i = c.self.invariant in
    let site = c.self.inside.site in
    let clashes = site.clashes.now in
    let at : slice_get clashes c.args.k ≡ Some (clash_of_verdict c.args.verdict) = search rules in
    let word : word_of_verdict c.args.verdict ≡ word_of site.seed c.in-Some.round (length clashes) c.args.k =
    search rules in
    let answer : c.answer.result ≡ c.args.verdict.answer = search rules in
    λ clash here. answer ∙ kept_so _ site.seed clashes c.args.k c.in-Some.round c.args.verdict i.8 i.9 word at clash here
