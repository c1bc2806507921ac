use Rattle.std.proofs.Common.{rules, ◌≡◌, ◌≢◌, true, length}
use Rattle.partition_table.specs.Judged.{word_of_verdict}
use Rattle.partition_table.specs.Rulings.{is_one_of_four}
use Rattle.verdict_board.proofs.Rulings.{seen_verdict, seen_other}
use Rattle.verdict_board.proofs.board.Board.post.Goals as goal

pub returns-in-Some-clause-answer : goal.returns-in-Some-clause-answer
returns-in-Some-clause-answer c =
    let word : c.in-Some.first ≡ word_of_verdict c.args.verdict = search rules in
    seen_verdict c.offer.new.self c.args.self.now.place c.args.k c.in-Some.first c.args.verdict (search rules)
    (search rules) word c.requires.clash c.requires.word

pub returns-in-Some-2-clause-answer : goal.returns-in-Some-2-clause-answer
returns-in-Some-2-clause-answer c =
    let place = c.args.self.now.place in
    let apart : c.in-Some-2.first ≢ word_of_verdict c.args.verdict = search rules in
    let passes : is_one_of_four c.in-Some-2.first place.seed (length place.clashes) c.args.k ≡ true = search rules in
    seen_other c.offer.new.self place c.args.k c.in-Some-2.first (word_of_verdict c.args.verdict) _ (search rules)
    (search rules) c.requires.clash passes apart
