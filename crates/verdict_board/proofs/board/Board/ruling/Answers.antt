use Rattle.std.proofs.Common.{rules, ◌≡◌, Some, length}
use Rattle.std.specs.Prelude.{slice_get}
use Rattle.partition_table.specs.Tables.{word_of}
use Rattle.verdict_board.proofs.Answering.{has_word, known_so}
use Rattle.verdict_board.proofs.board.Board.ruling.Goals as goal

pub kept_answer-requires : goal.kept_answer-requires
kept_answer-requires c =
    let clashes = c.self.inside.site.clashes.now in
    let at : slice_get clashes c.args.k ≡ Some c.in_ok-clash.clash.now = search rules in
    record { clash = has_word _ c.args.k clashes c.in_ok-clash.clash.now c.self.invariant.7 at }

pub known-verdict-requires : goal.known-verdict-requires
known-verdict-requires c =
    let i = c.self.invariant in
    let site = c.self.inside.site in
    let clashes = site.clashes.now in
    let at : slice_get clashes c.args.k ≡ Some c.in_ok-clash.clash.now = search rules in
    let word : c.args.word ≡ word_of site.seed c.in_ok-round.round (length clashes) c.args.k = search rules in
    known_so _ site.seed clashes c.args.k c.in_ok-round.round c.args.word c.in_ok-clash.clash.now c.in-Some.answer i.8 i.9
    word at c.in-Some.ensures
