use Rattle.std.proofs.Common.{rules}
use Rattle.script_text.proofs.Triples.{triples_more}
use Rattle.script_text.proofs.parsing.triples.Goals as goal

pub loop-at-preserved : goal.loop-at-preserved
loop-at-preserved c =
    triples_more c.args.words.now c.loop-at.triples.items c.push.new.self.items c.loop-at.at c.in_ok-triple.triple
    (search rules) c.loop-at.invariant (rw c.in_ok-triple.was at c.first_triple.ensures)
