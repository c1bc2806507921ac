use Rattle.std.proofs.Common.{sym, ◌∙◌}
use Rattle.registry_lock.proofs.Agreeing.{as_seen, as_seen_too}
use Rattle.registry_lock.proofs.meeting.meet.Goals as goal

pub returns-clause-healed : goal.returns-clause-healed
returns-clause-healed c =
    let q = c.agree.new.pass in
    let f = c.args.first in
    let g = c.args.second in
    let held = c.in_ok-agree.ensures in
    let mine = as_seen q f held.finished.0 held.agrees.0 in
    let yours = as_seen_too q f g held.pair held.finished.1 held.agrees.1 in record {
      seed = held.seed;
      number = held.number;
      pair = held.pair;
      board = held.board;
      first_agrees = held.agrees.0;
      second_agrees = held.agrees.1;
      first_finished = held.finished.0;
      second_finished = held.finished.1;
      first_has = sym c.into_table.ensures;
      second_has = yours ∙ sym mine ∙ sym c.into_table.ensures;
      merged = c.into_table.ensures ∙ mine;
    }
