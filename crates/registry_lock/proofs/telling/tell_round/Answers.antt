use Rattle.std.proofs.Common.{◌∙◌}
use Rattle.registry_lock.proofs.Told.{both_told, none_told}
use Rattle.registry_lock.proofs.telling.tell_round.Goals.{in-Ok, in-Err+in-Some-1, in-Err+in-None-1}
use Rattle.registry_lock.proofs.telling.tell_round.Goals as goal

pub returns-clause-taken : goal.returns-clause-taken
returns-clause-taken g c =
    let place = c.args.board.now.place in
    elim c.match-pass.branch [
      | in-Ok w ↦
          let told = w.tell_round_by-done in
          both_told place told.new.pass c.args.first c.args.second told.new.first told.new.second _ _
          (told.ensures.keeps.same_board ∙ w.in-Ok.ensures.board) told.ensures.first told.ensures.second w.first-is
          w.second-is
      | in-Err+in-Some-1 w ↦ none_told place c.args.first c.args.second _ _ w.first-is w.second-is
      | in-Err+in-None-1 w ↦ none_told place c.args.first c.args.second _ _ w.first-is w.second-is
    ]
