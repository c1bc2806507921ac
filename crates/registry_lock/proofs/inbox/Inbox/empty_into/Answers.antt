use Rattle.std.proofs.Common.{rules, ◌∙◌, arith}
use Rattle.registry_lock.proofs.Agreeing.{keeps_all, keeps_through}
use Rattle.registry_lock.proofs.OwnClashes.{same_when_told}
use Rattle.registry_lock.proofs.Told.{told_on, told_still, told_fewer, same_told}
use Rattle.registry_lock.proofs.inbox.Inbox.empty_into.Goals as goal

pub loop-turn-init : goal.loop-turn-init
loop-turn-init g c = record {
  place = c.requires.board;
  kept = keeps_all c.args.pass.now;
  told = same_told c.args.pass.now 0 c.args.side.now;
  few = omega arith;
  end = search rules;
}

pub take_seen-requires-clause-board : goal.take_seen-requires-clause-board
take_seen-requires-clause-board g c = c.loop-turn.invariant.place

pub take_seen-requires-clause-own : goal.take_seen-requires-clause-own
take_seen-requires-clause-own g c = λ own. same_when_told _ _ c.args.side.now c.loop-turn.side c.loop-turn.invariant.told
    ∙ c.is_its_own-is_own.ensures own

pub loop-turn-preserved : goal.loop-turn-preserved
loop-turn-preserved g c =
    let kept = c.take_seen.ensures.keeps in
    record {
      place = kept.same_board ∙ c.loop-turn.invariant.place;
      kept = keeps_through _ _ _ c.loop-turn.invariant.kept kept;
      told = told_on _ _ _ _ _ _ (told_still _ _ _ _ _ kept c.loop-turn.invariant.told) c.take_seen.ensures.taken;
      few = omega (arith, c.loop-turn-test.true);
      end = c.loop-turn.invariant.end;
    }

pub returns-after-loop-turn-clause-keeps : goal.returns-after-loop-turn-clause-keeps
returns-after-loop-turn-clause-keeps g c = c.loop-turn.invariant.kept

pub returns-after-loop-turn-clause-taken : goal.returns-after-loop-turn-clause-taken
returns-after-loop-turn-clause-taken g c =
    told_fewer _ _ _ _ _ (omega (arith, c.loop-turn.invariant.few, c.loop-turn.invariant.end)) c.loop-turn.invariant.told

pub returns-in_default-clause-keeps : goal.returns-in_default-clause-keeps
returns-in_default-clause-keeps g c = c.loop-turn.invariant.kept

pub returns-in_default-clause-taken : goal.returns-in_default-clause-taken
returns-in_default-clause-taken g c =
    told_fewer _ _ _ _ _ (omega (arith, c.loop-turn.invariant.few, c.loop-turn.invariant.end)) c.loop-turn.invariant.told
