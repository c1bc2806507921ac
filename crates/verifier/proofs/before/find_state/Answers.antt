use Rattle.abstract_value.specs.Pending.{boxed_view, held, peak_of}
use Rattle.verifier.proofs.StatesBefore.{after_failure, pending_state}
use Rattle.verifier.proofs.before.find_state.Goals as goal

pub returns-in-Some : goal.returns-in-Some
returns-in-Some g c =
    after_failure g.met.D.Domain.laws c.args.context_len c.args.code.now c.args.slot _ _ _
    (rw c.in-Some.is at c.in_ok-pass.ensures.answer)

pub returns-in-None : goal.returns-in-None
returns-in-None g c =
    pending_state g.met.D.Domain.laws c.args.context_len c.args.code.now c.args.slot (peak_of c.pass.new.pending)
    (held c.pass.new.pending) (boxed_view c.take.result) c.requires.structured c.requires.inside
    (rw c.in-None.is at c.in_ok-pass.ensures.answer) c.take.ensures.state
