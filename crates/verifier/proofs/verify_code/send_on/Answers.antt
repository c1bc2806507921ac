use Rattle.std.proofs.Common.{◌≡◌, ◌+◌, max, subst}
use Rattle.std.specs.Prelude.{OnOk, OnErr}
use Rattle.abstract_value.specs.Pending.{boxed_view, size, peak_of}
use Rattle.verifier.proofs.Waits.{peak_stays}
use Rattle.verifier.proofs.verify_code.send_on.Goals as goal

pub returns-clause-peak : goal.returns-clause-peak
returns-clause-peak g c =
    subst (λ x. OnOk c.carry_over.result (peak_of c.carry_over.new.pending ≡ max x (size c.carry_over.new.pending)))
    (peak_stays g.D.Domain.ops c.args.pending.now c.carry.new.pending (c.args.here.slot + c.slots.result)
    (boxed_view c.falling.result) c.carry.ensures.states c.carry.ensures.room c.carry.ensures.peak c.requires.taken)
    c.carry_over.ensures.peak

pub returns-clause-kept : goal.returns-clause-kept
returns-clause-kept g c =
    subst (λ x. OnErr c.carry_over.result (peak_of c.carry_over.new.pending ≡ x))
    (peak_stays g.D.Domain.ops c.args.pending.now c.carry.new.pending (c.args.here.slot + c.slots.result)
    (boxed_view c.falling.result) c.carry.ensures.states c.carry.ensures.room c.carry.ensures.peak c.requires.taken)
    c.carry_over.ensures.kept
