use Rattle.std.proofs.Common.{◌≡◌, inl, Some, None}
use Rattle.abstract_value.specs.Pending.{held, peak_of}
use Rattle.verifier.proofs.OneVerdict.{is_refused}
use Rattle.verifier.proofs.Safe.{safe}
use Rattle.verifier.proofs.Waits.{passed_all}
use Rattle.verifier.proofs.verify_code.verify_peak_for.Goals as goal

pub new-requires-in-Ok-None-clause-safe : goal.new-requires-in-Ok-None-clause-safe
new-requires-in-Ok-None-clause-safe g c =
    let none : c.in-Ok-None.field-0 ≡ None = rw c.in-Ok-None.is at c.in-Ok-None.field-0-is in
    let all = passed_all g.met.D.Domain.laws c.args.context_len c.args.code c.slot_count-2.result
    (peak_of c.pass-answer.new.pending) (held c.pass-answer.new.pending) c.slot_count-2.ensures.count
    (rw none at (rw c.in-Ok-None.is at c.pass-answer.ensures.answer)) in
    safe g.met.D.Domain.laws c.args.context_len c.args.code c.known.ensures c.in_default.ensures all.0

pub returns-in-Ok-Some-clause-refused : goal.returns-in-Ok-Some-clause-refused
returns-in-Ok-Some-clause-refused g c =
    let some : c.in-Ok-Some.field-0 ≡ Some c.in-Ok-Some.refusal = rw c.in-Ok-Some.is at c.in-Ok-Some.field-0-is in
    let stopped = rw some at (rw c.in-Ok-Some.is at c.pass-answer.ensures.answer) in
    inl (is_refused g.met.D.Domain.laws c.args.context_len c.args.code c.in-Ok-Some.refusal.slot
    c.in-Ok-Some.refusal.rule stopped.unfulfilled)
