use Rattle.std.proofs.Common.{inl, refl}
use Rattle.c_calls.proofs.negotiation.finish.Goals as goal

pub returns-in-Ok-finish : goal.returns-in-Ok-finish
returns-in-Ok-finish c =
    let e = c.in-Ok-finish.ensures in
    rw e.answer (λ before. inl (refl, (e.done, (c.in-Ok-finish.finished, e.given, c.fill.ensures))))
