use Rattle.std.proofs.Common.{inl, inr, refl}
use Rattle.c_calls.proofs.half.Half.code.Goals as goal

pub returns-in-None : goal.returns-in-None
returns-in-None c before = inr (refl, inl (refl, c.program_with.ensures.missing c.in-None.is))
