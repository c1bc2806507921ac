use Rattle.std.proofs.Common.{inl, inr, refl, sym}
use Rattle.c_replicas.proofs.edits.set_limit.Goals as goal

pub returns-in-Some : goal.returns-in-Some
returns-in-Some c before = inl (c.in-Some.limit, c.in-Some.ensures.limit, c.edit.ensures before)

pub returns-in-None : goal.returns-in-None
returns-in-None c before = inr (sym c.in-None.ensures.valid, refl, refl, refl)
