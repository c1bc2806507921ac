use Rattle.std.proofs.Common.{ap, sym, ◌∙◌}
use Rattle.abstract_value.specs.Counts.{held_in}
use Rattle.abstract_value.proofs.Held.{held_none}
use Rattle.abstract_value.proofs.pending.Pending.new.Goals as goal

pub no_states-requires : goal.no_states-requires
no_states-requires g c = g.met.D.Domain.fits

pub invariant_of-result-clause-counted : goal.invariant_of-result-clause-counted
invariant_of-result-clause-counted g c =
    sym (ap held_in c.in_ok-no_states.ensures ∙ held_none g.row.D.Denot c.args.slots)
