use Rattle.std.proofs.Common.{sym, subst}
use Rattle.std.specs.Prelude.{IsTrue}
use Rattle.abstract_value.specs.States.{view}
use Rattle.verifier.specs.Rules.{of_access, inside_stack}
use Rattle.verifier.proofs.verify_code.falling.Goals as goal

pub fall-requires : goal.fall-requires
fall-requires g c = (
  g.met.D.Domain.fits,
  (
    c.requires.selected,
    subst (λ s. IsTrue (of_access c.args.insn (view s) inside_stack)) (sym c.deref_mut.ensures.value) c.requires.inside,
  ),
)
