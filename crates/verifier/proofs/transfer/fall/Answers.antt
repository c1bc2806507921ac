use Rattle.std.proofs.Common.{rules, ap}
use Rattle.std.specs.Prelude.{FitsSigned}
use Rattle.std.specs.Int.{w16}
use Rattle.abstract_value.specs.States.{view}
use Rattle.verifier.specs.Rules.{access_of}
use Rattle.verifier.proofs.Spans.{reach_inside}
use Rattle.verifier.proofs.transfer.fall.Goals as goal

pub after_store-requires : goal.after_store-requires
after_store-requires g c =
    let fits : FitsSigned w16 c.in-Store.offset = rw c.in-Store.is at c.known.ensures in (
      search rules,
      λ a e. reach_inside c.args.insn (view c.args.state.now) _ a fits
          (ap access_of c.in-Store.is) c.requires.inside e,
    )

pub after_store-requires-in-StoreImm : goal.after_store-requires-in-StoreImm
after_store-requires-in-StoreImm g c =
    let fits = rw c.in-StoreImm.is at c.known.ensures in (
      search rules,
      λ a e. reach_inside c.args.insn (view c.args.state.now) _ a fits.0
          (ap access_of c.in-StoreImm.is) c.requires.inside e,
    )
