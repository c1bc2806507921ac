use Rattle.std.proofs.Common.{sym, subst}
use Rattle.std.specs.Arc.{arc_value}
use Rattle.upload_store.specs.Programs.{IsStore}
use Rattle.upload_store.proofs.Maps.{get_lent, lent_program}
use Rattle.upload_store.proofs.store.UploadStore.get.Goals as goal

pub returns-clause-code : goal.returns-clause-code
returns-clause-code c =
    sym (get_lent arc_value c.args.self.now c.self.inside.programs.entries c.self.view_is c.args.id.now c.get.result
    c.get.ensures.value)

pub returns-clause-program : goal.returns-clause-program
returns-clause-program c =
    lent_program arc_value c.args.self.now c.args.id.now c.get.result
    (subst IsStore c.self.view_is c.self.invariant.store)
    (get_lent arc_value c.args.self.now c.self.inside.programs.entries c.self.view_is c.args.id.now c.get.result
    c.get.ensures.value)
