use Rattle.std.proofs.Common.{◌∙◌}
use Rattle.std.specs.Arc.{arc_value}
use Rattle.upload_store.proofs.Maps.{cloned, cloned_kept}
use Rattle.upload_store.proofs.store.UploadStore.try_clone.Goals as goal

pub invariant_of-result : goal.invariant_of-result
invariant_of-result c =
    cloned_kept arc_value c.self.inside.programs.entries c.in_ok-clone.field-0.entries c.in_ok-clone.ensures.cases
    c.self.invariant

pub returns : goal.returns
returns c =
    cloned arc_value c.self.inside.programs.entries c.in_ok-clone.field-0.entries c.in_ok-clone.ensures.cases
    ∙ c.self.view_is
