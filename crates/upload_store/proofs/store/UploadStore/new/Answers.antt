use Rattle.std.specs.Arc.{arc_value}
use Rattle.upload_store.proofs.Maps.{none_kept}
use Rattle.upload_store.proofs.store.UploadStore.new.Goals as goal

pub invariant_of-result : goal.invariant_of-result
invariant_of-result c = none_kept arc_value c.new.result.entries c.new.ensures.empty
