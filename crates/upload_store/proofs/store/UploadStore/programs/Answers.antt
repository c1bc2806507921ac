use Rattle.std.proofs.Common.{ap, sym, ◌∙◌}
use Rattle.std.specs.Arc.{arc_value}
use Rattle.std.specs.FinMap as map
use Rattle.clash_record.specs.laws.Orders.{ids_total, ids_exact}
use Rattle.upload_store.specs.Programs.{mapped}
use Rattle.upload_store.specs.laws.Mapped.{entries-mapped}
use Rattle.upload_store.proofs.store.UploadStore.programs.Goals as goal

pub returns : goal.returns
returns c =
    ap (mapped arc_value) c.iter.ensures.rest
    ∙ sym (entries-mapped ids_total arc_value ids_exact c.self.inside.programs.entries c.iter.ensures.ordered)
    ∙ ap map.entries c.self.view_is
