use Rattle.std.proofs.Common.{ap, sym, ◌∙◌}
use Rattle.std.specs.Option.{option_map}
use Rattle.std.specs.Arc.{arc_value}
use Rattle.std.specs.FinMap as map
use Rattle.upload_store.proofs.Maps.{get_code, map_removed, less_kept}
use Rattle.upload_store.proofs.store.UploadStore.forget.Goals as goal

pub invariant_of-self : goal.invariant_of-self
invariant_of-self c =
    less_kept arc_value c.self.inside.programs c.remove.new.self c.args.id.now c.remove.ensures.updates c.self.invariant
    c.remove.result c.remove.ensures.value c.remove.ensures.len

pub returns-clause-program : goal.returns-clause-program
returns-clause-program c =
    ap (option_map arc_value) c.remove.ensures.value
    ∙ sym (get_code arc_value c.self.inside.programs.entries c.args.id.now)
    ∙ ap (λ m. map.get m c.args.id.now) c.self.view_is

pub returns-clause-forgotten : goal.returns-clause-forgotten
returns-clause-forgotten c =
    map_removed arc_value c.self.inside.programs c.remove.new.self c.args.id.now c.remove.ensures.updates
    ∙ ap (λ m. map.remove m c.args.id.now) c.self.view_is
