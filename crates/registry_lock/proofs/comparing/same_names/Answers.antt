use Rattle.std.proofs.lemmas.Slice.Eq.{slice_eq-Decides, bytes_eq-Decides}
use Rattle.registry_lock.proofs.comparing.same_names.Goals as goal

pub returns : goal.returns
returns c = slice_eq-Decides bytes_eq-Decides c.args.a.now c.args.b.now c.eq.result c.eq.ensures
