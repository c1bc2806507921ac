use Rattle.std.proofs.Common.{refl}
use Rattle.registry_lock.proofs.partition.Partition.with_side.Goals as goal

pub returns : goal.returns
returns g c =
    let side = c.deref_mut.result in (
      side.now,
      c.f.new.arg2,
      record {
        shown = side;
        shows = refl;
        left = record side { now = c.f.new.arg2 };
        met = c.f.ensures;
        leaves = refl;
      },
    )
