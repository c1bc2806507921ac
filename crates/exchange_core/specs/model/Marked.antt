-- The marks of clashes that a finished exchange keeps.
use Rattle.std.specs.Prelude.{◌≡◌, map}
use Rattle.partition_table.specs.Tables.{has_first}
use Rattle.exchange_core.specs.declared.finished.Finished.TheInside.{Inside}
use Rattle.exchange_core.specs.Finished.{IsFinished, clashes_merged}
use Rattle.exchange_core.specs.Views.{finished_inside}

-- it is finished, and marks each clash of whose two registrations side A has the first
pub record IsMarked (f : Inside) : Type 0 where
  pub finished : IsFinished (finished_inside f)
  pub marked : f.first_of_a.items ≡ map (has_first (finished_inside f).a) (clashes_merged (finished_inside f))
