use Rattle.partition_table.specs.model.Keeping.{kept_code}
use Rattle.upload_store.specs.Programs.{programs_by}
use Rattle.partition_table.proofs.Others.{OthersSoFar}
use Rattle.partition_table.proofs.programs.copy_others.Given as goal

-- each program so far is known or copied, and the others are left
abbrev pub invariant-loop-id : goal.invariant-loop-id
invariant-loop-id l =
    OthersSoFar l.programs.entries l.known.entries l.id-iterator (programs_by kept_code l.others.entries)
