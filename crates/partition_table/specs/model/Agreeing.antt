-- The ids that an agreement notes.
use Rattle.std.specs.Prelude.{IsTrue}
use Rattle.std.specs.BTreeSet.{BTreeSet, contains}
use Rattle.clash_record.specs.declared.registrations.ProgramId.{ProgramId}
use Rattle.clash_record.specs.Orders.{id_cmp}
use Rattle.upload_store.specs.Programs.{Programs}
use Rattle.partition_table.specs.Tables.{Table}
use Rattle.partition_table.specs.Agreements.{IsAgreed}

-- the table agrees with the store on each program of the set
abbrev pub AreAgreed : BTreeSet ProgramId → Table → Programs → Type 0
AreAgreed ids table store = (id : ProgramId) → IsTrue (contains id_cmp ids id) → IsAgreed table store id
