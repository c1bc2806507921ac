-- The parts of an entry that contracts see.
use Rattle.replica_law.specs.Groups as law
use Rattle.replica.specs.declared.messages.Entry.{Entry}
use Rattle.replica.specs.Halves.{Edit}

abbrev pub entry_seen : Entry → law.Entry Edit
entry_seen e = record { at = e.at; edit = e.edit }
