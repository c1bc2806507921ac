use Rattle.std.proofs.Common.{rules}
use Rattle.clash_record.proofs.NameBytes.{stored_name}
use Rattle.clash_record.proofs.names.naming.name.Goals as goal

pub invariant_of-result : goal.invariant_of-result
invariant_of-result c = rw c.copy_from_slice.ensures.after (stored_name c.args.bytes.now (search rules))
