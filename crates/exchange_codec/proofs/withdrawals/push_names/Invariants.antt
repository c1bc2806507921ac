use Rattle.std.proofs.Common.{◌≡◌, ◌++◌, take}
use Rattle.std.specs.Prelude.{IsTrue}
use Rattle.std.specs.List.{flat_map, AllByRecursion}
use Rattle.clash_record.specs.Name.{is_name}
use Rattle.exchange_codec.specs.Names.{name_bytes}
use Rattle.exchange_codec.proofs.withdrawals.push_names.Given as goal

abbrev pub invariant-loop-name : goal.invariant-loop-name
invariant-loop-name l =
    (l.out.items ≡ l.fn.out.items ++ flat_map name_bytes (take l.name-index l.names))
    × AllByRecursion (λ name. IsTrue (is_name name)) (take l.name-index l.names)
