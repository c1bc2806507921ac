use Rattle.std.proofs.Common.{◌≤◌, length, arith}
use Rattle.std.proofs.lemmas.Result.{on_ok_weaker}
use Rattle.upload_store.specs.Programs.{max_programs}
use Rattle.replica_codec.specs.Snapshots.{store_codes}
use Rattle.replica_codec.proofs.StoreLaws.{codes_len, codes_written}
use Rattle.replica_codec.proofs.stores.push_codes.Goals as goal

pub returns-clause-written : goal.returns-clause-written
returns-clause-written c =
    on_ok_weaker c.push_each.result (λ wrote.
    codes_written c.args.store.now c.len.result c.args.out.now.items c.push_u32.new.out.items c.push_each.new.out.items
    c.len.ensures.count c.in_ok-push_u32.ensures.written wrote) c.push_each.ensures.written

pub returns-clause-few : goal.returns-clause-few
returns-clause-few c =
    let few : length (store_codes c.args.store.now) ≤ max_programs =
    omega (arith, codes_len c.args.store.now, c.len.ensures.count, c.len.ensures.few) in
    on_ok_weaker c.push_each.result (λ _. few) c.push_each.ensures.stored
