use Rattle.std.proofs.Common.{arith}
use Rattle.replica_codec.specs.SnapshotsText.{codes_view}
use Rattle.replica_codec.proofs.StoreLaws.{none_there, no_store, more_store, store_room, view_there, views_len, whole_store, store_fails}
use Rattle.replica_codec.proofs.stores.store_of.Goals as goal

pub loop-at-init : goal.loop-at-init
loop-at-init c = no_store c.new-store.result (codes_view c.args.codes.now) (none_there c.new-store.result c.new-store.ensures)

pub add_code-requires : goal.add_code-requires
add_code-requires c =
    store_room c.loop-at.store (codes_view c.args.codes.now) c.loop-at.at
    (omega (arith, c.loop-at-test.true, views_len c.args.codes.now)) (omega (arith, c.requires, views_len c.args.codes.now)) c.loop-at.invariant

pub loop-at-preserved : goal.loop-at-preserved
loop-at-preserved c =
    more_store c.loop-at.store c.add_code.new.store (codes_view c.args.codes.now) c.loop-at.at _ c.in-Ok.ensures.added
    (view_there c.args.codes.now c.loop-at.at _ c.loop-at-test.true) c.loop-at.invariant

pub returns-clause-built : goal.returns-clause-built
returns-clause-built c =
    whole_store c.loop-at.store (codes_view c.args.codes.now) c.loop-at.at
    (omega (arith, c.loop-at-test.false, views_len c.args.codes.now)) c.loop-at.invariant

pub returns-in-Err-clause-refused : goal.returns-in-Err-clause-refused
returns-in-Err-clause-refused c =
    store_fails c.loop-at.store (codes_view c.args.codes.now) c.loop-at.at _ c.in-Err.fault c.in-Err.ensures.refused
    (view_there c.args.codes.now c.loop-at.at _ c.loop-at-test.true) c.loop-at.invariant
