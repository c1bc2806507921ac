use Rattle.std.proofs.Common.{append-nil, sym}
use Rattle.std.specs.Prelude.{IsTrue}
use Rattle.clash_record.specs.Name.{is_name}
use Rattle.exchange_codec.specs.Names.{name_bytes}
use Rattle.exchange_codec.proofs.WrittenLaws.{one_more, each_more, all_done, each_done}
use Rattle.exchange_codec.proofs.withdrawals.push_names.Goals as goal

pub loop-name-init : goal.loop-name-init
loop-name-init c = (sym (append-nil c.args.out.now.items), tt)

pub loop-name-preserved : goal.loop-name-preserved
loop-name-preserved c = (
  one_more name_bytes c.args.names.now c.loop-name.name-index c.name-item.result _ _ _
      c.loop-name-test.true c.name-item.is c.loop-name.invariant.0 c.in_ok-push_name.ensures.written,
  each_more (λ name. IsTrue (is_name name)) c.args.names.now c.loop-name.name-index c.name-item.result
      c.loop-name-test.true c.name-item.is c.loop-name.invariant.1 c.in_ok-push_name.ensures.named,
)

pub returns-clause-named : goal.returns-clause-named
returns-clause-named c = each_done (λ name. IsTrue (is_name name)) c.args.names.now c.loop-name.name-index
    c.loop-name-test.false c.loop-name.invariant.1

pub returns-clause-written : goal.returns-clause-written
returns-clause-written c = all_done name_bytes c.args.names.now c.loop-name.name-index c.args.out.now.items c.loop-name.out.items
    c.loop-name-test.false c.loop-name.invariant.0
