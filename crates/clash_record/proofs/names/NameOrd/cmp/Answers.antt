use Rattle.clash_record.proofs.NameOrder.{names_order}
use Rattle.clash_record.proofs.names.NameOrd.cmp.Goals as goal

-- src/names.rt:132:5
pub returns : goal.returns
returns c = names_order c.args.self.now c.args.other.now c.padded.result.now c.padded-2.result.now
    c.quarters.result c.quarters-2.result c.cmp.result c.padded.ensures.named c.padded-2.ensures.named
    c.padded.ensures.value c.padded-2.ensures.value c.quarters.ensures c.quarters-2.ensures c.cmp.ensures
