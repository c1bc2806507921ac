use Rattle.heal_c.proofs.Explaining.{offer_found}
use Rattle.heal_c.proofs.fault_exports.offer_fault.Goals as goal

pub returns : goal.returns
returns c =
    let d = c.decode_offer in
    rw c.fault_in.ensures (offer_found c.args.bytes.now d.result d.ensures.spelled d.ensures.taken d.ensures.refused d.ensures.told)
