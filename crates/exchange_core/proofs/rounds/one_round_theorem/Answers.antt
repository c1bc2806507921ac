use Rattle.exchange_core.proofs.OneRound.{one_round}
use Rattle.exchange_core.proofs.rounds.one_round_theorem.Goals as goal

pub returns : goal.returns
returns c round seed a uptime_a b uptime_b gone of_one of_other =
    one_round c.args.one.now c.args.other.now round c.rulings.ensures.kept c.rulings-2.ensures.kept seed a uptime_a b
    uptime_b of_one of_other gone
