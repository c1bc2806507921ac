use Rattle.std.proofs.Common.{rules}
use Rattle.registry_lock.specs.Meeting.{IsStrangeAt}
use Rattle.registry_lock.proofs.Agreeing.{not_strange}
use Rattle.registry_lock.proofs.meeting.agree.Goals as goal

pub returns-in-Err-clause-seen : goal.returns-in-Err-clause-seen
returns-in-Err-clause-seen c mine yours tells =
    let q = c.compare.new.pass in
    let f = c.args.first.now in
    let g = c.args.second.now in
    let strange : IsStrangeAt c.in-Err.k q f.rulings g.rulings = search rules in
    not_strange c.args.pass.now q c.in-Err.k f.rulings g.rulings c.compare.ensures.keeps mine yours strange
