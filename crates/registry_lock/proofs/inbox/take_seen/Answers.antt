use Rattle.std.proofs.Common.{rules, ◌≡◌, Some, sym, ap, ◌∙◌}
use Rattle.verdict_board.specs.Boards.{Place, as_ruling, seen}
use Rattle.registry_lock.proofs.OwnClashes.{is_own_clash}
use Rattle.registry_lock.proofs.Told.{has_seen}
use Rattle.registry_lock.proofs.inbox.take_seen.Goals as goal

pub take_or_drop-requires : goal.take_or_drop-requires
take_or_drop-requires c = λ is_own.
    let pass = c.read.new.pass in
    let ruling = as_ruling c.in-Some.ruling in
    let found : Some ruling ≡ seen pass c.args.k = search rules in
    let place = c.read.ensures.looks.same_board ∙ c.requires.board in
    is_own_clash pass c.args.side.now ruling
    (c.requires.own is_own ∙ sym (ap (λ (p : Place). Some p.clashes) place)) (has_seen pass c.args.k ruling found)

pub returns-in-Some-clause-taken : goal.returns-in-Some-clause-taken
returns-in-Some-clause-taken c =
    let pass = c.read.new.pass in
    let ruling = as_ruling c.in-Some.ruling in
    let found : Some ruling ≡ seen pass c.args.k = search rules in
    c.take_or_drop.ensures pass (has_seen pass c.args.k ruling found)
