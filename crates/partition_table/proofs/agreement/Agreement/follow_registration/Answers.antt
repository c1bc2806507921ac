use Rattle.std.proofs.Common.{sym, subst, ◌∙◌}
use Rattle.partition_table.specs.Tables.{IsTable}
use Rattle.partition_table.proofs.Agreed.{agreed_here, agreed_after, here_after, noted}
use Rattle.partition_table.proofs.agreement.Agreement.follow_registration.Goals as goal

pub invariant_of-self : goal.invariant_of-self
invariant_of-self c =
    let table = c.self.inside.table.value in
    let store = c.self.inside.store.value in
    let name = c.args.name.now in
    let r = c.args.registration.now in
    let after = c.of.result.value in
    let inserted = c.of.ensures ∙ c.requires in
    noted after store c.insert.result c.self.inside.known c.insert.new.self c.in-Program.id
    (agreed_after table store c.args.self.now c.self.view_is name r after inserted c.self.inside.known c.self.invariant)
    (agreed_here after store name r c.in-Program.id c.in-Program.is (subst IsTable (sym c.of.ensures) c.len.ensures.kept)
    (here_after table store c.args.self.now c.self.view_is name r after inserted))
    c.insert.ensures.updates c.insert.ensures.err

pub invariant_of-self-in_default : goal.invariant_of-self-in_default
invariant_of-self-in_default c =
    agreed_after c.self.inside.table.value c.self.inside.store.value c.args.self.now c.self.view_is c.args.name.now
    c.args.registration.now c.of.result.value (c.of.ensures ∙ c.requires) c.self.inside.known c.self.invariant
