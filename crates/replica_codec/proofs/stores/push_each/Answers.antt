use Rattle.std.proofs.Common.{subst}
use Rattle.std.specs.Arc.{arc_value}
use Rattle.replica_codec.proofs.StoreLaws.{IsPushed, none_pushed, one_pushed, all_pushed}
use Rattle.replica_codec.proofs.stores.push_each.Goals as goal

pub loop-id-init : goal.loop-id-init
loop-id-init c = none_pushed arc_value c.args.store.now c.args.out.now.items c.programs-programs.result c.programs-programs.ensures

pub loop-id-preserved : goal.loop-id-preserved
loop-id-preserved c =
    one_pushed arc_value c.args.store.now c.args.out.now.items c.loop-id.out.items c.push_code.new.out.items
    c.in-Some.id.now c.in-Some.program.now c.next.new.self c.get.result (λ p. arc_value p.now)
    (subst (IsPushed arc_value c.args.store.now c.args.out.now.items c.loop-id.out.items) c.in-Some.ensures.steps c.loop-id.invariant)
    c.get.ensures.code c.get.ensures.program c.in_ok-push_code.ensures.written c.in_ok-push_code.ensures.fits

pub returns : goal.returns
returns c =
    let done = all_pushed arc_value c.args.store.now c.args.out.now.items c.loop-id.out.items
    (subst (IsPushed arc_value c.args.store.now c.args.out.now.items c.loop-id.out.items) c.in_default.ensures.steps.0 c.loop-id.invariant) in
    record { written = done.written; fit = done.fit; stored = done.stored }
