use Rattle.std.proofs.Common.{sym, subst, inl, ◌∙◌}
use Rattle.std.specs.Map.Iter.{deref_pair}
use Rattle.std.proofs.lemmas.Map.Iter.{btree_map_turn}
use Rattle.clash_record.specs.laws.Orders.{ids_total}
use Rattle.upload_store.specs.Programs.{programs_by}
use Rattle.partition_table.specs.model.Keeping.{kept_code}
use Rattle.partition_table.proofs.Others.{OthersSoFar, one_more_settled, still_other, just_added, all_settled}
use Rattle.partition_table.proofs.programs.copy_others.Goals as goal

pub loop-id-preserved-in-Continue-1 : goal.loop-id-preserved-in-Continue-1
loop-id-preserved-in-Continue-1 c =
    let programs = c.args.programs.now.entries in
    let known = c.args.known.now.entries in
    let others = programs_by kept_code c.loop-id.others.entries in
    let given = c.into_iter-id-iterator.ensures.into_iter_gives in
    let turn = btree_map_turn deref_pair c.loop-id.yielded c.into_iter-id-iterator.result c.loop-id.id-iterator
    c.next.new.self c.next.result
    (c.in-Some.id, c.in-Some.kept) c.loop-id.yielded_by c.in-Some.is c.next.ensures.steps ids_total
    c.args.programs.now given.0 given.5 in
    subst (OthersSoFar programs known c.next.new.self) (sym c.in_ok-keep_copy.ensures)
    (one_more_settled programs known c.loop-id.id-iterator c.next.new.self c.in-Some.id.now c.in-Some.kept.now others _
    c.loop-id.invariant c.in-Some.ensures.steps
    (just_added known c.in-Some.id.now c.in-Some.kept.now others)
    (still_other programs known c.in-Some.id.now c.in-Some.kept.now others turn.1))

pub loop-id-preserved : goal.loop-id-preserved
loop-id-preserved c =
    one_more_settled c.args.programs.now.entries c.args.known.now.entries c.loop-id.id-iterator c.next.new.self
    c.in-Some.id.now c.in-Some.kept.now (programs_by kept_code c.loop-id.others.entries) _
    c.loop-id.invariant c.in-Some.ensures.steps
    (inl (sym c.contains_key.ensures ∙ c.if-not-contains_key.false))
    (λ id kept found settled. settled)

pub returns : goal.returns
returns c =
    all_settled c.args.programs.now.entries c.args.known.now.entries c.loop-id.others.entries
    (subst (λ left. OthersSoFar c.args.programs.now.entries c.args.known.now.entries left
    (programs_by kept_code c.loop-id.others.entries)) c.in-None.ensures.steps.0 c.loop-id.invariant)
