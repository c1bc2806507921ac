use Rattle.std.proofs.Common.{refl, subst}
use Rattle.std.specs.Map.Iter.{deref_pair}
use Rattle.std.proofs.lemmas.Map.Iter.{btree_map_turn}
use Rattle.clash_record.specs.laws.Orders.{ids_total}
use Rattle.partition_table.specs.model.Keeping.{kept_code}
use Rattle.upload_store.specs.Programs.{programs_by}
use Rattle.partition_table.proofs.Agreeing.{AgreeSoFar, one_more_agrees, all_agree, one_differs}
use Rattle.partition_table.proofs.programs.programs_agree.Goals as goal

pub returns-then-not-has_room_at : goal.returns-then-not-has_room_at
returns-then-not-has_room_at c =
    let other = programs_by kept_code c.args.other.now.entries in
    let given = c.into_iter-id-iterator.ensures.into_iter_gives in
    let turn = btree_map_turn deref_pair c.loop-id.yielded c.into_iter-id-iterator.result c.loop-id.id-iterator
    c.next.new.self c.next.result
    (c.in-Some.id, c.in-Some.kept) c.loop-id.yielded_by c.in-Some.is c.next.ensures.steps ids_total
    c.args.programs.now given.0 given.5 in (
      λ t. absurd (cc),
      λ agree. absurd (one_differs kept_code c.args.programs.now.entries other c.in-Some.id.now c.in-Some.kept.now
          turn.1
          (λ room. let yes = c.has_room_at.ensures.1 room in let no = c.if-not-has_room_at.true in absurd (cc)) agree),
    )

pub loop-id-preserved : goal.loop-id-preserved
loop-id-preserved c =
    one_more_agrees kept_code c.args.programs.now.entries (programs_by kept_code c.args.other.now.entries)
    c.loop-id.id-iterator c.next.new.self
    c.in-Some.id.now c.in-Some.kept.now c.loop-id.invariant c.in-Some.ensures.steps
    (c.has_room_at.ensures.0 c.if-not-has_room_at.false)

pub returns : goal.returns
returns c =
    let other = programs_by kept_code c.args.other.now.entries in (
      λ _. all_agree kept_code c.args.programs.now.entries other
          (subst (AgreeSoFar kept_code c.args.programs.now.entries other) c.in-None.ensures.steps.0
          c.loop-id.invariant),
      λ _. refl,
    )
