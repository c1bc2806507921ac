use Rattle.std.proofs.Common.{◌≡◌, map, ap, sym, ◌∙◌, arith}
use Rattle.std.specs.Arc.{arc_value}
use Rattle.std.specs.List.{filter_map}
use Rattle.std.specs.FinMap.{keys}
use Rattle.clash_record.specs.declared.records.Facts.{Facts}
use Rattle.partition_table.specs.Tables.{clashes, has_first}
use Rattle.partition_table.specs.model.Judging.{clash_by_name}
use Rattle.partition_table.specs.model.Walking.{pairs_left}
use Rattle.partition_table.proofs.OneClash.{all_found, alone_few, none_alone}
use Rattle.partition_table.proofs.clashing.walk.Goals.{After-drop-halves-2}
use Rattle.partition_table.proofs.clashing.walk.Goals as goal

pub overflow_add-alone : goal.overflow_add-alone
overflow_add-alone c =
    omega (arith, c.loop-name.invariant.counted, alone_few c.args.b.now c.args.a.now c.len.ensures.kept)

-- where nothing is left, all is found
listed : (c : After-drop-halves-2) → c.loop-name.found.clashes.items ≡ clashes c.args.a.now c.args.uptime_a c.args.b.now c.args.uptime_b
unfolding clashes
listed c =
    let a = c.args.a.now in
    let b = c.args.b.now in
    let found = λ (of_a of_b : Facts). filter_map (clash_by_name of_a a of_b b) (keys a) in
    let facts = c.in_ok-facts.ensures in
    all_found (clash_by_name (arc_value c.in_ok-facts.facts).a a (arc_value c.in_ok-facts.facts).b b) c.loop-name.found.clashes.items
    (pairs_left c.loop-name.name-iterator) (keys a) c.loop-name.invariant.told c.in-None.ensures.steps.0
    ∙ (λ i. found (facts i).a (facts i).b)
    ∙ (λ i. found (c.facts_of-of_a.ensures i) (c.facts_of-of_b.ensures i))

pub returns-clause-clashes : goal.returns-clause-clashes
returns-clause-clashes c = c.shrink_to_fit.ensures.clashes ∙ listed c

pub returns-clause-first : goal.returns-clause-first
returns-clause-first c =
    c.shrink_to_fit.ensures.first ∙ c.loop-name.invariant.first
    ∙ ap (map (has_first c.args.a.now)) (sym c.shrink_to_fit.ensures.clashes)

pub returns-clause-alone : goal.returns-clause-alone
returns-clause-alone c =
    none_alone c.args.b.now c.loop-name.alone (pairs_left c.loop-name.name-iterator) (keys c.args.a.now)
    c.loop-name.invariant.counted c.in-None.ensures.steps.0
