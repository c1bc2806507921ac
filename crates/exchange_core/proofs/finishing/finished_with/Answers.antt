use Rattle.std.proofs.Common.{◌≡◌, ℕ, List, map, ap, sym, subst, ◌∙◌}
use Rattle.std.specs.Arc.{arc_value}
use Rattle.std.specs.Option.{option_map}
use Rattle.clash_record.specs.Name.{Name}
use Rattle.partition_table.specs.Tables.{Table, has_first}
use Rattle.exchange_law.specs.Sides.{Exchange}
use Rattle.exchange_core.specs.Finished.{Finished, IsFinished, clashes_merged, finished_by}
use Rattle.exchange_core.specs.Codings.{names_of}
use Rattle.exchange_core.specs.contracts.exchange.Exchange.{the_view}
use Rattle.exchange_core.specs.model.Finishing.{IsMarkedIn, IsMergeable, IsMergeOf}
use Rattle.exchange_core.proofs.Ending.{finished_so, marked_so}
use Rattle.exchange_core.proofs.finishing.finished_with.Goals as goal

pub invariant_of-result : goal.invariant_of-result
invariant_of-result c =
    let rulings = c.args.outcome.rulings.items in
    let ready = subst (λ (x : Exchange). IsMergeable c.args.id c.args.own x) (sym c.exchange.view_is)
    c.requires.ready in
    let merged =
    subst (λ (x : Exchange). IsMergeOf c.args.id c.args.own x rulings (arc_value c.args.outcome.table)) (sym c.exchange.view_is)
    c.requires.merged in
    let marked =
    subst (λ (x : Exchange). IsMarkedIn c.args.id c.args.own x c.args.first_of_a.items) (sym c.exchange.view_is)
    c.requires.marked in
    let made : Table × (ℕ × List Name) → Finished = λ p. finished_by c.args.id c.exchange.inside.number c.exchange.inside.seed
    (record { table = c.args.own; uptime = c.exchange.inside.uptime; gone = p.1.1 })
    (record { table = p.0; uptime = p.1.0; gone = names_of c.in-Some-Some.other_gone }) rulings (arc_value c.args.outcome.table) in
    let parts : ◌≡◌ {A = Table × (ℕ × List Name)} _ _ = λ i. (
      sym c.into_table-other.ensures.table i,
      (sym c.into_table-other.ensures.uptime i, sym c.into_names.ensures i),
    ) in
    record {
      finished = subst (λ (p : Table × (ℕ × List Name)). IsFinished (made p)) parts
          (finished_so ready rulings (arc_value c.args.outcome.table) merged c.in-Some-Some.heard (names_of c.in-Some-Some.other_gone)
          c.in-Some-Some.is-0 (ap (option_map names_of) c.in-Some-Some.is-1));
      marked = subst (λ (p : Table × (ℕ × List Name)). c.args.first_of_a.items ≡ map (has_first (made p).a) (clashes_merged (made p)))
          parts
          (marked c.in-Some-Some.heard c.in-Some-Some.is-0
          ∙ marked_so c.args.id c.args.own (the_view c.exchange.inside) c.in-Some-Some.heard (names_of c.in-Some-Some.other_gone) rulings (arc_value c.args.outcome.table));
    }
