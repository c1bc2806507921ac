use Rattle.std.proofs.Common.{◌≡◌, ◌∷◌, ap, ◌∙◌, subst, option_and_then}
use Rattle.std.specs.FinMap.{get}
use Rattle.partition_table.specs.Tables.{Row, Table, IsTable, rows_of}
use Rattle.exchange_law.specs.Calls.{Register}
use Rattle.exchange_core.specs.Journal.{calls_of}
use Rattle.exchange_law.specs.Sides.{Side}
use Rattle.exchange_core.specs.model.Renewing.{number_calls}
use Rattle.exchange_core.proofs.Renewed.{begun_calls, renewing_on, renewing_room, renewed}
use Rattle.exchange_core.proofs.state.State.fresh_journal.Goals.{In-Some}
use Rattle.exchange_core.proofs.state.State.fresh_journal.Goals as goal

pub loop-name-init : goal.loop-name-init
loop-name-init c =
    begun_calls c.args.self.now (calls_of c.number_journal-journal.result.past.value) c.rows-rows.result c.requires
    (c.number_journal-journal.ensures ∙ ap (λ (s : Side). number_calls s.latest) c.self.view_is)
    (c.rows-rows.ensures.rows ∙ ap (λ (s : Side). rows_of s.table) c.self.view_is)

pub push-requires : goal.push-requires
push-requires c =
    let kept = subst (λ (t : Table). IsTable t) (ap (λ (s : Side). s.table) c.self.view_is) c.rows-rows.ensures.kept in
    renewing_room c.args.self.now (calls_of c.loop-name.journal.past.value) c.loop-name.rows c.next.new.self _ kept
    c.loop-name.invariant c.in-Some.ensures.steps

pub loop-name-preserved : goal.loop-name-preserved
loop-name-preserved c =
    let kept = subst (λ (t : Table). IsTable t) (ap (λ (s : Side). s.table) c.self.view_is) c.rows-rows.ensures.kept in
    let name = c.in-Some.name.now in
    let registration = c.in-Some.registration.now in
    let same : c.of-table.result.value ≡ c.args.self.now.table =
    c.of-table.ensures ∙ ap (λ (s : Side). s.table) c.self.view_is in
    renewing_on c.args.self.now c.requires kept (calls_of c.loop-name.journal.past.value)
    (calls_of c.push.new.self.past.value) c.loop-name.rows c.next.new.self name registration c.loop-name.invariant
    c.in-Some.ensures.steps
    (c.push.ensures
    ∙ ap (λ (t : Table). Register name (record {
      registration = registration;
      code = option_and_then (λ (row : Row). row.code) (get t name);
    }) ∷ calls_of c.loop-name.journal.past.value) same)

pub returns-clause-leads : goal.returns-clause-leads
returns-clause-leads c =
    (renewed c.args.self.now (calls_of c.loop-name.journal.past.value) c.loop-name.rows c.loop-name.invariant
    c.in_default.ensures.steps.0).0

pub returns-clause-short : goal.returns-clause-short
returns-clause-short c =
    (renewed c.args.self.now (calls_of c.loop-name.journal.past.value) c.loop-name.rows c.loop-name.invariant
    c.in_default.ensures.steps.0).1
