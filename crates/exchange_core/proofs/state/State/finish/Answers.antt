use Rattle.std.proofs.Common.{◌≡◌, Some, is_some, ap, sym, subst, ◌∙◌}
use Rattle.std.specs.Arc.{arc_value}
use Rattle.partition_table.specs.Tables.{Table}
use Rattle.exchange_law.specs.Sides.{Exchange, Side, finish}
use Rattle.exchange_core.specs.Finished.{finished_at, finished_from}
use Rattle.exchange_core.specs.Views.{state_seen}
use Rattle.exchange_core.specs.model.Finishing.{IsMergeable, IsMergeOf, merged_in}
use Rattle.exchange_core.specs.model.Keeping.{Marks, marks_for}
use Rattle.exchange_law.specs.laws.Carried.{some_inj}
use Rattle.exchange_core.proofs.Comparing.{compared_is, compared_there, marks_are}
use Rattle.exchange_core.proofs.Ending.{finishes, gives}
use Rattle.exchange_core.proofs.state.State.finish.Goals.{After-replace-own}
use Rattle.exchange_core.proofs.state.State.finish.Goals as goal

opened : (c : After-replace-own) → c.self.inside.exchange ≡ Some c.in-Some-take.exchange
opened c = sym c.take.ensures.value ∙ c.in-Some-take.is

ready : (c : After-replace-own) → IsMergeable c.self.inside.id c.self.inside.table c.in-Some-take.exchange
ready c =
    subst (λ (s : Side). (x : Exchange) → s.exchange ≡ Some x → IsMergeable s.id s.table x) (sym c.self.view_is)
    c.requires.ready c.in-Some-take.exchange (opened c)

-- the merge is shared
made : (c : After-replace-own) →
    IsMergeOf c.self.inside.id c.self.inside.table c.in-Some-take.exchange c.in_ok-rulings.field-0.rulings.items
    (arc_value c.in_ok-table.table)
made c =
    let same : c.in-Some.exchange ≡ c.in-Some-take.exchange = some_inj (sym c.in-Some.is ∙ opened c) in
    let table = arc_value c.in_ok-table.table in
    subst (λ (x : Exchange). merged_in c.self.inside.id c.self.inside.table x c.in_ok-rulings.field-0.table ≡ Some table
    → IsMergeOf c.self.inside.id c.self.inside.table x c.in_ok-rulings.field-0.rulings.items table)
    same (c.in_ok-rulings.ensures table)
    (ap (λ (x : Exchange). merged_in c.self.inside.id c.self.inside.table x c.in_ok-rulings.field-0.table) (sym same)
    ∙ c.in_ok-held.ensures.held ∙ ap Some (sym c.in_ok-table.ensures.shared))

-- the own table stays
owned : (c : After-replace-own) → c.replace-own.result ≡ c.self.inside.table
owned c = c.replace-own.ensures.value ∙ c.hold.ensures.same

-- once the side can finish, it compared the two tables
pub unreachable-requires-in_default-compared : goal.unreachable-requires-in_default-compared
unreachable-requires-in_default-compared c =
    let m = subst (λ (s : Side). (x : Exchange) → s.exchange ≡ Some x → IsMergeable s.id s.table x) (sym c.self.view_is)
    c.requires.ready c.in-Some.exchange c.in-Some.is in
    compared_there c.self.inside c.self.invariant c.in-Some.exchange c.in-Some.is m.heard m.was_heard c.in_default-compared.is

pub merge_exchange-requires-clause-compared : goal.merge_exchange-requires-clause-compared
merge_exchange-requires-clause-compared c = λ heard is.
    compared_is c.self.inside c.self.invariant c.in-Some.exchange c.in-Some.is heard is c.in-Some-compared.compared
    c.in-Some-compared.is

pub hold-requires : goal.hold-requires
hold-requires c =
    let m = subst (λ (s : Side). (x : Exchange) → s.exchange ≡ Some x → IsMergeable s.id s.table x) (sym c.self.view_is)
    c.requires.ready c.in-Some.exchange c.in-Some.is in
    ap is_some m.was_heard

pub finished_with-requires-clause-marked : goal.finished_with-requires-clause-marked
finished_with-requires-clause-marked c = λ heard is.
    let b = c.before in
    let x = c.in-Some-take.exchange in
    let marks = marks_are c.self.inside c.self.invariant x (opened b) heard is c.in-Some-take-2.compared
    (sym c.take-2.ensures.value ∙ c.in-Some-take-2.is) in
    ap (λ (m : Marks). m.0) marks
    ∙ ap (λ (t : Table). (marks_for c.self.inside.id t x.uptime heard.table heard.uptime).0) (sym (owned b))

pub merge_exchange-requires-clause-ready : goal.merge_exchange-requires-clause-ready
merge_exchange-requires-clause-ready c =
    subst (λ (s : Side). (x : Exchange) → s.exchange ≡ Some x → IsMergeable s.id s.table x) (sym c.self.view_is)
    c.requires.ready c.in-Some.exchange c.in-Some.is

pub finished_with-requires-clause-ready : goal.finished_with-requires-clause-ready
finished_with-requires-clause-ready c =
    subst (λ (t : Table). IsMergeable c.self.inside.id t c.in-Some-take.exchange) (sym (owned c.before))
    (ready c.before)

pub finished_with-requires-clause-merged : goal.finished_with-requires-clause-merged
finished_with-requires-clause-merged c =
    subst (λ (t : Table). IsMergeOf c.self.inside.id t c.in-Some-take.exchange c.in_ok-rulings.field-0.rulings.items
    (arc_value c.in_ok-table.table)) (sym (owned c.before)) (made c.before)

pub returns-clause-done : goal.returns-clause-done
returns-clause-done c =
    let b = c.before.before.before in
    let m = ready b in
    let merged = made b m.heard m.theirs m.was_heard m.list_heard in
    let table = c.replace-own.ensures.after ∙ (c.in_ok-table.ensures.same ∙ (sym c.in_ok-table.ensures.shared ∙ merged.1)) in
    ap finish (sym c.self.view_is)
    ∙ (finishes (state_seen c.self.inside) c.in-Some-take.exchange m (opened b)
    ∙ (λ i. Some (record {
      id = c.self.inside.id;
      table = sym table i;
      exchange = sym c.take.ensures.after i;
      latest = c.self.inside.latest;
    })))

pub returns-clause-given : goal.returns-clause-given
returns-clause-given c =
    let b = c.before.before.before in
    let m = ready b in
    let merged = made b m.heard m.theirs m.was_heard m.list_heard in
    let id = c.self.inside.id in
    let x = c.in-Some-take.exchange in
    ap finished_from (sym c.self.view_is)
    ∙ (gives (state_seen c.self.inside) x m (opened b)
    ∙ sym (ap Some (c.finished_with.ensures m.heard m.theirs m.was_heard m.list_heard
    ∙ (λ i. finished_at id (owned b i) x m.heard m.theirs (merged.0 i) (merged.1 i)))))
