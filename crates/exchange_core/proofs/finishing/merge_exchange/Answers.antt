use Rattle.std.proofs.Common.{◌≡◌, true, Option, ap, sym, subst, ◌∙◌}
use Rattle.std.specs.Option.{option_map}
use Rattle.partition_table.specs.Tables.{Table}
use Rattle.exchange_law.specs.Sides.{Exchange, Heard, fit_for, merge_for}
use Rattle.exchange_law.specs.laws.Carried.{some_inj}
use Rattle.exchange_core.specs.Finished.{all_held}
use Rattle.exchange_core.specs.model.Pairing.{IsComparedFor, merged_for}
use Rattle.exchange_core.specs.Codings.{names_of}
use Rattle.exchange_core.proofs.Ending.{answers, fits, merged_so}
use Rattle.exchange_core.proofs.finishing.merge_exchange.Goals as goal

pub merge_own-requires-clause-fit : goal.merge_own-requires-clause-fit
merge_own-requires-clause-fit c =
    let heard = ap (λ (x : Exchange). x.heard) (sym c.exchange.view_is) ∙ c.in-Some-Some.is-0 in
    subst (λ (t : Table). fit_for c.args.id c.args.own.now t ≡ true) (sym c.table.ensures)
    (fits c.requires.ready c.in-Some-Some.heard heard)

pub merge_own-requires-clause-compared : goal.merge_own-requires-clause-compared
merge_own-requires-clause-compared c =
    let heard = ap (λ (x : Exchange). x.heard) (sym c.exchange.view_is) ∙ c.in-Some-Some.is-0 in (
      c.args.exchange.now.uptime,
      c.in-Some-Some.heard.uptime,
      subst (λ (t : Table). IsComparedFor c.args.id c.args.own.now c.args.exchange.now.uptime t c.in-Some-Some.heard.uptime
          c.args.compared.now) (sym c.table.ensures) (c.requires.compared c.in-Some-Some.heard heard),
    )

pub returns : goal.returns
returns c = λ table is.
    let id = c.args.id in
    let heard = ap (λ (x : Exchange). x.heard) (sym c.exchange.view_is) ∙ c.in-Some-Some.is-0 in
    let theirs =
    ap (λ (x : Exchange). x.their_list) (sym c.exchange.view_is) ∙ ap (option_map names_of) c.in-Some-Some.is-1 in
    let held = c.in_ok-rulings.ensures ∙ ap all_held c.rulings.ensures in
    let said = c.deref-2.ensures.value ∙ (c.in_ok-answers.ensures ∙ ap answers (c.deref.ensures.value ∙ held)) in
    let gone = c.names.ensures ∙ c.withdrawn.ensures in
    let sent = c.deref-4.ensures.value ∙ (λ i. (c.deref-3.ensures i).items) in
    let found : table ≡ merged_for id c.args.own.now c.in-Some-Some.heard.table c.in_ok-table.table =
    some_inj (sym is
    ∙ ap (λ (o : Option Heard). option_map (λ (h : Heard). merged_for id c.args.own.now h.table c.in_ok-table.table) o) heard) in
    merged_so c.requires.ready c.in-Some-Some.heard (names_of c.in-Some-Some.theirs) heard theirs
    c.in_ok-rulings.rulings.items table held
    (found ∙ ap (λ (t : Table). merged_for id c.args.own.now t c.in_ok-table.table) (sym c.table.ensures)
    ∙ c.in_ok-table.ensures
    ∙ (λ i. merge_for id c.args.own.now (c.table.ensures i) (said i) (gone i) (sent i)))
