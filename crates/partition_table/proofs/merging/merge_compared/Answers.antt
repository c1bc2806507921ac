use Rattle.std.proofs.Common.{◌≡◌, [], length, map, refl, ap, sym, subst, ◌∙◌}
use Rattle.std.proofs.lemmas.Bool.{and_parts}
use Rattle.std.proofs.lemmas.Bool.Decides.{Decides-eqb}
use Rattle.std.specs.BTreeSet.{contains}
use Rattle.std.specs.FinMap.{keys, len}
use Rattle.clash_record.specs.Orders.{name_cmp}
use Rattle.partition_table.specs.Tables.{Clash, Gone, clash_names, merge, most_names, names_without}
use Rattle.partition_table.specs.model.Merging.{IsReady, put_all, each_kept}
use Rattle.partition_table.proofs.EitherWay.{no_names}
use Rattle.partition_table.proofs.Merged.{ready_others, passes_merge, alone_in_b, fit_few}
use Rattle.partition_table.proofs.Whole.{whole}
use Rattle.partition_table.proofs.merging.merge_compared.Goals.{Then-is_empty-3}
use Rattle.partition_table.proofs.merging.merge_compared.Goals as goal

none_clash : (c : Then-is_empty-3) → clash_names c.args.a.table.now c.args.b.table.now ≡ []
none_clash c =
    let a = c.args.a.table.now in
    let b = c.args.b.table.now in
    let compared = c.requires.compared in
    sym (c.clashes_theorem.ensures.names a b compared.0 compared.1)
    ∙ ap (map (λ (clash : Clash). clash.name)) (sym compared.2.list ∙ sym c.deref.ensures ∙ c.is_empty.ensures.0 c.if-is_empty.true)

none_gone : (c : Then-is_empty-3) → ◌≡◌ {A = Gone} (record { of_a = c.args.a.gone.now; of_b = c.args.b.gone.now }) (record { of_a = []; of_b = [] })
none_gone c =
    let none_a = no_names c.args.a.gone.now ((Decides-eqb (length c.args.a.gone.now) 0).0 (sym c.is_empty-then-is_empty.ensures ∙ c.if-is_empty-2.true)) in
    let none_b = no_names c.args.b.gone.now ((Decides-eqb (length c.args.b.gone.now) 0).0 (sym c.is_empty-then-is_empty-2.ensures ∙ c.if-is_empty-3.true)) in
    λ i. record { of_a = none_a i; of_b = none_b i }

pub returns-then-compared-eq0 : goal.returns-then-compared-eq0
returns-then-compared-eq0 c =
    let a = c.args.a.table.now in
    let b = c.args.b.table.now in
    whole a b c.args.answered.answers.now (none_clash c.before)
    (no_names (names_without a (keys b)) (sym c.requires.compared.2.alone_b ∙ c.if-compared-eq0.true))
    ∙ ap (merge a b c.args.answered.answers.now) (sym (none_gone c.before))

pub returns-then-compared-eq0-2 : goal.returns-then-compared-eq0-2
returns-then-compared-eq0-2 c =
    let a = c.args.a.table.now in
    let b = c.args.b.table.now in
    whole b a c.args.answered.answers.now (sym (c.clashes_theorem.ensures.names_swapped a b) ∙ none_clash c.before.before)
    (no_names (names_without b (keys a)) (sym c.requires.compared.2.alone_a ∙ c.if-compared-eq0-2.true))
    ∙ sym (c.merge_theorem.ensures.swapped a b c.args.answered.answers.now [] [] c.rows.ensures.kept c.rows-2.ensures.kept
    (and_parts _ _ c.requires.fit).1)
    ∙ ap (merge a b c.args.answered.answers.now) (sym (none_gone c.before.before))

pub put_names_of_b_alone-requires-clause-ready : goal.put_names_of_b_alone-requires-clause-ready
put_names_of_b_alone-requires-clause-ready c =
    let a = c.args.a.table.now in
    let b = c.args.b.table.now in
    let gone_a = contains name_cmp c.in_ok-set_of.field-0 in
    let gone_b = contains name_cmp c.in_ok-set_of-2.field-0 in
    let put = c.in_ok-put_names_of_a.ensures.put in
    subst (IsReady a b (names_without a (keys b)) most_names) (sym put)
    (ready_others a b gone_a gone_b c.args.answered.answers.now (len a)
    (subst (IsReady a b [] (len a)) put c.in_ok-put_names_of_a.ensures.few) refl
    (fit_few a b c.requires.fit))

pub returns : goal.returns
returns c =
    let a = c.args.a.table.now in
    let b = c.args.b.table.now in
    let gone_a = contains name_cmp c.in_ok-set_of.field-0 in
    let gone_b = contains name_cmp c.in_ok-set_of-2.field-0 in
    let answers = c.args.answered.answers.now in
    c.in_ok-table.ensures ∙ c.in_ok-put_names_of_b_alone.ensures
    ∙ ap (put_all (each_kept (alone_in_b a b gone_a gone_b answers) (names_without a (keys b))))
    c.in_ok-put_names_of_a.ensures.put
    ∙ passes_merge a b gone_a gone_b answers record { of_a = c.args.a.gone.now; of_b = c.args.b.gone.now }
    c.in_ok-set_of.ensures c.in_ok-set_of-2.ensures
