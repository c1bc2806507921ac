use Rattle.std.proofs.Common.{None, map, refl, ap, sym, subst, ◌∙◌}
use Rattle.std.specs.List.{AllByRecursion}
use Rattle.std.specs.BTreeSet.{contains}
use Rattle.std.specs.FinMap.{get, keys}
use Rattle.clash_record.specs.Orders.{name_cmp}
use Rattle.clash_record.specs.Name.{Name}
use Rattle.partition_table.specs.Tables.{most_names, unless_gone, with_row, names_without}
use Rattle.partition_table.specs.model.Walking.{pairs_left, IsPaired}
use Rattle.partition_table.specs.model.Merging.{IsReady, put_all, each_kept, IsRowOf}
use Rattle.partition_table.proofs.Settling.{ready_next, unless_gone_of, own_row, lacked, without_step}
use Rattle.partition_table.proofs.EitherWay.{no_names}
use Rattle.partition_table.proofs.merging.Parents.put_names_of_b_alone.Goals as goal

pub loop-name-preserved : goal.loop-name-preserved
loop-name-preserved c =
    let p = c.args.self.now in
    let a = p.a.now in
    let b = p.b.now in
    let gone_a = contains name_cmp p.gone_a in
    let gone_b = contains name_cmp p.gone_b in
    let kept = λ (name : Name). unless_gone None (get b name) (gone_a name) (gone_b name) (get b name) in
    let n = c.in-Some.name.now in
    let left = map (λ item. item.0) (pairs_left c.next.new.self) in
    let met = subst (AllByRecursion (IsPaired b a)) c.in-Some.ensures.steps c.loop-name.invariant.met in
    let lack = lacked a n c.in-Some.mine met.0.1 (sym c.is_some.ensures ∙ c.if-is_some.false) in
    let names = ap (λ items. names_without a (map (λ item. item.0) items)) c.in-Some.ensures.steps
    ∙ without_step a n left lack in
    let row = own_row a b n (get b n) refl in
    let put = c.in_ok-put.ensures (get b n) met.0.0 row ∙ ap
    (λ r. with_row n (unless_gone r (get b n) (gone_a n) (gone_b n) (get b n)) c.loop-name.merged) lack in
    record {
      told = ap (put_all (each_kept kept (names_without a left))) put
          ∙ ap (λ names. put_all (each_kept kept names) c.loop-name.merged) (sym names)
          ∙ c.loop-name.invariant.told;
      ready = subst (IsReady a b (names_without a left) most_names) (sym put)
          (ready_next a b n (names_without a left) most_names c.loop-name.merged
          (subst (λ names. IsReady a b names most_names c.loop-name.merged) names c.loop-name.invariant.ready) (kept n)
          (unless_gone_of (IsRowOf a b n) None (get b n) (gone_a n) (gone_b n) (get b n) row));
      met = met.1;
    }

pub returns-then-alone-eq0 : goal.returns-then-alone-eq0
returns-then-alone-eq0 c =
    let p = c.args.self.now in
    let gone_a = contains name_cmp p.gone_a in
    let gone_b = contains name_cmp p.gone_b in
    let kept = λ (name : Name). unless_gone None (get p.b.now name) (gone_a name) (gone_b name) (get p.b.now name) in
    ap (λ names. put_all (each_kept kept names) c.args.merged.now)
    (sym (no_names (names_without p.a.now (keys p.b.now)) (sym c.requires.counted ∙ c.if-alone-eq0.true)))
