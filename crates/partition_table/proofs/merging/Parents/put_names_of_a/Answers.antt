use Rattle.std.proofs.Common.{◌≡◌, ◌∷◌, Some, map, ap, sym, subst, ◌∙◌}
use Rattle.std.specs.List.{AllByRecursion, filter_map}
use Rattle.std.specs.Option.{option_map}
use Rattle.std.specs.BTreeSet.{contains}
use Rattle.std.specs.FinMap.{get, keys, len}
use Rattle.std.specs.List.Sorted.{IsStrictlySortedBy}
use Rattle.std.specs.Slice.Iter.{iter_rest}
use Rattle.clash_record.specs.Orders.{name_cmp}
use Rattle.partition_table.specs.Tables.{clashes, facts_of, merged_at, unless_gone}
use Rattle.partition_table.specs.model.Judging.{clash_by_name}
use Rattle.partition_table.specs.model.Listing.{clashes_behind, answers_ahead, kept_of}
use Rattle.partition_table.specs.model.Merging.{IsReady, IsRowOf, settled, put_all, first_answer, answers_left}
use Rattle.partition_table.proofs.Listed.{listed_kept, listed_behind, listed_answers}
use Rattle.partition_table.proofs.Settling.{merged_of, kept_held, ready_next, ready_empty, unless_gone_of}
use Rattle.partition_table.proofs.Walks.{rows_named, rows_held}
use Rattle.partition_table.proofs.merging.Parents.put_names_of_a.Goals.{After-settle-kept}
use Rattle.partition_table.proofs.merging.Parents.put_names_of_a.Goals as goal

pub loop-name-init : goal.loop-name-init
unfolding clashes
loop-name-init c =
    let p = c.args.self.now in
    let a = p.a.now in
    let b = p.b.now in
    let gone_a = contains name_cmp p.gone_a in
    let gone_b = contains name_cmp p.gone_b in
    let rows = c.into_iter-name-iterator.ensures.into_iter_gives ∙ c.stored_rows-name-items.ensures.rows in
    let names = ap (map (λ row. row.0)) rows ∙ rows_named a in
    record {
      told = ap (λ names. put_all (settled a b gone_a gone_b names (iter_rest c.new-upcoming.result.answers)) c.args.merged.now)
          names
          ∙ ap (λ xs. put_all (settled a b gone_a gone_b (keys a) xs) c.args.merged.now) c.new-upcoming.ensures.answers
          ∙ ap (put_all (settled a b gone_a gone_b (keys a) c.args.answers.now)) c.requires.new;
      ready = subst (λ names. IsReady a b names (len a) c.args.merged.now) (sym names)
          (subst (IsReady a b (keys a) (len a)) (sym c.requires.new) (ready_empty a b));
      ahead = (
        c.requires.listed.0,
        c.requires.listed.1,
        c.new-upcoming.ensures.clashes ∙ c.clashes.ensures ∙ c.requires.listed.2
            ∙ ap (filter_map (clash_by_name (facts_of a c.requires.listed.0) a (facts_of b c.requires.listed.1) b)) (sym names),
      );
      own = subst (AllByRecursion (λ row. option_map (λ r. r.registration) (get a row.0) ≡ Some row.1)) (sym rows) (rows_held a);
    }

-- what is settled under the next name is what the merge has there
kept_next : (c : After-settle-kept) → (let a = c.args.self.now.a.now in let b = c.args.self.now.b.now in let n = c.in-Some.name.now in
    option_map (λ kept. kept.now) c.settle-kept.result
    ≡ option_map (λ row. row.registration) (merged_at (get a n) (get b n) (first_answer (iter_rest c.loop-name.upcoming.answers))))
kept_next c =
    let a = c.args.self.now.a.now in
    let b = c.args.self.now.b.now in
    let of_a = facts_of a c.loop-name.invariant.ahead.0 in
    let of_b = facts_of b c.loop-name.invariant.ahead.1 in
    let n = c.in-Some.name.now in
    let mine = c.in-Some.mine.now in
    let left = map (λ row. row.0) c.next.new.self in
    let x = first_answer (iter_rest c.loop-name.upcoming.answers) in
    let names : map (λ row. row.0) c.loop-name.name-iterator ≡ n ∷ left = ap (map (λ row. row.0)) c.in-Some.ensures.steps in
    let own = subst (AllByRecursion (λ row. option_map (λ r. r.registration) (get a row.0) ≡ Some row.1)) c.in-Some.ensures.steps
    c.loop-name.invariant.own in
    c.settle-kept.ensures.kept
    ∙ ap (λ cs. kept_of n mine cs x) (c.loop-name.invariant.ahead.2 ∙ ap (filter_map (clash_by_name of_a a of_b b)) names)
    ∙ listed_kept of_a of_b a b n left (subst (IsStrictlySortedBy name_cmp) names c.loop-name.invariant.ready.apart) mine x own.0

pub put-requires-clause-held : goal.put-requires-clause-held
put-requires-clause-held c =
    let a = c.args.self.now.a.now in
    let b = c.args.self.now.b.now in
    let n = c.in-Some.name.now in
    let x = first_answer (iter_rest c.loop-name.upcoming.answers) in
    kept_held a b n (merged_at (get a n) (get b n) x) (merged_of a b n x) c.settle-kept.result (kept_next c.before)

pub loop-name-preserved : goal.loop-name-preserved
loop-name-preserved c =
    let p = c.args.self.now in
    let a = p.a.now in
    let b = p.b.now in
    let gone_a = contains name_cmp p.gone_a in
    let gone_b = contains name_cmp p.gone_b in
    let of_a = facts_of a c.loop-name.invariant.ahead.0 in
    let of_b = facts_of b c.loop-name.invariant.ahead.1 in
    let n = c.in-Some.name.now in
    let mine = c.in-Some.mine.now in
    let left = map (λ row. row.0) c.next.new.self in
    let xs = iter_rest c.loop-name.upcoming.answers in
    let x = first_answer xs in
    let row = merged_at (get a n) (get b n) x in
    let names : map (λ row. row.0) c.loop-name.name-iterator ≡ n ∷ left = ap (map (λ row. row.0)) c.in-Some.ensures.steps in
    let own = subst (AllByRecursion (λ row. option_map (λ r. r.registration) (get a row.0) ≡ Some row.1)) c.in-Some.ensures.steps
    c.loop-name.invariant.own in
    let ahead = c.loop-name.invariant.ahead.2 ∙ ap (filter_map (clash_by_name of_a a of_b b)) names in
    let sorted = subst (IsStrictlySortedBy name_cmp) names c.loop-name.invariant.ready.apart in
    let put = c.in_ok-put.ensures row (sym (kept_next c.before.before.before.before)) (merged_of a b n x) in
    let behind = c.settle-kept.ensures.answers ∙ ap (λ cs. answers_ahead n cs xs) ahead
    ∙ listed_answers of_a of_b a b n left sorted mine xs in
    record {
      told = ap (λ ys. put_all (settled a b gone_a gone_b left ys) c.put.new.merged) behind
          ∙ ap (put_all (settled a b gone_a gone_b left (answers_left (get a n) (get b n) xs))) put
          ∙ ap (λ names. put_all (settled a b gone_a gone_b names xs) c.loop-name.merged) (sym names)
          ∙ c.loop-name.invariant.told;
      ready = subst (IsReady a b left (len a)) (sym put)
          (ready_next a b n left (len a) c.loop-name.merged (subst
          (λ names. IsReady a b names (len a) c.loop-name.merged) names c.loop-name.invariant.ready)
          (unless_gone (get a n) (get b n) (gone_a n) (gone_b n) row)
          (unless_gone_of (IsRowOf a b n) (get a n) (get b n) (gone_a n) (gone_b n) row (merged_of a b n x)));
      ahead = (
        c.loop-name.invariant.ahead.0,
        c.loop-name.invariant.ahead.1,
        c.settle-kept.ensures.clashes ∙ ap (clashes_behind n) ahead ∙ listed_behind of_a of_b a b n left sorted mine,
      );
      own = own.1;
    }
