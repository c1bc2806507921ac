-- The rulings held, compared with those seen.
use Rattle.std.proofs.Common.{◌≡◌, ◌≢◌, ◌⊎◌, inl, inr, ℕ, suc, ◌+◌, ◌≤◌, Bool, false, List, [], ◌∷◌, map, length, refl, sym, ap, ◌∙◌, subst, arith}
use Rattle.std.proofs.lemmas.Option.{slice_get_within}
use Rattle.std.specs.Prelude.{Option, Some, None, IfSome, slice_get}
use Rattle.std.specs.List.{filter_map, cons_option}
use Rattle.std.specs.FinMap.{get, len, keys, entries, len-entries}
use Rattle.std.specs.Bool.{Decides}
use mathlib.Core.Logic.{dite}
use native.Mathlib.Decide.{ℕ_discrete}
use Rattle.clash_record.specs.Name.{Name}
use Rattle.partition_table.specs.Tables.{Row, Table, merge, clashes, clash_at, facts_of}
use Rattle.partition_table.specs.declared.judged.Judged.{Judged}
use Rattle.exchange_law.specs.Sides.{answer_in}
use Rattle.partition_table.specs.Rulings.{Ruling}
use Rattle.exchange_core.specs.Finished.{Finished, IsFinished, clashes_merged}
use Rattle.verdict_board.specs.Boards.{Pass, seen, LooksAt}
use Rattle.registry_lock.specs.Meeting.{judged_of, AgreesWith, AgreesBelow, DiffersAt, IsStrangeAt, StillSees, answers_seen, SamePair}

-- ---- at most as many clashes as names of A

few_kept : {X Y : Type 0} (h : X → Option Y) (xs : List X) → length (filter_map h xs) ≤ length xs
few_kept h [] = omega arith
few_kept {Y = Y} h (x ∷ xs) = by (h x) (few_kept h xs)
  where
    by : (o : Option Y) → length (filter_map h xs) ≤ length xs →
        length (cons_option o (filter_map h xs)) ≤ suc (length xs)
    by None h = omega arith
    by (Some y) h = omega arith

named_length : (es : List (Name × Row)) → length (map (λ e. e.0) es) ≡ length es
named_length [] = refl
named_length (e ∷ es) = ap suc (named_length es)

few_clashes : (a : Table) (uptime_a : ℕ) (b : Table) (uptime_b : ℕ) → length (clashes a uptime_a b uptime_b) ≤ len a
unfolding clashes
few_clashes a uptime_a b uptime_b =
    let kept = few_kept (λ name. clash_at (facts_of a uptime_a) (facts_of b uptime_b) name (get a name) (get b name))
    (keys a) in
    omega (arith, kept, named_length (entries a), len-entries a)

pub few_rulings : (f : Finished) → IsFinished f → length f.rulings ≤ len f.a
few_rulings f h = omega (arith, h.one_each, few_clashes f.a f.uptime_a f.b f.uptime_b)

-- two sides that merged one pair hold as many rulings
pub as_many : (f g : Finished) → IsFinished f → IsFinished g → SamePair f g → length g.rulings ≡ length f.rulings
as_many f g h i same =
    i.one_each
    ∙ (λ j. length (clashes (sym same.a.table j) (sym same.a.uptime j) (sym same.b.table j) (sym same.b.uptime j)))
    ∙ sym h.one_each

-- ---- the merge under what was seen

answers_as_seen : (pass : Pass) (rulings : List Judged) (k : ℕ) →
    ((j : ℕ) (judged : Judged) → slice_get rulings j ≡ Some judged → judged_of (seen pass (k + j)) ≡ Some judged) →
    map (λ judged. judged.answer) rulings ≡ answers_seen pass k (length rulings)
answers_as_seen pass [] k h = refl
answers_as_seen pass (judged ∷ rulings) k h =
    let here : k + 0 ≡ k = omega arith in
    let first : judged.answer ≡ answer_in (judged_of (seen pass k)) =
    sym (ap answer_in (subst (λ (i : ℕ). judged_of (seen pass i) ≡ Some judged) here (h 0 judged refl))) in
    let rest = answers_as_seen pass rulings (k + 1) (λ j other is.
    let e : k + suc j ≡ k + 1 + j = omega arith in
    subst (λ (i : ℕ). judged_of (seen pass i) ≡ Some other) e (h (suc j) other is)) in
    λ i. first i ∷ rest i

-- its table is the merge of its pair under what was seen
pub as_seen : (pass : Pass) (f : Finished) → IsFinished f → AgreesWith pass f.rulings →
    f.table ≡ merge f.a f.b (answers_seen pass 0 (length (clashes_merged f))) f.gone
as_seen pass f h agrees =
    let answers = answers_as_seen pass f.rulings 0 (λ j judged is.
    let e : j ≡ 0 + j = omega arith in
    subst (λ (i : ℕ). judged_of (seen pass i) ≡ Some judged) e (agrees j judged is)) in
    h.merged ∙ ap (λ answers. merge f.a f.b answers f.gone) (answers ∙ ap (answers_seen pass 0) h.one_each)

-- so is the other's
pub as_seen_too : (pass : Pass) (f g : Finished) → SamePair f g → IsFinished g → AgreesWith pass g.rulings →
    g.table ≡ merge f.a f.b (answers_seen pass 0 (length (clashes_merged f))) f.gone
as_seen_too pass f g same h agrees =
    as_seen pass g h agrees
    ∙ (λ i. merge (sym same.a.table i) (sym same.b.table i) (answers_seen pass 0
    (length (clashes (sym same.a.table i) (sym same.a.uptime i) (sym same.b.table i) (sym same.b.uptime i))))
    (record { of_a = sym same.a.gone i; of_b = sym same.b.gone i }))

-- ---- one clash after another

chain : {A : Type 0} (x y z : Option A) → IfSome x (λ r. y ≡ Some r) → IfSome y (λ r. z ≡ Some r) →
    IfSome x (λ r. z ≡ Some r)
chain None y z h g = tt
chain (Some r) y z h g = subst (λ o. IfSome o (λ s. z ≡ Some s)) h g

itself : {A : Type 0} (o : Option A) → IfSome o (λ r. o ≡ Some r)
itself None = tt
itself (Some r) = refl

pub keeps_all : (pass : Pass) → StillSees pass pass
keeps_all pass = record { same_board = refl; stays = λ k. itself (seen pass k) }

pub keeps_on : (o p q : Pass) (k : ℕ) → StillSees o p → LooksAt k p q → StillSees o q
keeps_on o p q k kept looks = record {
  same_board = looks.same_board ∙ kept.same_board;
  stays = λ j. dite (ℕ_discrete j k)
      (λ e. subst (λ (i : ℕ). IfSome (seen o i) (λ r. seen q i ≡ Some r)) (sym e)
      (chain (seen o k) (seen p k) (seen q k) (kept.stays k) looks.stays))
      (λ ne. subst (λ (x : Option Ruling). IfSome (seen o j) (λ r. x ≡ Some r)) (sym (looks.others j ne))
      (kept.stays j));
}

pub keeps_through : (o p q : Pass) → StillSees o p → StillSees p q → StillSees o q
keeps_through o p q kept more = record {
  same_board = more.same_board ∙ kept.same_board;
  stays = λ k. chain (seen o k) (seen p k) (seen q k) (kept.stays k) (more.stays k);
}

pub none_below : (pass : Pass) (rulings : List Judged) → AgreesBelow 0 pass rulings
none_below pass rulings j judged lt is = absurd (omega (arith, lt))

pub below_on : (p q : Pass) (k : ℕ) (rulings : List Judged) → LooksAt k p q → AgreesBelow k p rulings →
    AgreesBelow k q rulings
below_on p q k rulings looks h j judged lt is =
    let apart : j ≢ k = omega (arith, lt) in
    ap judged_of (looks.others j apart) ∙ h j judged lt is

pub one_more : (q : Pass) (k : ℕ) (rulings : List Judged) (mine : Judged) → AgreesBelow k q rulings →
    slice_get rulings k ≡ Some mine → judged_of (seen q k) ≡ Some mine → AgreesBelow (k + 1) q rulings
one_more q k rulings mine h here agrees j judged lt is =
    dite (ℕ_discrete j k)
    (λ e. ap (λ (i : ℕ). judged_of (seen q i)) e ∙ agrees ∙ sym here ∙ ap (slice_get rulings) (sym e) ∙ is)
    (λ ne. h j judged (omega (arith, lt, ne)) is)

pub all_below : (q : Pass) (k : ℕ) (rulings : List Judged) → length rulings ≤ k → AgreesBelow k q rulings →
    AgreesWith q rulings
all_below q k rulings past h j judged is =
    let within = slice_get_within rulings j judged is in
    h j judged (omega (arith, within, past)) is

pub differs_here : (q : Pass) (k : ℕ) (rulings : List Judged) (mine : Judged) (found : Option Ruling)
    (r : Bool) → found ≡ seen q k → slice_get rulings k ≡ Some mine → Decides r (judged_of found ≡ Some mine) →
    r ≡ false → DiffersAt k q rulings
differs_here q k rulings mine found r is here decides fails =
    (mine, here, λ e. let yes = decides.1 (ap judged_of is ∙ e) in absurd (cc))

-- ---- what was seen before doesn't differ

still : (x y : Option Ruling) (judged : Judged) → IfSome x (λ r. y ≡ Some r) → judged_of x ≡ Some judged →
    judged_of y ≡ Some judged
still None y judged kept e = absurd (cc)
still (Some r) y judged kept e = ap judged_of kept ∙ e

agreed : (o q : Pass) (k : ℕ) (rulings : List Judged) → StillSees o q → AgreesWith o rulings → DiffersAt k q rulings → ⊥
agreed o q k rulings kept h d =
    d.2 (still (seen o k) (seen q k) d.0 (kept.stays k) (h k d.0 d.1))

pub not_strange : (o q : Pass) (k : ℕ) (first second : List Judged) → StillSees o q → AgreesWith o first →
    AgreesWith o second → IsStrangeAt k q first second → ⊥
not_strange o q k first second kept mine yours strange = by strange.differs
  where
    by : (DiffersAt k q first ⊎ DiffersAt k q second) → ⊥
    by (inl d) = agreed o q k first kept mine d
    by (inr d) = agreed o q k second kept yours d
