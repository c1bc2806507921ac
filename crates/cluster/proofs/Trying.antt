-- Both halves after each stage of an exchange.
use Rattle.std.proofs.Common.{◌≡◌, ℕ, ◌≤◌, Bool, true, false, ◌&&◌, nat_lt, List, [], ◌∷◌, ◌++◌, take, drop, append_assoc, Some, refl, sym, ap, ◌∙◌, subst, length, get_or, ◌<◌, ◌+◌, arith}
use Rattle.std.proofs.lemmas.Grind.{take_at_read}
use Rattle.std.proofs.lemmas.List.{take-append-drop}
use Rattle.std.proofs.lemmas.Bool.Decides.{nat_tests}
use Rattle.std.specs.Bool.{MatchBool}
use Rattle.std.specs.Prelude.{OnOk, OnErr, IfOk}
use Rattle.std.specs.declared.result.Result.{Result}
use Rattle.std.specs.declared.result.Result.TheVariants.{Ok, Err}
use Rattle.std.proofs.lemmas.List.Elements.{filter_map-append}
use Rattle.exchange_core.specs.declared.fault.SideFault.{SideFault}
use Rattle.exchange_core.specs.declared.side.Side as code
use Rattle.clash_record.specs.declared.side_id.SideId.{SideId}
use Rattle.clash_record.specs.declared.side_id.SideId.TheVariants.{A, B}
use Rattle.clash_record.specs.Name.{Name}
use Rattle.exchange_law.specs.Sides.{Side, Offer, Withdrawals}
use Rattle.exchange_law.specs.Calls.{Call, Begin, Hear, Withdraw, Close_list, Hear_list, carried_out}
use Rattle.exchange_core.specs.Shown.{shown, IsDone, IsUntouched}
use Rattle.clash_record.specs.declared.halves.Withdrawal.{Withdrawal}
use Rattle.cluster.specs.Clusters.{Standing, Cluster, at, half_full, is_long, IsRenewed, IsFresh, AreFresh}
use Rattle.cluster.specs.Healing.{Plan, Grows, gone_of_side, IsLeft, untouched, IsMerged, AreLeft, none_merged, a_merged, b_merged, IsFailed}
use Rattle.exchange_law.specs.Sides.{rested}
use Rattle.cluster.specs.model.Stages.{AreSides, AddsEvents, IsRested, AreRested, HaveAbandoned, AreOffers, no_ruling, IsTrying, AreTrying}
use Rattle.cluster.proofs.Answered.{pair, was_ok, by_answer, done_grows, answer_grows, never_grows, adds_on, grown_on}
use Rattle.cluster.proofs.Steps.{begun, hears, withdraws, closes, hears_list}
use Rattle.cluster.proofs.Left.{left_rested, left_trying, left_all, left_abandoned, merged_still}

-- ---- abandoning

-- a side that abandoned its open exchange, or is unchanged
abbrev pub RestsOrStays : {X : Type 0} → Result X SideFault → code.Side → code.Side → Type 0
RestsOrStays r old new =
    OnOk r (shown new ≡ rested (shown old)) × OnErr r (shown new ≡ shown old) × AddsEvents old new

left_still : {X : Type 0} (r : Result X SideFault) (plan : Plan) (was : Cluster) (id : SideId) (n : ℕ)
    (old new : code.Side) → (at was id).side.id ≡ id → OnOk r (shown new ≡ rested (shown old)) →
    OnErr r (shown new ≡ shown old) → IsLeft plan was id n (shown old) → IsLeft plan was id n (shown new)
left_still (Ok x) plan was id n old new same done kept left =
    subst (IsLeft plan was id n) (sym done) (left_abandoned plan was id same n (shown old) left)
left_still (Err e) plan was id n old new same done kept left = subst (IsLeft plan was id n) (sym kept) left

merged_too : {X : Type 0} (r : Result X SideFault) (plan : Plan) (was : Cluster) (id : SideId) (n : ℕ)
    (old new : code.Side) → (at was id).side.id ≡ id → OnOk r (shown new ≡ rested (shown old)) →
    OnErr r (shown new ≡ shown old) → IsMerged plan was id n (shown old) → IsMerged plan was id n (shown new)
merged_too (Ok x) plan was id n old new same done kept merged =
    subst (IsMerged plan was id n) (sym done) (merged_still plan was id same n (shown old) merged)
merged_too (Err e) plan was id n old new same done kept merged = subst (IsMerged plan was id n) (sym kept) merged

pub both_left : {X Y : Type 0} (first : Result X SideFault) (second : Result Y SideFault)
    (old_a old_b new_a new_b : code.Side) → RestsOrStays first old_a new_a → RestsOrStays second old_b new_b →
    (plan : Plan) (was : Cluster) → AreSides was → IsFailed plan was (pair old_a old_b) →
    IsFailed plan was (pair new_a new_b)
both_left first second old_a old_b new_a new_b a b plan was sides failed = record {
  count = failed.count;
  left = by failed.left;
  grown = grown_on was old_a old_b new_a new_b failed.grown a.2 b.2;
}
  where
    n : ℕ
    n = failed.count

    left_a : IsLeft plan was A n (shown old_a) → IsLeft plan was A n (shown new_a)
    left_a h = left_still first plan was A n old_a new_a sides.a a.0 a.1 h

    left_b : IsLeft plan was B n (shown old_b) → IsLeft plan was B n (shown new_b)
    left_b h = left_still second plan was B n old_b new_b sides.b b.0 b.1 h

    by : AreLeft plan was n (pair old_a old_b) → AreLeft plan was n (pair new_a new_b)
    by (none_merged h k) = none_merged (left_a h) (left_b k)
    by (a_merged h k) = a_merged (merged_too first plan was A n old_a new_a sides.a a.0 a.1 h) (left_b k)
    by (b_merged h k) = b_merged (left_a h) (merged_too second plan was B n old_b new_b sides.b b.0 b.1 k)

-- ---- beginning

module _ (plan : Plan) (old_a old_b new_a new_b : code.Side) where
  abbrev call_a : Call
  call_a = Begin plan.number plan.seed plan.uptimes.a

  abbrev call_b : Call
  call_b = Begin plan.number plan.seed plan.uptimes.b

  pub both_begun : {X Y F : Type 0} (r : Result (X × Y) F) (first : Result X SideFault) (second : Result Y SideFault) →
      IfOk r (λ both. (first ≡ Ok both.0) × (second ≡ Ok both.1)) → OnOk first (IsDone old_a call_a new_a) →
      OnOk second (IsDone old_b call_b new_b) →
      OnOk r ((was : Cluster) → AreSides was → AreRested was (pair old_a old_b) →
      AreTrying plan was [] (pair new_a new_b))
  both_begun (Ok both) first second oks a b =
      let done_a = was_ok first both.0 oks.0 a in
      let done_b = was_ok second both.1 oks.1 b in
      λ was sides rest. record {
        a = begun plan was no_ruling A (shown old_a) (shown new_a) rest.a sides.a done_a.carried;
        b = begun plan was no_ruling B (shown old_b) (shown new_b) rest.b sides.b done_b.carried;
        grown =
            grown_on was old_a old_b new_a new_b rest.grown (done_grows old_a new_a call_a done_a)
            (done_grows old_b new_b call_b done_b);
      }
  both_begun (Err e) first second oks a b = tt

  pub begun_or_left : {X Y : Type 0} (first : Result X SideFault) (second : Result Y SideFault) →
      OnOk first (IsDone old_a call_a new_a) → OnErr first (IsUntouched old_a new_a) →
      OnOk second (IsDone old_b call_b new_b) → OnErr second (IsUntouched old_b new_b) → (was : Cluster) →
      AreSides was → AreRested was (pair old_a old_b) → IsFailed plan was (pair new_a new_b)
  begun_or_left first second a same_a b same_b was sides rest = record {
    count = 0;
    left = none_merged
        (by_answer first old_a new_a call_a (IsLeft plan was A 0) a same_a
        (left_rested plan was A sides.a (shown old_a) rest.a)
        (λ next e. left_trying plan was A sides.a no_ruling 0 next (begun plan was no_ruling A (shown old_a) next rest.a sides.a e)))
        (by_answer second old_b new_b call_b (IsLeft plan was B 0) b same_b
        (left_rested plan was B sides.b (shown old_b) rest.b)
        (λ next e. left_trying plan was B sides.b no_ruling 0 next (begun plan was no_ruling B (shown old_b) next rest.b sides.b e)));
    grown =
        grown_on was old_a old_b new_a new_b rest.grown (answer_grows first old_a new_a call_a a same_a)
        (answer_grows second old_b new_b call_b b same_b);
  }

-- ---- calls that may be refused

-- both went on with a call, or rejected it
pub both_go_on : {X Y : Type 0} (first : Result X SideFault) (second : Result Y SideFault) (plan : Plan)
    (was : Cluster) (gone : List Withdrawal) (old_a old_b new_a new_b : code.Side) (call_a call_b : Call) →
    OnOk first (IsDone old_a call_a new_a) → OnErr first (IsUntouched old_a new_a) →
    OnOk second (IsDone old_b call_b new_b) → OnErr second (IsUntouched old_b new_b) →
    AreTrying plan was gone (pair old_a old_b) →
    ((next : Side) → carried_out (shown old_a) call_a ≡ Some next → IsTrying plan was no_ruling A (gone_of_side A gone) next) →
    ((next : Side) → carried_out (shown old_b) call_b ≡ Some next → IsTrying plan was no_ruling B (gone_of_side B gone) next) →
    AreTrying plan was gone (pair new_a new_b)
both_go_on first second plan was gone old_a old_b new_a new_b call_a call_b a same_a b same_b trying on_a on_b =
    record {
      a =
          by_answer first old_a new_a call_a (IsTrying plan was no_ruling A (gone_of_side A gone)) a same_a trying.a on_a;
      b =
          by_answer second old_b new_b call_b (IsTrying plan was no_ruling B (gone_of_side B gone)) b same_b trying.b on_b;
      grown =
          grown_on was old_a old_b new_a new_b trying.grown (answer_grows first old_a new_a call_a a same_a)
          (answer_grows second old_b new_b call_b b same_b);
    }

pub both_hear : {X Y : Type 0} (first : Result X SideFault) (second : Result Y SideFault) (of_a of_b : Offer)
    (old_a old_b new_a new_b : code.Side) → OnOk first (IsDone old_a (Hear of_b) new_a) →
    OnErr first (IsUntouched old_a new_a) → OnOk second (IsDone old_b (Hear of_a) new_b) →
    OnErr second (IsUntouched old_b new_b) → (plan : Plan) (was : Cluster) → AreOffers plan was of_a of_b →
    AreTrying plan was [] (pair old_a old_b) → AreTrying plan was [] (pair new_a new_b)
both_hear first second of_a of_b old_a old_b new_a new_b a same_a b same_b plan was offers trying =
    both_go_on first second plan was [] old_a old_b new_a new_b (Hear of_b) (Hear of_a) a same_a b same_b trying
    (λ next e. hears plan was no_ruling A [] (shown old_a) next of_b offers.b e trying.a)
    (λ next e. hears plan was no_ruling B [] (shown old_b) next of_a offers.a e trying.b)

pub both_close : {X Y : Type 0} (first : Result X SideFault) (second : Result Y SideFault)
    (old_a old_b new_a new_b : code.Side) → OnOk first (IsDone old_a Close_list new_a) →
    OnErr first (IsUntouched old_a new_a) → OnOk second (IsDone old_b Close_list new_b) →
    OnErr second (IsUntouched old_b new_b) → (plan : Plan) (was : Cluster) →
    AreTrying plan was plan.gone (pair old_a old_b) → AreTrying plan was plan.gone (pair new_a new_b)
both_close first second old_a old_b new_a new_b a same_a b same_b plan was trying =
    both_go_on first second plan was plan.gone old_a old_b new_a new_b Close_list Close_list a same_a b same_b trying
    (λ next e. closes plan was no_ruling A (gone_of_side A plan.gone) (shown old_a) next e trying.a)
    (λ next e. closes plan was no_ruling B (gone_of_side B plan.gone) (shown old_b) next e trying.b)

pub both_hear_lists : {X Y : Type 0} (first : Result X SideFault) (second : Result Y SideFault)
    (of_a of_b : Withdrawals) (old_a old_b new_a new_b : code.Side) → OnOk first (IsDone old_a (Hear_list of_b) new_a) →
    OnErr first (IsUntouched old_a new_a) → OnOk second (IsDone old_b (Hear_list of_a) new_b) →
    OnErr second (IsUntouched old_b new_b) → (plan : Plan) (was : Cluster) →
    of_a.names ≡ gone_of_side A plan.gone → of_b.names ≡ gone_of_side B plan.gone →
    AreTrying plan was plan.gone (pair old_a old_b) → AreTrying plan was plan.gone (pair new_a new_b)
both_hear_lists first second of_a of_b old_a old_b new_a new_b a same_a b same_b plan was is_a is_b trying =
    both_go_on first second plan was plan.gone old_a old_b new_a new_b (Hear_list of_b) (Hear_list of_a) a same_a b
    same_b trying
    (λ next e. hears_list plan was no_ruling A (gone_of_side A plan.gone) (shown old_a) next of_b is_b e trying.a)
    (λ next e. hears_list plan was no_ruling B (gone_of_side B plan.gone) (shown old_b) next of_a is_a e trying.b)

-- ---- withdrawing

gone_more : (id : SideId) (gone : List Withdrawal) (one : Withdrawal) (names : List Name) →
    gone_of_side id (one ∷ []) ≡ names → gone_of_side id gone ++ names ≡ gone_of_side id (gone ++ one ∷ [])
gone_more id gone one names e =
    ap (λ (l : List Name). gone_of_side id gone ++ l) (sym e) ∙ sym (filter_map-append _ gone (one ∷ []))

append_none : (xs : List Name) → xs ++ [] ≡ xs
append_none [] = refl
append_none (x ∷ xs) = ap (λ (l : List Name). x ∷ l) (append_none xs)

-- a withdrawal from the other half
none_more : (id : SideId) (gone : List Withdrawal) (one : Withdrawal) → gone_of_side id (one ∷ []) ≡ [] →
    gone_of_side id gone ≡ gone_of_side id (gone ++ one ∷ [])
none_more id gone one e = sym (append_none (gone_of_side id gone)) ∙ gone_more id gone one [] e

-- a withdrawal by side A, and by side B

names_of : (id : SideId) (one : Withdrawal) (side : SideId) → one.side ≡ side →
    gone_of_side id (one ∷ []) ≡ gone_of_side id (record { side = side; name = one.name } ∷ [])
names_of id one side is = ap (λ (s : SideId). gone_of_side id (record { side = s; name = one.name } ∷ [])) is

pub withdrawn_of_a : {X : Type 0} (r : Result X SideFault) (one : Withdrawal) (old_a new_a b : code.Side) →
    one.side ≡ A → OnOk r (IsDone old_a (Withdraw one.name) new_a) →
    OnOk r ((plan : Plan) (was : Cluster) (gone : List Withdrawal) → AreTrying plan was gone (pair old_a b) →
    AreTrying plan was (gone ++ one ∷ []) (pair new_a b))
withdrawn_of_a (Ok x) one old_a new_a b is done = λ plan was gone trying. record {
  a =
      subst (λ names. IsTrying plan was no_ruling A names (shown new_a))
      (gone_more A gone one (one.name ∷ []) (names_of A one A is))
      (withdraws plan was no_ruling A (gone_of_side A gone) (shown old_a) (shown new_a) one.name done.carried trying.a);
  b =
      subst (λ names. IsTrying plan was no_ruling B names (shown b)) (none_more B gone one (names_of B one A is)) trying.b;
  grown = record {
    a = adds_on was.a old_a new_a trying.grown.a (done_grows old_a new_a (Withdraw one.name) done);
    b = trying.grown.b;
  };
}
withdrawn_of_a (Err e) one old_a new_a b is done = tt

pub withdrawn_of_b : {X : Type 0} (r : Result X SideFault) (one : Withdrawal) (a old_b new_b : code.Side) →
    one.side ≡ B → OnOk r (IsDone old_b (Withdraw one.name) new_b) →
    OnOk r ((plan : Plan) (was : Cluster) (gone : List Withdrawal) → AreTrying plan was gone (pair a old_b) →
    AreTrying plan was (gone ++ one ∷ []) (pair a new_b))
withdrawn_of_b (Ok x) one a old_b new_b is done = λ plan was gone trying. record {
  a =
      subst (λ names. IsTrying plan was no_ruling A names (shown a)) (none_more A gone one (names_of A one B is)) trying.a;
  b =
      subst (λ names. IsTrying plan was no_ruling B names (shown new_b))
      (gone_more B gone one (one.name ∷ []) (names_of B one B is))
      (withdraws plan was no_ruling B (gone_of_side B gone) (shown old_b) (shown new_b) one.name done.carried trying.b);
  grown = record {
    a = trying.grown.a;
    b = adds_on was.b old_b new_b trying.grown.b (done_grows old_b new_b (Withdraw one.name) done);
  };
}
withdrawn_of_b (Err e) one a old_b new_b is done = tt

-- a refused call fails the exchange
pub trying_failed : (plan : Plan) (was : Cluster) (n : ℕ) (now : Cluster) → AreSides was →
    AreTrying plan was (take n plan.gone) now → IsFailed plan was now
trying_failed plan was n now sides trying = record {
  count = n;
  left = none_merged (left_trying plan was A sides.a no_ruling n now.a.side trying.a)
      (left_trying plan was B sides.b no_ruling n now.b.side trying.b);
  grown = trying.grown;
}

pub all_failed : (plan : Plan) (was now : Cluster) → AreSides was → AreTrying plan was plan.gone now →
    IsFailed plan was now
all_failed plan was now sides trying = record {
  count = length plan.gone;
  left = none_merged (left_all plan was A sides.a no_ruling now.a.side trying.a)
      (left_all plan was B sides.b no_ruling now.b.side trying.b);
  grown = trying.grown;
}

-- before the first call
pub nothing_done : (plan : Plan) (was : Cluster) → IsFailed plan was was
nothing_done plan was = record {
  count = 0;
  left = none_merged (untouched refl refl) (untouched refl refl);
  grown = record { a = never_grows _; b = never_grows _ };
}

-- both halves are idle
pub rested_failed : (plan : Plan) (was now : Cluster) → AreSides was → AreRested was now → IsFailed plan was now
rested_failed plan was now sides rest = record {
  count = 0;
  left = none_merged (left_rested plan was A sides.a now.a.side rest.a) (left_rested plan was B sides.b now.b.side rest.b);
  grown = rest.grown;
}

-- the halves are sides
pub sides_failed : {X E : Type 0} (r : Result X E) (plan : Plan) (was now : Cluster) → AreSides was →
    OnErr r (AreSides was → IsFailed plan was now) → OnErr r (IsFailed plan was now)
sides_failed (Ok x) plan was now sides failed = tt
sides_failed (Err e) plan was now sides failed = failed sides

-- the names withdrawn so far, and one more
pub one_taken : (i : ℕ) (gone : List Withdrawal) (one : Withdrawal) → i < length gone → one ≡ get_or gone i one →
    take i gone ++ one ∷ [] ≡ take (i + 1) gone
one_taken i gone one below is =
    ap (λ (w : Withdrawal). take i gone ++ w ∷ []) is ∙ sym (take_at_read gone i one below).1

pub next_one : (i : ℕ) (gone : List Withdrawal) (one : Withdrawal) → i < length gone → one ≡ get_or gone i one →
    gone ≡ take i gone ++ one ∷ drop (i + 1) gone
next_one i gone one below is =
    sym (take-append-drop (i + 1) gone)
    ∙ ap (λ (l : List Withdrawal). l ++ drop (i + 1) gone) (sym (one_taken i gone one below is))
    ∙ append_assoc (take i gone) (one ∷ []) (drop (i + 1) gone)

-- ---- renewing

fresh_side : (old new : Standing) → IsFresh old new → new.side ≡ old.side
fresh_side old new = by_length (is_long old)
  where
    by_length : (long : Bool) → MatchBool long (IsRenewed old new) (new ≡ old) → new.side ≡ old.side
    by_length true fresh = fresh.side
    by_length false same = ap (λ (s : Standing). s.side) same

-- a journal that is less than half full isn't renewed after one event more
fresh_grows : (was mid now : Standing) → Grows was mid → length mid.calls ≤ length was.calls + 1 → IsFresh mid now →
    Grows was now
fresh_grows was mid now grows few fresh = by_length (is_long mid) refl fresh
  where
    by_length : (long : Bool) → is_long mid ≡ long → MatchBool long (IsRenewed mid now) (now ≡ mid) → Grows was now
    by_length true is renewed = record {
      same_limit = renewed.same_limit ∙ grows.same_limit;
      kept = λ low. absurd (not_long low _ is);
    }
      where
        above : (n m : ℕ) → nat_lt n m ≡ true → n < m
        above n m e = grind (arith, nat_tests)

        not_long : length was.calls < half_full was.limit → (idle : Bool) →
            (idle && nat_lt (half_full mid.limit) (length mid.calls)) ≡ true → ⊥
        not_long low true is =
            let same = ap half_full grows.same_limit in
            let over = above (half_full mid.limit) (length mid.calls) is in
            omega (arith, low, few, over, same)
        not_long low false is = cc
    by_length false is same = subst (Grows was) (sym same) grows

fresh_rested : (was mid now : Side) → now ≡ mid → IsRested was mid → IsRested was now
fresh_rested was mid now same rest = subst (IsRested was) (sym same) rest

-- idle halves whose long journals were renewed are idle
pub rested_fresh : (was mid now : Cluster) → HaveAbandoned was mid → AreFresh mid now → AreRested was now
rested_fresh was mid now left fresh = record {
  a = fresh_rested was.a.side mid.a.side now.a.side (fresh_side mid.a now.a fresh.a) left.rested.a;
  b = fresh_rested was.b.side mid.b.side now.b.side (fresh_side mid.b now.b fresh.b) left.rested.b;
  grown = record {
    a = fresh_grows was.a mid.a now.a left.rested.grown.a left.few_a fresh.a;
    b = fresh_grows was.b mid.b now.b left.rested.grown.b left.few_b fresh.b;
  };
}
