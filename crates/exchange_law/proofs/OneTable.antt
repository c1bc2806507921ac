-- Two sides that finish one number.
use Rattle.std.proofs.Common.{◌≡◌, ℕ, true, List, ◌∷◌, length, map, Option, Some, None, is_some, slice_get, refl, sym, ap, ◌∙◌, subst, option_map}
use Rattle.std.specs.List.{list_all}
use Rattle.builtin_resolvers.specs.declared.verdicts.Verdict3.{Verdict3}
use Rattle.clash_record.specs.declared.side_id.SideId.{SideId}
use Rattle.clash_record.specs.declared.side_id.SideId.TheVariants.{A, B}
use Rattle.clash_record.specs.Name.{Name}
use Rattle.partition_table.specs.Tables.{Table, Clash, Gone, clashes, merge, fit_together}
use Rattle.partition_table.specs.laws.FourWords.{four_pass}
use Rattle.exchange_law.specs.Sides.{Offer, Withdrawals, Judged, Heard, Exchange, Side, is_one_of_four, merge_for, answer_in, finish}
use Rattle.exchange_law.specs.Calls.{Finish}
use Rattle.exchange_law.specs.Worlds.{Ruling, Past, Event, Does, side_of, world_after, clashes_between}
use Rattle.exchange_law.specs.History.{FinishedWith, JudgedAt, IsLawfulMerge}
use Rattle.exchange_law.specs.laws.Carried.{some_inj, found}
use Rattle.exchange_law.specs.laws.Words.{same_list, word_in, place_of, answers_same, length-words}
use Rattle.exchange_law.specs.laws.Kept.{Has, other, made, made_list, Taken, taken_grows, HeardFits, our_offer, OneEach, Grows}
use Rattle.exchange_law.specs.laws.Steps.{step_grows, sound, grows_on}
use Rattle.exchange_law.specs.laws.Places.{side_now, judged_at, began_with, closed_with}

-- what a finish that was carried out merged
pub record Merged (number : ℕ) (table : Table) (past : Past) : Type 0 where
  pub seed : ℕ
  pub a : Table
  pub uptime_a : ℕ
  pub b : Table
  pub uptime_b : ℕ
  pub gone : Gone
  pub rulings : List (Option Judged)
  pub made_a : Has past.offers (made A number seed uptime_a a)
  pub made_b : Has past.offers (made B number seed uptime_b b)
  pub list_a : Has past.lists (made_list A number gone.of_a)
  pub list_b : Has past.lists (made_list B number gone.of_b)
  pub fit : fit_together a b ≡ true
  pub places : length rulings ≡ length (clashes a uptime_a b uptime_b)
  pub taken : (k : ℕ) (judged : Judged) → slice_get rulings k ≡ Some (Some judged) →
      Taken (clashes a uptime_a b uptime_b) seed number k judged past
  pub full : list_all is_some rulings ≡ true
  pub leaves : merge a b (map answer_in rulings) gone ≡ table

merged_grows : {number : ℕ} {table : Table} {past more : Past} → Grows past more → Merged number table past →
    Merged number table more
merged_grows g m = record {
  seed = m.seed;
  a = m.a;
  uptime_a = m.uptime_a;
  b = m.b;
  uptime_b = m.uptime_b;
  gone = m.gone;
  rulings = m.rulings;
  made_a = g.made_still _ m.made_a;
  made_b = g.made_still _ m.made_b;
  list_a = g.list_still _ m.list_a;
  list_b = g.list_still _ m.list_b;
  fit = m.fit;
  places = m.places;
  taken = λ k judged e. taken_grows g (m.taken k judged e);
  full = m.full;
  leaves = m.leaves;
}

merged_by : (id : SideId) (own : Table) (exchange : Exchange) (heard : Heard) (theirs : List Name) (table : Table)
    (past : Past) → Has past.offers (our_offer id own exchange) → HeardFits (our_offer id own exchange) heard past →
    Has past.lists (made_list id exchange.number exchange.withdrawn) →
    Has past.lists (made_list (other id) exchange.number theirs) → list_all is_some heard.rulings ≡ true →
    merge_for id own heard.table (map answer_in heard.rulings) exchange.withdrawn theirs ≡ table →
    Merged exchange.number table past
merged_by A own exchange heard theirs table past ours h our_list their_list full leaves = record {
  seed = exchange.seed;
  a = own;
  uptime_a = exchange.uptime;
  b = heard.table;
  uptime_b = heard.uptime;
  gone = record { of_a = exchange.withdrawn; of_b = theirs };
  rulings = heard.rulings;
  made_a = ours;
  made_b = h.theirs;
  list_a = our_list;
  list_b = their_list;
  fit = h.fit;
  places = h.places;
  taken = h.taken;
  full = full;
  leaves = leaves;
}
merged_by B own exchange heard theirs table past ours h our_list their_list full leaves = record {
  seed = exchange.seed;
  a = heard.table;
  uptime_a = heard.uptime;
  b = own;
  uptime_b = exchange.uptime;
  gone = record { of_a = theirs; of_b = exchange.withdrawn };
  rulings = heard.rulings;
  made_a = h.theirs;
  made_b = ours;
  list_a = their_list;
  list_b = our_list;
  fit = h.fit;
  places = h.places;
  taken = h.taken;
  full = full;
  leaves = leaves;
}

merged_now : (earlier : List Event) (id : SideId) (number : ℕ) (table : Table) →
    option_map (λ (x : Exchange). x.number) (side_of (world_after earlier) id).exchange ≡ Some number →
    is_some (finish (side_of (world_after earlier) id)) ≡ true →
    (side_of (world_after (Does id Finish ∷ earlier)) id).table ≡ table → Merged number table (world_after earlier).past
merged_now earlier id number table before finishes leaves = by_finish (finish (side_of (world_after earlier) id)) refl
  where
    by_finish : (o : Option Side) → finish (side_of (world_after earlier) id) ≡ o →
        Merged number table (world_after earlier).past
    by_finish None is = let refused = ap is_some is in absurd (cc)
    by_finish (Some new) is =
        let w = world_after earlier in
        let side = side_of w id in
        let f = found side new is in
        let fits = (sound earlier).fits id in
        let opened = fits.open_fits f.exchange f.opened in
        let heard = opened.heard f.heard f.was_heard in
        let number_is : f.exchange.number ≡ number =
        some_inj (sym (ap (option_map (λ (x : Exchange). x.number)) f.opened) ∙ before) in
        let now = side_now w id w.past (finish side) new is in
        let merges =
        λ (j : SideId). merge_for j side.table f.heard.table (map answer_in f.heard.rulings) f.exchange.withdrawn
        f.theirs in
        subst (λ n. Merged n table w.past) number_is
        (merged_by id side.table f.exchange f.heard f.theirs table w.past opened.ours heard
        (opened.our_list f.list_closed) (opened.their_list f.theirs f.list_heard) f.full
        (sym (ap merges fits.same_id) ∙ ap (λ (x : Side). x.table) (f.new_is ∙ sym now) ∙ leaves))

pub merged : (history : List Event) (id : SideId) (number : ℕ) (table : Table) → FinishedWith history id number table →
    Merged number table (world_after history).past
merged history id number table h =
    subst (λ l. Merged number table (world_after l).past) h.place.1
    (merged_grows (grows_on h.place.0 (Does id Finish ∷ h.earlier))
    (merged_grows (step_grows h.earlier (Does id Finish))
    (merged_now h.earlier id number table h.of_number h.finishes h.leaves)))

module _ {past : Past} (one : OneEach past) (number : ℕ) where
  -- of one side and number, all offers are one
  same_offer : (id : SideId) (p q u v : ℕ) (a b : Table) → Has past.offers (made id number p u a) →
      Has past.offers (made id number q v b) → made id number p u a ≡ made id number q v b
  same_offer id p q u v a b h g = one.one_offer _ _ h g refl refl

  same_names : (id : SideId) (l m : List Name) → Has past.lists (made_list id number l) →
      Has past.lists (made_list id number m) → l ≡ m
  same_names id l m h g = ap (λ (x : Withdrawals). x.names) (one.one_list _ _ h g refl refl)

  pub agree : (t u : Table) → Merged number t past → Merged number u past → t ≡ u
  agree t u m n =
      let e = same_offer A _ _ _ _ _ _ m.made_a n.made_a in
      let f = same_offer B _ _ _ _ _ _ m.made_b n.made_b in
      let p = same_names A _ _ m.list_a n.list_a in
      let q = same_names B _ _ m.list_b n.list_b in
      let n_is = ap (λ (o : Offer × Offer). length (clashes_between o.0 o.1)) (λ i. (e i, f i)) in
      let rulings = same_list m.rulings n.rulings (m.places ∙ n_is ∙ sym n.places) m.full n.full (λ k h g at_h at_g.
      let c = m.taken k h at_h in
      let d = n.taken k g at_g in
      sym c.same ∙ ap (λ (r : Ruling). r.judged) (some_inj (sym c.found ∙ d.found)) ∙ d.same) in
      sym m.leaves
      ∙ (λ i. merge (e i).table (f i).table (map answer_in (rulings i)) (record { of_a = p i; of_b = q i }))
      ∙ n.leaves

pub one_table : (history : List Event) (number : ℕ) (i j : SideId) (a b : Table) → FinishedWith history i number a →
    FinishedWith history j number b → a ≡ b
one_table history number i j a b c d =
    agree (sound history).one number a b (merged history i number a c) (merged history j number b d)

-- what was merged is lawful

lawful_merge : (history : List Event) (number : ℕ) (table : Table) → Merged number table (world_after history).past →
    IsLawfulMerge history number table
lawful_merge history number table m = record {
  seed = m.seed;
  a = m.a;
  uptime_a = m.uptime_a;
  b = m.b;
  uptime_b = m.uptime_b;
  began_a = began_with history _ m.made_a;
  began_b = began_with history _ m.made_b;
  fit = m.fit;
  gone = m.gone;
  closed_a = closed_with history _ m.list_a;
  closed_b = closed_with history _ m.list_b;
  words = map word_in m.rulings;
  lawful = record {
    one_each = length-words m.rulings ∙ m.places;
    one_of_four = λ k word e.
        let h = place_of m.rulings m.full k word e in
        let t = m.taken k h.0 h.1.0 in
        let all = clashes m.a m.uptime_a m.b m.uptime_b in
        let w = t.lawful.word_is in
        subst (λ w. is_one_of_four w m.seed (length all) k ≡ true) h.1.1
        (four_pass h.0.word m.seed (length all) k w.0 w.1 w.2);
    judged = λ k word clash e at.
        let h = place_of m.rulings m.full k word e in
        let t = m.taken k h.0 h.1.0 in
        let same_word = ap (λ (j : Judged). j.word) t.same ∙ h.1.1 in
        subst (λ (x : Clash × ℕ). JudgedAt history number k x.0 x.1)
        (λ i. (some_inj (sym t.lawful.of_clash ∙ at) i, same_word i))
        (judged_at history number k t.ruling t.found);
  };
  merged =
      let e =
      answers_same (clashes m.a m.uptime_a m.b m.uptime_b) m.rulings m.places m.full
      (λ k judged at. let t = m.taken k judged at in (t.ruling.clash, (t.lawful.of_clash, t.lawful.answers))) in
      ap (λ (x : List Verdict3). merge m.a m.b x m.gone) (sym e) ∙ m.leaves;
}

pub is_lawful_merge : (history : List Event) (number : ℕ) (i : SideId) (a : Table) → FinishedWith history i number a →
    IsLawfulMerge history number a
is_lawful_merge history number i a finished = lawful_merge history number a (merged history i number a finished)
