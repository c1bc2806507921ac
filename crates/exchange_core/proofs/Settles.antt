-- Settling as judgings in round 0 and rulings that are taken.
use Rattle.std.proofs.Common.{◌≡◌, ℕ, zero, suc, Bool, true, false, cond, not, ◌&&◌, if◌then◌else◌, List, [], ◌∷◌, ◌++◌, length, Option, Some, None, is_none, slice_get, eq-eqb, ◌==◌, refl, sym, ap, ◌∙◌, subst, ⊎_elim, append_assoc, arith, option_map, option_and_then}
use Rattle.std.specs.List.{cons_option, list_all}
use Rattle.clash_record.specs.declared.side_id.SideId.{SideId}
use Rattle.clash_record.specs.declared.side_id.SideId.TheVariants.{A, B}
use Rattle.partition_table.specs.Tables.{Table, Clash, answer, word_of, clashes}
use Rattle.exchange_law.specs.Sides.{Offer, Judged, Heard, Exchange, Side, is_side, clashes_for, clashes_heard, heard_clashes, take}
use Rattle.exchange_law.specs.Calls.{Take}
use Rattle.exchange_law.specs.Worlds.{Ruling, Past, World, Event, Tells, Judges, side_of, with_side, called, called_if, ruling_at, offer_by, ruling_of, clashes_between, ruling_on, judge, happens, world_after}
use Rattle.exchange_core.specs.Settling.{judged_in, filled, settled, the_round}
use Rattle.exchange_core.specs.Halves.{is_settling, IsSettling, SettlesByEvents}
use Rattle.exchange_law.specs.laws.Carried.{some_inj}
use Rattle.exchange_law.specs.laws.Rulings.{lawful}
use Rattle.exchange_law.specs.laws.Kept.{Has, other, made, OneEach, same_clashes}
use Rattle.exchange_law.specs.laws.Steps.{Made, offer_key, judge_cases, at_more, past_is, sound}
use Rattle.exchange_law.specs.laws.Places.{side_now}
use Rattle.exchange_law.specs.laws.Calling.{judgings_add}
use Rattle.exchange_core.proofs.Settled.{length-seam, take_next, unheard}
use Rattle.exchange_core.proofs.Filling.{at_seam}

pub itself : (id : SideId) → is_side id id ≡ true
itself A = refl
itself B = refl

-- ---- the offers of a number

none_made : (id : SideId) (number : ℕ) (offers : List Offer) (k seed uptime : ℕ) (table : Table) →
    slice_get offers k ≡ Some (made id number seed uptime table) → offer_by id number offers ≡ None → ⊥
none_made id number [] k seed uptime table at none = cc
none_made id number (o ∷ os) zero seed uptime table at none =
    let same : o ≡ made id number seed uptime table = some_inj at in
    let passes : (is_side o.side id && o.number == number) ≡ true =
    ap (λ (x : Offer). is_side x.side id && x.number == number) same
    ∙ (λ i. itself id i && eq-eqb number number refl i) in
    let found : offer_by id number (o ∷ os) ≡ Some o =
    ap (λ b. cond b (Some o) (offer_by id number os)) passes in
    cc
none_made id number (o ∷ os) (suc k) seed uptime table at none =
    by_test (is_side o.side id && o.number == number) (none_made id number os k seed uptime table at) none
  where
    by_test : (b : Bool) → (offer_by id number os ≡ None → ⊥) → cond b (Some o) (offer_by id number os) ≡ None → ⊥
    by_test true others e = cc
    by_test false others e = others e

-- the offer of a side and a number, once it was made
record OfferFound (id : SideId) (number seed uptime : ℕ) (table : Table) (past : Past) : Type 0 where
  offer : Offer
  found : offer_by id number past.offers ≡ Some offer
  seed_is : offer.seed ≡ seed
  uptime_is : offer.uptime ≡ uptime
  table_is : offer.table ≡ table

found_offer : (past : Past) → OneEach past → (id : SideId) (number seed uptime : ℕ) (table : Table) →
    Has past.offers (made id number seed uptime table) → OfferFound id number seed uptime table past
found_offer past one id number seed uptime table has = by_found (offer_by id number past.offers) refl
  where
    by_found : (o : Option Offer) → offer_by id number past.offers ≡ o →
        OfferFound id number seed uptime table past
    by_found None is = absurd (none_made id number past.offers has.0 seed uptime table has.1 is)
    by_found (Some offer) is =
        let e = one.one_offer _ _ (offer_key id number past.offers offer is) has refl refl in
        record {
          offer = offer;
          found = is;
          seed_is = ap (λ (x : Offer). x.seed) e;
          uptime_is = ap (λ (x : Offer). x.uptime) e;
          table_is = ap (λ (x : Offer). x.table) e;
        }

-- the two offers of a number, with their seed and their clashes
pub record BothOffers (number seed : ℕ) (all : List Clash) (past : Past) : Type 0 where
  pub a : Offer
  pub b : Offer
  pub is_a : offer_by A number past.offers ≡ Some a
  pub is_b : offer_by B number past.offers ≡ Some b
  pub seed_a : a.seed ≡ seed
  pub seed_b : b.seed ≡ seed
  pub all_is : clashes_between a b ≡ all

found_both : {number seed uptime_a uptime_b : ℕ} {a b : Table} {past : Past} →
    OfferFound A number seed uptime_a a past → OfferFound B number seed uptime_b b past →
    BothOffers number seed (clashes a uptime_a b uptime_b) past
found_both a b = record {
  a = a.offer;
  b = b.offer;
  is_a = a.found;
  is_b = b.found;
  seed_a = a.seed_is;
  seed_b = b.seed_is;
  all_is = λ i. clashes (a.table_is i) (a.uptime_is i) (b.table_is i) (b.uptime_is i);
}

pub both_offers : (past : Past) → OneEach past → (id : SideId) (number seed uptime : ℕ) (own : Table)
    (other_uptime : ℕ) (others : Table) → Has past.offers (made id number seed uptime own) →
    Has past.offers (made (other id) number seed other_uptime others) →
    BothOffers number seed (clashes_for id own uptime others other_uptime) past
both_offers past one A number seed uptime own other_uptime others ours theirs =
    found_both (found_offer past one A number seed uptime own ours)
    (found_offer past one B number seed other_uptime others theirs)
both_offers past one B number seed uptime own other_uptime others ours theirs =
    found_both (found_offer past one A number seed other_uptime others theirs)
    (found_offer past one B number seed uptime own ours)

module _ {number seed : ℕ} {all : List Clash} {past : Past} (o : BothOffers number seed all past) where
  -- what judging a clash of theirs in round 0 gives
  due_in_round : (k : ℕ) (c : Clash) → slice_get all k ≡ Some c →
      ruling_on number k the_round (offer_by A number past.offers) (offer_by B number past.offers)
      ≡ Some (ruling_of number k (word_of seed the_round (length all) k) c)
  due_in_round k c at =
      let ruling = λ (s : ℕ) (l : List Clash). option_map (ruling_of number k (word_of s the_round (length l) k))
      (slice_get l k) in
      (λ i. ruling_on number k the_round (o.is_a i) (o.is_b i))
      ∙ ap (λ b. if b then ruling o.a.seed (clashes_between o.a o.b) else None) (eq-eqb _ _ (o.seed_a ∙ sym o.seed_b))
      ∙ (λ i. ruling (o.seed_a i) (o.all_is i))
      ∙ ap (option_map (ruling_of number k (word_of seed the_round (length all) k))) at

  -- the word of a ruling that was made in round 0
  pub word_in_round : (k : ℕ) (r : Ruling) →
      Made number k the_round (offer_by A number past.offers) (offer_by B number past.offers) r →
      r.judged.word ≡ word_of seed the_round (length all) k
  word_in_round k r m =
      let a : m.of_a ≡ o.a = some_inj (sym m.is_a ∙ o.is_a) in
      let b : m.of_b ≡ o.b = some_inj (sym m.is_b ∙ o.is_b) in
      let seeds : m.of_a.seed ≡ seed = ap (λ (x : Offer). x.seed) a ∙ o.seed_a in
      let lists : clashes_between m.of_a m.of_b ≡ all = (λ i. clashes_between (a i) (b i)) ∙ o.all_is in
      sym (ap (λ (x : Ruling). x.judged.word) m.ruling_is)
      ∙ (λ i. word_of (seeds i) the_round (length (lists i)) k)

-- ---- a settling, clash by clash

judge_sides : (w : World) (number k round : ℕ) (id : SideId) → side_of (happens w (Judges number k round)) id
    ≡ side_of w id
judge_sides w number k round A = refl
judge_sides w number k round B = refl

others_kept : (w : World) (id : SideId) (past : Past) (new : Side) → side_of (with_side w id past (Some new)) (other id)
    ≡ side_of w (other id)
others_kept w A past new = refl
others_kept w B past new = refl

-- what such events leave: this side, the other one, the messages, and rulings of the number at the words of round 0
record At (first : List Event) (id : SideId) (number seed : ℕ) (all : List Clash) (side : Side)
    (events : List Event) : Type 0 where
  of_round : list_all (is_settling id) events ≡ true
  side_is : side_of (world_after (events ++ first)) id ≡ side
  other_is : side_of (world_after (events ++ first)) (other id) ≡ side_of (world_after first) (other id)
  offers_are : (world_after (events ++ first)).past.offers ≡ (world_after first).past.offers
  lists_are : (world_after (events ++ first)).past.lists ≡ (world_after first).past.lists
  ruled : (k : ℕ) (r : Ruling) → ruling_at number k (world_after (events ++ first)).past.rulings ≡ Some r →
      r.judged.word ≡ word_of seed the_round (length all) k

-- the ruling of a clash in round 0 is in the map
record IsRuled (number seed : ℕ) (all : List Clash) (k : ℕ) (c : Clash) (past : Past) : Type 0 where
  ruling : Ruling
  found : ruling_at number k past.rulings ≡ Some ruling
  clash_is : ruling.clash ≡ c
  judged_is : ruling.judged ≡ judged_in seed the_round (length all) k c

module _ (first : List Event) (id : SideId) (x : Exchange) (heard : Heard)
    (opened : (side_of (world_after first) id).exchange ≡ Some x) (was : x.heard ≡ Some heard) where
  abbrev start : Side
  start = side_of (world_after first) id

  abbrev all : List Clash
  all = clashes_heard (side_of (world_after first) id) x heard

  -- the side with these rulings
  abbrev held : List (Option Judged) → Side
  held rulings = record (side_of (world_after first) id) {
    exchange = Some (record x { heard = Some (record heard { rulings = rulings }) });
  }

  abbrev Now : List (Option Judged) → List Event → Type 0
  Now rulings events =
      At first id x.number x.seed (clashes_heard (side_of (world_after first) id) x heard) (held rulings) events

  ours : Has (world_after first).past.offers
      (made id x.number x.seed x.uptime (side_of (world_after first) id).table)
  ours = (((sound first).fits id).open_fits x opened).ours

  theirs : Has (world_after first).past.offers (made (other id) x.number x.seed heard.uptime heard.table)
  theirs = ((((sound first).fits id).open_fits x opened).heard heard was).theirs

  all_for : clashes_for id (side_of (world_after first) id).table x.uptime heard.table heard.uptime
      ≡ clashes_heard (side_of (world_after first) id) x heard
  all_for =
      ap (λ j. clashes_for j (side_of (world_after first) id).table x.uptime heard.table heard.uptime)
      (sym ((sound first).fits id).same_id)

  pub offers : BothOffers x.number x.seed (clashes_heard (side_of (world_after first) id) x heard) (world_after first).past
  offers = subst (λ (l : List Clash). BothOffers x.number x.seed l (world_after first).past) all_for
      (both_offers (world_after first).past (sound first).one id x.number x.seed x.uptime _ heard.uptime heard.table
      ours theirs)

  -- the same offers after such events
  offers_then : (rulings : List (Option Judged)) (events : List Event) → Now rulings events →
      BothOffers x.number x.seed (clashes_heard (side_of (world_after first) id) x heard)
      (world_after (events ++ first)).past
  offers_then rulings events n =
      let o = offers in
      record {
        a = o.a;
        b = o.b;
        is_a = ap (offer_by A x.number) n.offers_are ∙ o.is_a;
        is_b = ap (offer_by B x.number) n.offers_are ∙ o.is_b;
        seed_a = o.seed_a;
        seed_b = o.seed_b;
        all_is = o.all_is;
      }

  -- a clash that is judged in round 0 has its ruling, also where it was judged before
  has_ruling : (rulings : List (Option Judged)) (events : List Event) → Now rulings events → (k : ℕ) (c : Clash) →
      slice_get (clashes_heard (side_of (world_after first) id) x heard) k ≡ Some c →
      IsRuled x.number x.seed (clashes_heard (side_of (world_after first) id) x heard) k c
      (happens (world_after (events ++ first)) (Judges x.number k the_round)).past
  has_ruling rulings events n k c at = by_found (ruling_at x.number k (world_after (events ++ first)).past.rulings) refl
    where
      by_found : (o : Option Ruling) → ruling_at x.number k (world_after (events ++ first)).past.rulings ≡ o →
          IsRuled x.number x.seed (clashes_heard (side_of (world_after first) id) x heard) k c
          (happens (world_after (events ++ first)) (Judges x.number k the_round)).past
      by_found None is =
          let past = (world_after (events ++ first)).past in
          let r = ruling_of x.number k (word_of x.seed the_round (length all) k) c in
          let o = offers_then rulings events n in
          let new = judgings_add (events ++ first) x.number k the_round r refl is (due_in_round o k c at) in
          record {
            ruling = r;
            found =
                ap (ruling_at x.number k) new
                ∙ (λ i. cond (eq-eqb x.number x.number refl i && eq-eqb k k refl i) (Some r)
                (ruling_at x.number k past.rulings));
            clash_is = refl;
            judged_is = refl;
          }
      by_found (Some r) is =
          let past = (world_after (events ++ first)).past in
          let fits = (sound (events ++ first)).ruled x.number k r is in
          let sent = λ (offer : Offer) (h : Has (world_after first).past.offers offer).
          subst (λ (l : List Offer). Has l offer) (sym n.offers_are) h in
          let same = same_clashes (sound (events ++ first)).one x.number k r fits id x.seed x.uptime heard.uptime
          (side_of (world_after first) id).table heard.table (sent _ ours) (sent _ theirs) in
          let lists : clashes fits.a fits.uptime_a fits.b fits.uptime_b
          ≡ clashes_heard (side_of (world_after first) id) x heard = sym same.0 ∙ all_for in
          let clash : r.clash ≡ c =
          some_inj (sym fits.of_clash ∙ ap (λ (l : List Clash). slice_get l k) lists ∙ at) in
          let word = n.ruled k r is in
          let answers = (lawful (clashes fits.a fits.uptime_a fits.b fits.uptime_b) fits.seed k r.judged r.clash
          fits.of_clash fits.lawful).answers in
          record {
            ruling = r;
            found =
                ap (λ (o : Option Ruling). ruling_at x.number k (if is_none o
                then cons_option (ruling_on x.number k the_round (offer_by A x.number past.offers)
                (offer_by B x.number past.offers)) past.rulings else past.rulings)) is
                ∙ is;
            clash_is = clash;
            judged_is = λ i. record {
              word = word i;
              answer = (answers ∙ (λ j. answer (clash j) (word j))) i;
            };
          }

  -- judging in round 0
  judged : (rulings : List (Option Judged)) (events : List Event) (k : ℕ) → Now rulings events →
      Now rulings (Judges x.number k the_round ∷ events)
  judged rulings events k n = record {
    of_round = n.of_round;
    side_is = judge_sides (world_after (events ++ first)) x.number k the_round id ∙ n.side_is;
    other_is = judge_sides (world_after (events ++ first)) x.number k the_round (other id) ∙ n.other_is;
    offers_are = n.offers_are;
    lists_are = n.lists_are;
    ruled = still;
  }
    where
      still : (j : ℕ) (r : Ruling) →
          ruling_at x.number j (judge (world_after (events ++ first)).past x.number k the_round) ≡ Some r →
          r.judged.word
          ≡ word_of x.seed the_round (length (clashes_heard (side_of (world_after first) id) x heard)) j
      still j r e =
          let past = (world_after (events ++ first)).past in
          let o = offers_then rulings events n in
          ⊎_elim
          (λ same. n.ruled j r (sym (ap (ruling_at x.number j) same) ∙ e))
          (λ new. ⊎_elim
          (λ h.
          let key : k ≡ j = sym new.same_k ∙ h.1.1 in
          sym (ap (λ (y : Ruling). y.judged.word) h.0)
          ∙ word_in_round o k new.ruling new.made
          ∙ ap (word_of x.seed the_round (length all)) key)
          (λ old. n.ruled j r old)
          (at_more new.ruling past.rulings x.number j r (sym (ap (ruling_at x.number j) new.rulings_are) ∙ e)))
          (judge_cases past x.number k the_round)

  -- the side takes the ruling of the next clash
  taken : (front rest : List (Option Judged)) (events : List Event) (c : Clash) →
      slice_get (clashes_heard (side_of (world_after first) id) x heard) (length front) ≡ Some c →
      Now (front ++ None ∷ rest) events →
      IsRuled x.number x.seed (clashes_heard (side_of (world_after first) id) x heard) (length front) c
      (world_after (events ++ first)).past →
      let judge = judged_in x.seed the_round (length (clashes_heard (side_of (world_after first) id) x heard)) in
      Now (front ++ Some (judge (length front) c) ∷ rest) (Tells id x.number (length front) ∷ events)
  taken front rest events c at n r = record {
    of_round = ap (λ b. b && list_all (is_settling id) events) (itself id) ∙ n.of_round;
    side_is =
        ap (λ (v : World). side_of v id) told
        ∙ side_now (world_after (events ++ first)) id _ _ _ refl;
    other_is =
        ap (λ (v : World). side_of v (other id)) told
        ∙ others_kept (world_after (events ++ first)) id _ _
        ∙ n.other_is;
    offers_are = ap (λ (p : Past). p.offers) same_past ∙ n.offers_are;
    lists_are = ap (λ (p : Past). p.lists) same_past ∙ n.lists_are;
    ruled = λ j s e. n.ruled j s (sym (ap (λ (p : Past). ruling_at x.number j p.rulings) same_past) ∙ e);
  }
    where
      took : take (side_of (world_after (events ++ first)) id) x.number (length front)
          (judged_in x.seed the_round (length (clashes_heard (side_of (world_after first) id) x heard)) (length front) c)
          ≡ Some (held (front ++ Some (judged_in x.seed the_round
          (length (clashes_heard (side_of (world_after first) id) x heard)) (length front) c) ∷ rest))
      took =
          ap (λ (s : Side). take s x.number (length front) (judged_in x.seed the_round
          (length (clashes_heard (side_of (world_after first) id) x heard)) (length front) c)) n.side_is
          ∙ take_next (side_of (world_after first) id) x heard the_round (omega arith) front rest c at

      told : happens (world_after (events ++ first)) (Tells id x.number (length front))
          ≡ with_side (world_after (events ++ first)) id (world_after (events ++ first)).past
          (Some (held (front ++ Some (judged_in x.seed the_round
          (length (clashes_heard (side_of (world_after first) id) x heard)) (length front) c) ∷ rest)))
      told =
          let v = world_after (events ++ first) in
          ap (λ (o : Option Ruling). called_if v id
          (option_map (λ (ruling : Ruling). Take x.number (length front) ruling.judged) o)) r.found
          ∙ (λ i. called v id (Take x.number (length front) (r.judged_is i)))
          ∙ ap (λ (o : Option Side). with_side v id v.past o) took

      same_past : (happens (world_after (events ++ first)) (Tells id x.number (length front))).past
          ≡ (world_after (events ++ first)).past
      same_past = ap (λ (v : World). v.past) told ∙ past_is (world_after (events ++ first)) id _ _

  -- all clashes from k on
  rest_settled : (cs before : List Clash) → before ++ cs ≡ clashes_heard (side_of (world_after first) id) x heard →
      (front rest : List (Option Judged)) → length front ≡ length before → (k : ℕ) → k ≡ length front →
      (events : List Event) → Now (front ++ rest) events →
      let judge = judged_in x.seed the_round (length (clashes_heard (side_of (world_after first) id) x heard)) in
      (more : List Event) × Now (front ++ filled judge k cs rest) more
  rest_settled [] before whole front rest same k is events n = (events, n)
  rest_settled (c ∷ cs) before whole front [] same k is events n = (events, n)
  rest_settled (c ∷ cs) before whole front (Some j ∷ rest) same k is events n =
      let judge = judged_in x.seed the_round (length (clashes_heard (side_of (world_after first) id) x heard)) in
      let r = rest_settled cs (before ++ c ∷ []) (append_assoc before (c ∷ []) cs ∙ whole) (front ++ Some j ∷ []) rest
      (length-seam front (Some j) ∙ ap suc same ∙ sym (length-seam before c)) (suc k)
      (ap suc is ∙ sym (length-seam front (Some j))) events
      (subst (λ (l : List (Option Judged)). Now l events) (sym (append_assoc front (Some j ∷ []) rest)) n) in (
        r.0,
        subst (λ (l : List (Option Judged)). Now l r.0) (append_assoc front (Some j ∷ [])
            (filled judge (suc k) cs rest)) r.1,
      )
  rest_settled (c ∷ cs) before whole front (None ∷ rest) same k is events n =
      let judge = judged_in x.seed the_round (length (clashes_heard (side_of (world_after first) id) x heard)) in
      let at : slice_get (clashes_heard (side_of (world_after first) id) x heard) (length front) ≡ Some c =
      ap (λ (n : ℕ). slice_get (clashes_heard (side_of (world_after first) id) x heard) n) same
      ∙ ap (λ (l : List Clash). slice_get l (length before)) (sym whole) ∙ at_seam before cs c in
      let one = judged (front ++ None ∷ rest) events (length front) n in
      let two = taken front rest (Judges x.number (length front) the_round ∷ events) c at one
      (has_ruling (front ++ None ∷ rest) events n (length front) c at) in
      let both = Tells id x.number (length front) ∷ Judges x.number (length front) the_round ∷ events in
      let there = subst (λ (m : ℕ). Now (front ++ Some (judge m c) ∷ rest) both) (sym is) two in
      let r = rest_settled cs (before ++ c ∷ []) (append_assoc before (c ∷ []) cs ∙ whole)
      (front ++ Some (judge k c) ∷ []) rest
      (length-seam front (Some (judge k c)) ∙ ap suc same ∙ sym (length-seam before c)) (suc k)
      (ap suc is ∙ sym (length-seam front (Some (judge k c)))) both
      (subst (λ (l : List (Option Judged)). Now l both) (sym (append_assoc front (Some (judge k c) ∷ []) rest)) there) in (
        r.0,
        subst (λ (l : List (Option Judged)). Now l r.0) (append_assoc front (Some (judge k c) ∷ [])
            (filled judge (suc k) cs rest)) r.1,
      )

-- ---- settling

nothing_settles : (history : List Event) (id : SideId) → settled the_round (side_of (world_after history) id)
    ≡ side_of (world_after history) id → (events : List Event) × IsSettling history id events
nothing_settles history id same =
    ([], record { of_round = refl; side = sym same; others = λ j e. refl; offers = refl; lists = refl })

other_than : (j id : SideId) → not (is_side j id) ≡ true → j ≡ other id
other_than A A e = cc
other_than A B e = refl
other_than B A e = refl
other_than B B e = cc

pub settles : (history : List Event) → SettlesByEvents history
settles history id ruled = by_open (side_of (world_after history) id).exchange refl
  where
    by_heard : (x : Exchange) → (side_of (world_after history) id).exchange ≡ Some x → (o : Option Heard) →
        x.heard ≡ o → (events : List Event) × IsSettling history id events
    by_heard x opened None was =
        let side = side_of (world_after history) id in
        nothing_settles history id (unheard the_round side
        (ap (option_and_then (λ (y : Exchange). option_map (clashes_heard side y) y.heard)) opened
        ∙ ap (option_map (clashes_heard side x)) was)).same
    by_heard x opened (Some heard) was =
        let side = side_of (world_after history) id in
        let all = clashes_heard side x heard in
        let heard_is : heard_clashes side ≡ Some all =
        ap (option_and_then (λ (y : Exchange). option_map (clashes_heard side y) y.heard)) opened
        ∙ ap (option_map (clashes_heard side x)) was in
        let judge = judged_in x.seed the_round (length all) in
        let begins : side
        ≡ record side { exchange = Some (record x { heard = Some (record heard { rulings = heard.rulings }) }) } =
        ap (λ (o : Option Exchange). record side { exchange = o }) opened
        ∙ ap (λ (o : Option Heard). record side { exchange = Some (record x { heard = o }) }) was in
        let r = rest_settled history id x heard opened was all [] refl [] heard.rulings refl 0 refl [] record {
          of_round = refl;
          side_is = begins;
          other_is = refl;
          offers_are = refl;
          lists_are = refl;
          ruled = λ k s e. ruled x all k s opened heard_is e;
        } in (
          r.0,
          record {
            of_round = r.1.of_round;
            side =
                r.1.side_is
                ∙ sym (ap (λ (s : Side). settled the_round s) begins);
            others = λ j e.
                subst (λ (i : SideId). side_of (world_after (r.0 ++ history)) i ≡ side_of (world_after history) i)
                (sym (other_than j id e)) r.1.other_is;
            offers = r.1.offers_are;
            lists = r.1.lists_are;
          },
        )

    by_open : (o : Option Exchange) → (side_of (world_after history) id).exchange ≡ o →
        (events : List Event) × IsSettling history id events
    by_open None opened =
        let side = side_of (world_after history) id in
        nothing_settles history id (unheard the_round side
        (ap (option_and_then (λ (y : Exchange). option_map (clashes_heard side y) y.heard)) opened)).same
    by_open (Some x) opened = by_heard x opened x.heard refl
