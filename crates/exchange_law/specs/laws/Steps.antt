-- Every step keeps what every step keeps, and takes nothing away.
use Rattle.std.proofs.Common.{◌≡◌, ◌⊎◌, ℕ, ◌<◌, Bool, true, false, cond, ◌&&◌, nat_lt, if◌then◌else◌, List, [], ◌∷◌, ◌++◌, length, Option, Some, None, is_none, slice_get, eqb-true, ltb-true, ◌==◌, refl, sym, ap, ◌∙◌, subst, ⊎_elim, inl, inr, option_map, suc}
use Rattle.std.proofs.lemmas.Bool.{and_parts}
use Rattle.std.specs.List.{cons_option}
use Rattle.clash_record.specs.declared.side_id.SideId.{SideId}
use Rattle.clash_record.specs.declared.side_id.SideId.TheVariants.{A, B}
use Rattle.partition_table.specs.Tables.{Clash, word_of}
use Rattle.exchange_law.specs.Sides.{Offer, Withdrawals, Side, is_side}
use Rattle.exchange_law.specs.Calls.{Call, Register, Unregister, Begin, Hear, Take, Withdraw, Close_list, Hear_list, Finish, Abandon, carried_out}
use Rattle.exchange_law.specs.Worlds.{Ruling, Past, World, first_world, Event, Does, Hears, Hears_list, Tells, Judges, side_of, with_side, called, called_if, ruling_at, offer_by, ruling_of, clashes_between, ruling_on, judge, happens, world_after}
use Rattle.exchange_law.specs.laws.Carried.{some_inj}
use Rattle.exchange_law.specs.laws.Kept.{Has, made, SideFits, OneEach, RulingFits, ruling_fits_on, RulingsFit, Sound, IsSent, Grows, grows_refl, NothingNew, is_idle, same_side, side_fits_on}
use Rattle.exchange_law.specs.laws.Rulings.{lawful_passes}
use Rattle.exchange_law.specs.laws.Sent.{Keeps, call_keeps}

-- the side with its past, next to another that has nothing new
sides_fit : (w : World) (id : SideId) (new : Side) (more : Past) → Sound w → Keeps id new w.past more → (j : SideId) →
    SideFits j (side_of (with_side w id more (Some new)) j) (with_side w id more (Some new)).past
sides_fit w A new more s k A = k.fits
sides_fit w A new more s k B = side_fits_on k.grows k.not_theirs (s.fits B)
sides_fit w B new more s k A = side_fits_on k.grows k.not_theirs (s.fits A)
sides_fit w B new more s k B = k.fits

pub past_is : (w : World) (id : SideId) (new : Side) (more : Past) → (with_side w id more (Some new)).past ≡ more
past_is w A new more = refl
past_is w B new more = refl

sound_side : (w : World) (id : SideId) (more : Past) → Sound w → (o : Option Side) →
    ((new : Side) → o ≡ Some new → Keeps id new w.past more) → Sound (with_side w id more o)
sound_side w id more s None keeps = s
sound_side w id more s (Some new) keeps =
    let k = keeps new refl in
    record {
      fits = sides_fit w id new more s k;
      one = subst OneEach (sym (past_is w id new more)) (k.one s.one);
      ruled =
          subst RulingsFit (sym (past_is w id new more))
          (λ number j ruling e.
          ruling_fits_on k.grows (s.ruled number j ruling (ap (ruling_at number j) (sym k.same_rulings) ∙ e)));
    }

grows_side : (w : World) (id : SideId) (more : Past) → (o : Option Side) →
    ((new : Side) → o ≡ Some new → Keeps id new w.past more) → Grows w.past (with_side w id more o).past
grows_side w id more None keeps = grows_refl w.past
grows_side w id more (Some new) keeps = subst (Grows w.past) (sym (past_is w id new more)) (keeps new refl).grows

-- what each step keeps
record Steps (w v : World) : Type 0 where
  sound : Sound v
  grows : Grows w.past v.past

stays : (w : World) → Sound w → Steps w w
stays w s = record { sound = s; grows = grows_refl w.past }

step_called : (w : World) → Sound w → (id : SideId) (call : Call) → IsSent w.past call →
    Steps w (called w id call)
step_called w s id call sent =
    let keeps =
    λ (new : Side) (e : carried_out (side_of w id) call ≡ Some new). call_keeps (s.fits id) call sent new e in
    record { sound = sound_side w id _ s _ keeps; grows = grows_side w id _ _ keeps }

step_called_if : (w : World) → Sound w → (id : SideId) (o : Option Call) →
    ((call : Call) → o ≡ Some call → IsSent w.past call) → Steps w (called_if w id o)
step_called_if w s id None sent = stays w s
step_called_if w s id (Some call) sent = step_called w s id call (sent call refl)

step_does : (w : World) → Sound w → (id : SideId) (call : Call) → Steps w (happens w (Does id call))
step_does w s id (Hear offer) = stays w s
step_does w s id (Take number k judged) = stays w s
step_does w s id (Hear_list sent) = stays w s
step_does w s id (Register name row) = step_called w s id (Register name row) tt
step_does w s id (Unregister name) = step_called w s id (Unregister name) tt
step_does w s id (Begin number seed uptime) = step_called w s id (Begin number seed uptime) tt
step_does w s id (Withdraw name) = step_called w s id (Withdraw name) tt
step_does w s id Close_list = step_called w s id Close_list tt
step_does w s id Finish = step_called w s id Finish tt
step_does w s id Abandon = step_called w s id Abandon tt

-- a ruling is made

-- the two offers and the clash of which a ruling is made
pub record Made (number k round : ℕ) (a b : Option Offer) (r : Ruling) : Type 0 where
  pub of_a : Offer
  pub of_b : Offer
  pub is_a : a ≡ Some of_a
  pub is_b : b ≡ Some of_b
  pub seeds : of_a.seed ≡ of_b.seed
  pub clash : Clash
  pub at : slice_get (clashes_between of_a of_b) k ≡ Some clash
  pub ruling_is : ruling_of number k (word_of of_a.seed round (length (clashes_between of_a of_b)) k) clash ≡ r

made_of : (number k round : ℕ) (a b : Option Offer) (r : Ruling) → ruling_on number k round a b ≡ Some r →
    Made number k round a b r
made_of number k round None b r e = absurd (cc)
made_of number k round (Some a) None r e = absurd (cc)
made_of number k round (Some a) (Some b) r e = by_seeds (a.seed == b.seed) refl e
  where
    by_clash : a.seed ≡ b.seed → (o : Option Clash) → slice_get (clashes_between a b) k ≡ o →
        option_map (ruling_of number k (word_of a.seed round (length (clashes_between a b)) k)) o ≡ Some r →
        Made number k round (Some a) (Some b) r
    by_clash seeds None at e = absurd (cc)
    by_clash seeds (Some c) at e = record {
      of_a = a;
      of_b = b;
      is_a = refl;
      is_b = refl;
      seeds = seeds;
      clash = c;
      at = at;
      ruling_is = some_inj e;
    }

    by_seeds : (t : Bool) → (a.seed == b.seed) ≡ t →
        let all = clashes_between a b in
        let due = option_map (ruling_of number k (word_of a.seed round (length all) k)) (slice_get all k) in
        (if t then due else None) ≡ Some r → Made number k round (Some a) (Some b) r
    by_seeds true t e = by_clash (eqb-true _ _ t) _ refl e
    by_seeds false t e = absurd (cc)

pub offer_key : (id : SideId) (number : ℕ) (offers : List Offer) (offer : Offer) → offer_by id number offers ≡ Some offer →
    Has offers (made id number offer.seed offer.uptime offer.table)
offer_key id number [] offer e = cc
offer_key id number (o ∷ os) offer e =
    by_test (is_side o.side id && o.number == number) refl (offer_key id number os offer) e
  where
    by_test : (b : Bool) → (is_side o.side id && o.number == number) ≡ b →
        (offer_by id number os ≡ Some offer → Has os (made id number offer.seed offer.uptime offer.table)) →
        cond b (Some o) (offer_by id number os) ≡ Some offer →
        Has (o ∷ os) (made id number offer.seed offer.uptime offer.table)
    by_test true is rest e =
        let h = and_parts _ _ is in
        let a = same_side _ _ h.0 in let b = eqb-true _ _ h.1 in
        subst (λ (x : Offer). Has (o ∷ os) (made id number x.seed x.uptime x.table)) (some_inj e)
        (0, ap Some (λ i. made (a i) (b i) o.seed o.uptime o.table))
    by_test false is rest e = let h = rest e in (suc h.0, h.1)

made_fits : (past : Past) (number k round : ℕ) (r : Ruling) → round < 4 →
    Made number k round (offer_by A number past.offers) (offer_by B number past.offers) r → RulingFits number k r past
made_fits past number k round r early m = subst (λ x. RulingFits number k x past) m.ruling_is record {
  seed = m.of_a.seed;
  a = m.of_a.table;
  uptime_a = m.of_a.uptime;
  b = m.of_b.table;
  uptime_b = m.of_b.uptime;
  made_a = offer_key A number past.offers m.of_a m.is_a;
  made_b =
      subst (λ x. Has past.offers (made B number x m.of_b.uptime m.of_b.table)) (sym m.seeds)
      (offer_key B number past.offers m.of_b m.is_b);
  of_clash = m.at;
  lawful = lawful_passes (clashes_between m.of_a m.of_b) m.of_a.seed k round m.clash m.at early;
}

-- what a judging that is carried out does
pub record NewRuling (past : Past) (number k round : ℕ) : Type 0 where
  pub ruling : Ruling
  pub rulings_are : judge past number k round ≡ ruling ∷ past.rulings
  pub missing : ruling_at number k past.rulings ≡ None
  pub early : round < 4
  pub made : Made number k round (offer_by A number past.offers) (offer_by B number past.offers) ruling
  pub same_number : ruling.number ≡ number
  pub same_k : ruling.k ≡ k

abbrev due_now : Past → ℕ → ℕ → ℕ → Option Ruling
due_now past number k round =
    ruling_on number k round (offer_by A number past.offers) (offer_by B number past.offers)

pub judge_cases : (past : Past) (number k round : ℕ) →
    (judge past number k round ≡ past.rulings) ⊎ NewRuling past number k round
judge_cases past number k round = by_test (nat_lt round 4 && is_none (ruling_at number k past.rulings)) refl
  where
    by_ruling : (o : Option Ruling) → due_now past number k round ≡ o → ruling_at number k past.rulings ≡ None →
        round < 4 → judge past number k round ≡ cons_option o past.rulings →
        (judge past number k round ≡ past.rulings) ⊎ NewRuling past number k round
    by_ruling None is missing early all = inl all
    by_ruling (Some r) is missing early all =
        let made = made_of number k round (offer_by A number past.offers) (offer_by B number past.offers) r is in
        inr record {
          ruling = r;
          rulings_are = all;
          missing = missing;
          early = early;
          made = made;
          same_number = ap (λ (x : Ruling). x.number) (sym made.ruling_is);
          same_k = ap (λ (x : Ruling). x.k) (sym made.ruling_is);
        }

    by_test : (t : Bool) → (nat_lt round 4 && is_none (ruling_at number k past.rulings)) ≡ t →
        (judge past number k round ≡ past.rulings) ⊎ NewRuling past number k round
    by_test true t =
        let h = and_parts _ _ t in
        by_ruling (due_now past number k round) refl (is_idle _ h.1) (ltb-true _ _ h.0)
        (ap (λ x. cond x (cons_option (due_now past number k round) past.rulings) past.rulings) t)
    by_test false t = inl (ap (λ x. cond x (cons_option (due_now past number k round) past.rulings) past.rulings) t)

-- a look-up after one more ruling
pub at_more : (ruling : Ruling) (rulings : List Ruling) (number k : ℕ) (found : Ruling) →
    ruling_at number k (ruling ∷ rulings) ≡ Some found →
    ((ruling ≡ found) × ((ruling.number ≡ number) × (ruling.k ≡ k))) ⊎ (ruling_at number k rulings ≡ Some found)
at_more ruling rulings number k found e = by_test _ refl e
  where
    by_test : (b : Bool) → (ruling.number == number && ruling.k == k) ≡ b →
        cond b (Some ruling) (ruling_at number k rulings) ≡ Some found →
        ((ruling ≡ found) × ((ruling.number ≡ number) × (ruling.k ≡ k))) ⊎ (ruling_at number k rulings ≡ Some found)
    by_test true is e = let h = and_parts _ _ is in inl (some_inj e, (eqb-true _ _ h.0, eqb-true _ _ h.1))
    by_test false is e = inr e

grows_judge : (past : Past) (number k round : ℕ) → Grows past (record past { rulings = judge past number k round })
grows_judge past number k round = ⊎_elim
    (λ same. subst (λ l. Grows past (record past { rulings = l })) (sym same) (grows_refl past))
    (λ n. subst (λ l. Grows past (record past { rulings = l })) (sym n.rulings_are)
    record { made_still = λ _ h. h; list_still = λ _ h. h; found_still = still n })
    (judge_cases past number k round)
  where
    still : (n : NewRuling past number k round) (number' k' : ℕ) (found : Ruling) →
        ruling_at number' k' past.rulings ≡ Some found → ruling_at number' k' (n.ruling ∷ past.rulings) ≡ Some found
    still n number' k' found e = by_test _ refl
      where
        by_test : (b : Bool) → (n.ruling.number == number' && n.ruling.k == k') ≡ b →
            cond b (Some n.ruling) (ruling_at number' k' past.rulings) ≡ Some found
        by_test true is =
            let h = and_parts _ _ is in
            let p = sym n.same_number ∙ eqb-true _ _ h.0 in let q = sym n.same_k ∙ eqb-true _ _ h.1 in
            let m = n.missing in
            let e' : ruling_at number k past.rulings ≡ Some found =
            ap (λ (x : ℕ × ℕ). ruling_at x.0 x.1 past.rulings) (λ i. (p i, q i)) ∙ e in
            cc
        by_test false is = e

step_judge : (w : World) → Sound w → (number k round : ℕ) → Steps w (happens w (Judges number k round))
step_judge w s number k round = record {
  sound = record { fits = fit; one = record { one_offer = s.one.one_offer; one_list = s.one.one_list }; ruled = fits_made };
  grows = grows_judge w.past number k round;
}
  where
    none_sent : (id : SideId) → NothingNew id w.past (record w.past { rulings = judge w.past number k round })
    none_sent id = record { offers_were = λ _ h _. h; lists_were = λ _ h _. h }

    fit : (id : SideId) → let v = happens w (Judges number k round) in SideFits id (side_of v id) v.past
    fit A = side_fits_on (grows_judge w.past number k round) (none_sent A) (s.fits A)
    fit B = side_fits_on (grows_judge w.past number k round) (none_sent B) (s.fits B)

    fits_made : RulingsFit (record w.past { rulings = judge w.past number k round })
    fits_made n j r e = ruling_fits_on (grows_judge w.past number k round) (⊎_elim
        (λ same. s.ruled n j r (ap (ruling_at n j) (sym same) ∙ e))
        (λ new. ⊎_elim
        (λ h.
        let p : number ≡ n = sym new.same_number ∙ h.1.0 in
        let q : k ≡ j = sym new.same_k ∙ h.1.1 in
        subst (λ (x : ℕ × (ℕ × Ruling)). RulingFits x.0 x.1.0 x.1.1 w.past) (λ i. (p i, (q i, h.0 i)))
        (made_fits w.past number k round new.ruling new.early new.made))
        (s.ruled n j r)
        (at_more new.ruling w.past.rulings n j r (ap (ruling_at n j) (sym new.rulings_are) ∙ e)))
        (judge_cases w.past number k round))

-- every step

heard_sent : (w : World) (id : SideId) (which : ℕ) (o : Option Offer) → slice_get w.past.offers which ≡ o →
    (call : Call) → option_map Hear o ≡ Some call → IsSent w.past call
heard_sent w id which None is call e = cc
heard_sent w id which (Some offer) is call e = subst (IsSent w.past) (some_inj e) (which, is)

list_sent : (w : World) (id : SideId) (which : ℕ) (o : Option Withdrawals) → slice_get w.past.lists which ≡ o →
    (call : Call) → option_map Hear_list o ≡ Some call → IsSent w.past call
list_sent w id which None is call e = cc
list_sent w id which (Some l) is call e = subst (IsSent w.past) (some_inj e) (which, is)

-- what is found has the number and the place
pub found_key : (number k : ℕ) (rulings : List Ruling) (ruling : Ruling) → ruling_at number k rulings ≡ Some ruling →
    (ruling.number ≡ number) × (ruling.k ≡ k)
found_key number k [] ruling e = cc
found_key number k (r ∷ rs) ruling e = ⊎_elim
    (λ h. subst (λ (x : Ruling). (x.number ≡ number) × (x.k ≡ k)) h.0 h.1)
    (found_key number k rs ruling)
    (at_more r rs number k ruling e)

told_sent : (w : World) → Sound w → (number k : ℕ) (o : Option Ruling) → ruling_at number k w.past.rulings ≡ o →
    (call : Call) → option_map (λ (ruling : Ruling). Take number k ruling.judged) o ≡ Some call → IsSent w.past call
told_sent w s number k None is call e = cc
told_sent w s number k (Some ruling) is call e = subst (IsSent w.past) (some_inj e) record {
  ruling = ruling;
  found = is;
  same = refl;
  fits = s.ruled number k ruling is;
  one = s.one;
}

step : (w : World) (e : Event) → Sound w → Steps w (happens w e)
step w (Does id call) s = step_does w s id call
step w (Hears id which) s = step_called_if w s id _ (heard_sent w id which _ refl)
step w (Hears_list id which) s = step_called_if w s id _ (list_sent w id which _ refl)
step w (Tells id number k) s = step_called_if w s id _ (told_sent w s number k _ refl)
step w (Judges number k round) s = step_judge w s number k round

none : {X P : Type 0} {x : X} → Has [] x → P
none h = let e = h.1 in cc

first_fits : (id : SideId) → SideFits id (side_of first_world id) first_world.past
first_fits A = record { same_id = refl; covers = λ _ h. none h; covers_list = λ _ h. none h; open_fits = λ _ e. absurd (cc) }
first_fits B = record { same_id = refl; covers = λ _ h. none h; covers_list = λ _ h. none h; open_fits = λ _ e. absurd (cc) }

pub sound : (history : List Event) → Sound (world_after history)
sound [] = record {
  fits = first_fits;
  one = record { one_offer = λ o p h. none h; one_list = λ o p h. none h };
  ruled = λ number k ruling e. absurd (cc);
}
sound (e ∷ earlier) = (step (world_after earlier) e (sound earlier)).sound

pub step_grows : (earlier : List Event) (e : Event) → Grows (world_after earlier).past (world_after (e ∷ earlier)).past
step_grows earlier e = (step (world_after earlier) e (sound earlier)).grows

pub grows_on : (later earlier : List Event) → Grows (world_after earlier).past (world_after (later ++ earlier)).past
grows_on [] earlier = grows_refl _
grows_on (e ∷ later) earlier =
    let g = grows_on later earlier in let h = step_grows (later ++ earlier) e in
    record {
      made_still = λ o m. h.made_still o (g.made_still o m);
      list_still = λ l m. h.list_still l (g.list_still l m);
      found_still = λ n k r f. h.found_still n k r (g.found_still n k r f);
    }
