-- Each call of a side, with what it sends, keeps what every step keeps.
use Rattle.std.proofs.Common.{◌≡◌, ℕ, zero, suc, ◌<◌, Bool, true, false, if◌then◌else◌, List, [], ◌∷◌, Option, Some, None, ltb-true, ltb-false, le-ltb, refl, sym, ap, ◌∙◌, subst, arith}
use Rattle.std.proofs.lemmas.Bool.{and_parts}
use Rattle.std.specs.Option.{option_map_or}
use Rattle.clash_record.specs.declared.side_id.SideId.{SideId}
use Rattle.exchange_law.specs.Sides.{Offer, Withdrawals, Exchange, Side, new_exchange, is_above, begin, close_in, close_list}
use Rattle.exchange_law.specs.Calls.{Call, Register, Unregister, Begin, Hear, Take, Withdraw, Close_list, Hear_list, Finish, Abandon, carried_out}
use Rattle.exchange_law.specs.Worlds.{Past, offer_of, list_of, past_after}
use Rattle.exchange_law.specs.laws.Carried.{some_inj, goes, when}
use Rattle.exchange_law.specs.laws.Kept.{Has, other, made, Covers, made_list, OpenFits, SideFits, OneEach, IsSent, Grows, grows_refl, NothingNew, heard_grows, is_idle, opposite}
use Rattle.exchange_law.specs.laws.Fits.{register_fits, unregister_fits, hear_fits, take_fits, withdraw_fits, hear_list_fits, finish_fits, abandon_fits}

-- what a call of a side keeps
pub record Keeps (id : SideId) (new : Side) (past more : Past) : Type 0 where
  pub fits : SideFits id new more
  pub grows : Grows past more
  pub same_rulings : more.rulings ≡ past.rulings
  pub not_theirs : NothingNew (other id) past more
  pub one : OneEach past → OneEach more

same_past : {id : SideId} {new : Side} {past : Past} → SideFits id new past → Keeps id new past past
same_past {id} {new} {past} fits = record {
  fits = fits;
  grows = grows_refl past;
  same_rulings = refl;
  not_theirs = record { offers_were = λ _ h _. h; lists_were = λ _ h _. h };
  one = λ h. h;
}

is_fresh : (latest : Option ℕ) (number old : ℕ) → is_above number latest ≡ true → Covers latest old → old < number
is_fresh None number old e c = cc
is_fresh (Some l) number old e c = omega (arith, ltb-true l number e, ltb-false l old c)

-- one more message, where its side sent none of its number: still one for each
one_key : {X : Type 0} (side : X → SideId) (number : X → ℕ) (x : X) (xs : List X) →
    ((y : X) → Has xs y → side y ≡ side x → number y ≡ number x → ⊥) →
    ((o p : X) → Has xs o → Has xs p → side o ≡ side p → number o ≡ number p → o ≡ p) → (o p : X) → Has (x ∷ xs) o →
    Has (x ∷ xs) p → side o ≡ side p → number o ≡ number p → o ≡ p
one_key side number x xs fresh one o p (zero, d) (zero, e) s n = sym (some_inj d) ∙ some_inj e
one_key side number x xs fresh one o p (suc j, d) (suc k, e) s n = one o p (j, d) (k, e) s n
one_key side number x xs fresh one o p (zero, d) (suc k, e) s n =
    let same = some_inj d in
    absurd (fresh p (k, e) (sym s ∙ sym (ap side same)) (sym n ∙ sym (ap number same)))
one_key side number x xs fresh one o p (suc j, d) (zero, e) s n =
    let same = some_inj e in
    absurd (fresh o (j, d) (s ∙ sym (ap side same)) (n ∙ sym (ap number same)))

-- an offer is made

abbrev with_offer : Past → Offer → Past
with_offer past offer = record past { offers = offer ∷ past.offers }

one_more : (offer : Offer) (past : Past) → Grows past (with_offer past offer)
one_more offer past = record { made_still = λ _ h. (suc h.0, h.1); list_still = λ _ h. h; found_still = λ _ _ _ e. e }

-- what a begin that is carried out does
pub record Begun (side new : Side) (number seed uptime : ℕ) : Type 0 where
  pub idle : side.exchange ≡ None
  pub above : is_above number side.latest ≡ true
  pub new_is : record side { exchange = Some (new_exchange number seed uptime); latest = Some number } ≡ new

pub begun : (side new : Side) (number seed uptime : ℕ) → begin side number seed uptime ≡ Some new →
    Begun side new number seed uptime
begun side new number seed uptime e =
    let h = when _ _ _ e in let c = and_parts _ _ h.0 in record { idle = is_idle _ c.0; above = c.1; new_is = h.1 }

module _ {id : SideId} {side : Side} {past : Past} (fits : SideFits id side past) (number seed uptime : ℕ)
    (above : is_above number side.latest ≡ true) where
  -- a list that was sent is of an earlier number
  earlier_list : (l : Withdrawals) → Has past.lists l → l.side ≡ id → l.number < number
  earlier_list l h is = is_fresh side.latest number l.number above (fits.covers_list l h is)

  open_with_ours : OpenFits id side.table (new_exchange number seed uptime)
      (with_offer past (offer_of side number seed uptime))
  open_with_ours = record {
    ours = (0, ap Some (λ i. made (fits.same_id i) number seed uptime side.table));
    heard = λ heard e. cc;
    our_list = λ e. cc;
    no_list = λ e l h is same. absurd (omega (arith, earlier_list l h is, same));
    their_list = λ names e. cc;
  }

  begun_fits :
      SideFits id (record side { exchange = Some (new_exchange number seed uptime); latest = Some number })
      (with_offer past (offer_of side number seed uptime))
  begun_fits = record {
    same_id = fits.same_id;
    covers = covered;
    covers_list = λ l h is. le-ltb _ _ (omega (arith, earlier_list l h is));
    open_fits = λ exchange e.
        subst (λ x. OpenFits id side.table x (with_offer past (offer_of side number seed uptime))) (some_inj e)
        open_with_ours;
  }
    where
      covered : (offer : Offer) → Has (offer_of side number seed uptime ∷ past.offers) offer → offer.side ≡ id →
          Covers (Some number) offer.number
      covered offer (zero, e) is = le-ltb _ _ (omega (arith, ap (λ o. o.number) (some_inj e)))
      covered offer (suc k, e) is =
          le-ltb _ _ (omega (arith, is_fresh side.latest number offer.number above (fits.covers offer (k, e) is)))

  one_offer_more : OneEach past → OneEach (with_offer past (offer_of side number seed uptime))
  one_offer_more one = record {
    one_offer =
        one_key (λ (x : Offer). x.side) (λ (x : Offer). x.number) (offer_of side number seed uptime) past.offers
        (λ y had sides numbers.
        let less = is_fresh side.latest number y.number above (fits.covers y had (sides ∙ fits.same_id)) in
        absurd (omega (arith, less, numbers)))
        one.one_offer;
    one_list = one.one_list;
  }

  not_theirs : NothingNew (other id) past (with_offer past (offer_of side number seed uptime))
  not_theirs = record { offers_were = were; lists_were = λ _ h _. h }
    where
      were : (offer : Offer) → Has (offer_of side number seed uptime ∷ past.offers) offer → offer.side ≡ other id →
          Has past.offers offer
      were offer (zero, e) is = absurd (opposite id (sym fits.same_id ∙ ap (λ o. o.side) (some_inj e) ∙ is))
      were offer (suc k, e) is = (k, e)

  begin_keeps : (new : Side) → Begun side new number seed uptime →
      Keeps id new past (with_offer past (offer_of side number seed uptime))
  begin_keeps new h = record {
    fits = subst (λ x. SideFits id x (with_offer past (offer_of side number seed uptime))) h.new_is begun_fits;
    grows = one_more (offer_of side number seed uptime) past;
    same_rulings = refl;
    not_theirs = not_theirs;
    one = one_offer_more;
  }

-- a list is closed

abbrev with_list : Past → Withdrawals → Past
with_list past l = record past { lists = l ∷ past.lists }

one_list_more : (l : Withdrawals) (past : Past) → Grows past (with_list past l)
one_list_more l past = record { made_still = λ _ h. h; list_still = λ _ h. (suc h.0, h.1); found_still = λ _ _ _ e. e }

-- what closing a list does, where it is carried out
pub record Closing (side new : Side) : Type 0 where
  pub exchange : Exchange
  pub opened : side.exchange ≡ Some exchange
  pub still : exchange.closed ≡ false
  pub new_is : record side { exchange = Some (record exchange { closed = true }) } ≡ new

pub closing : (side new : Side) → close_list side ≡ Some new → Closing side new
closing side new e =
    let g = goes side new close_in e in
    by_test g.before g.after g.opened g.new_is g.before.closed refl g.does
  where
    by_test : (exchange after : Exchange) → side.exchange ≡ Some exchange →
        record side { exchange = Some after } ≡ new → (b : Bool) → exchange.closed ≡ b →
        (if b then None else Some (record exchange { closed = true })) ≡ Some after → Closing side new
    by_test exchange after opened is true t e = cc
    by_test exchange after opened is false t e = record {
      exchange = exchange;
      opened = opened;
      still = t;
      new_is = ap (λ (x : Exchange). record side { exchange = Some x }) (some_inj e) ∙ is;
    }

module _ {id : SideId} {side : Side} {past : Past} (fits : SideFits id side past) (new : Side)
    (c : Closing side new) where
  pub list_is : list_of side ≡ made_list id c.exchange.number c.exchange.withdrawn
  list_is = λ i. record {
    side = fits.same_id i;
    number = option_map_or (λ (x : Exchange). x.number) (c.opened i) 0;
    names = option_map_or (λ (x : Exchange). x.withdrawn) (c.opened i) [];
  }

  closing_fits :
      SideFits id (record side { exchange = Some (record c.exchange { closed = true }) })
      (with_list past (list_of side))
  closing_fits =
      let f = fits.open_fits c.exchange c.opened in
      record {
        same_id = fits.same_id;
        covers = fits.covers;
        covers_list = covered;
        open_fits =
            λ exchange e. subst (λ x. OpenFits id side.table x (with_list past (list_of side))) (some_inj e) record {
              ours = f.ours;
              heard = λ heard is. heard_grows (one_list_more (list_of side) past) (f.heard heard is);
              our_list = λ e. (0, ap Some list_is);
              no_list = λ e. cc;
              their_list = λ names is. let h = f.their_list names is in (suc h.0, h.1);
            };
      }
    where
      covered : (l : Withdrawals) → Has (list_of side ∷ past.lists) l → l.side ≡ id → Covers side.latest l.number
      covered l (zero, e) is =
          subst (Covers side.latest) (ap (λ (x : Withdrawals). x.number) (sym list_is ∙ some_inj e))
          (fits.covers _ (fits.open_fits c.exchange c.opened).ours refl)
      covered l (suc k, e) is = fits.covers_list l (k, e) is

  one_list_still : OneEach past → OneEach (with_list past (list_of side))
  one_list_still one = record {
    one_offer = one.one_offer;
    one_list =
        one_key (λ (x : Withdrawals). x.side) (λ (x : Withdrawals). x.number) (list_of side) past.lists
        (λ y had sides numbers.
        let f = fits.open_fits c.exchange c.opened in
        f.no_list c.still y had (sides ∙ fits.same_id) (numbers ∙ ap (λ (x : Withdrawals). x.number) list_is))
        one.one_list;
  }

  list_not_theirs : NothingNew (other id) past (with_list past (list_of side))
  list_not_theirs = record { offers_were = λ _ h _. h; lists_were = were }
    where
      were : (l : Withdrawals) → Has (list_of side ∷ past.lists) l → l.side ≡ other id → Has past.lists l
      were l (zero, e) is = absurd (opposite id (sym fits.same_id ∙ ap (λ (x : Withdrawals). x.side) (some_inj e) ∙ is))
      were l (suc k, e) is = (k, e)

  close_keeps : Keeps id new past (with_list past (list_of side))
  close_keeps = record {
    fits = subst (λ x. SideFits id x (with_list past (list_of side))) c.new_is closing_fits;
    grows = one_list_more (list_of side) past;
    same_rulings = refl;
    not_theirs = list_not_theirs;
    one = one_list_still;
  }

-- each call of a side

pub call_keeps : {id : SideId} {side : Side} {past : Past} → SideFits id side past → (call : Call)
    → IsSent past call →
    (new : Side) → carried_out side call ≡ Some new → Keeps id new past (past_after past side call)
call_keeps fits (Register name row) sent new e = same_past (register_fits fits name row new e)
call_keeps fits (Unregister name) sent new e = same_past (unregister_fits fits name new e)
call_keeps {id} {side} fits (Begin number seed uptime) sent new e =
    let h = begun side new number seed uptime e in begin_keeps fits number seed uptime h.above new h
call_keeps fits (Hear offer) sent new e = same_past (hear_fits fits offer new sent e)
call_keeps fits (Take number k judged) sent new e = same_past (take_fits fits number k judged new sent e)
call_keeps fits (Withdraw name) sent new e = same_past (withdraw_fits fits name new e)
call_keeps {id} {side} fits Close_list sent new e = close_keeps fits new (closing side new e)
call_keeps fits (Hear_list l) sent new e = same_past (hear_list_fits fits l new sent e)
call_keeps fits Finish sent new e = same_past (finish_fits fits new e)
call_keeps fits Abandon sent new e = same_past (abandon_fits fits new e)
