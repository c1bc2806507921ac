-- Each call that sends nothing keeps what fits its side.
use Rattle.std.proofs.Common.{◌≡◌, ℕ, Bool, true, false, if◌then◌else◌, length, Option, Some, None, is_some, slice_get, eqb-true, refl, sym, ap, ◌∙◌, subst, option_and_then, List}
use Rattle.std.proofs.lemmas.List.{length-replicate}
use Rattle.std.proofs.lemmas.Bool.{and_parts, not-true}
use Rattle.clash_record.specs.declared.side_id.SideId.{SideId}
use Rattle.clash_record.specs.Name.{Name}
use Rattle.partition_table.specs.Tables.{Clash, Row, Table, clashes}
use Rattle.exchange_law.specs.Sides.{Offer, Withdrawals, Judged, Heard, Exchange, Side, clashes_for, fit_for, clashes_heard, clashes_of, is_lawful, register, unregister, is_theirs, heard_of, hear_first, hear_in, hear, put_ruling, take_heard, take_in, take, withdraw_in, withdraw, hear_list_in, hear_list, finish, abandon}
use Rattle.exchange_law.specs.Worlds.{Past}
use Rattle.exchange_law.specs.laws.Rulings.{Lawful, lawful, clashes_are}
use Rattle.exchange_law.specs.laws.Carried.{some_inj, when, when_some, Goes, goes, found}
use Rattle.exchange_law.specs.laws.Kept.{Has, other, made, made_list, clashes_with, Taken, HeardFits, our_offer, OpenFits, SideFits, same_clashes, IsTold, is_idle, other_side, none_held, length-put_ruling, one_more_ruling}

module _ {id : SideId} {side : Side} {past : Past} (fits : SideFits id side past) where
  -- an idle side with another table
  edit_fits : (table : Table) → side.exchange ≡ None → SideFits id (record side { table = table }) past
  edit_fits table idle = record {
    same_id = fits.same_id;
    covers = fits.covers;
    covers_list = fits.covers_list;
    open_fits = λ exchange e. absurd (cc);
  }

  -- a side that is idle from now on, with another table
  closed_fits : (table : Table) → SideFits id (record side { table = table; exchange = None }) past
  closed_fits table = record {
    same_id = fits.same_id;
    covers = fits.covers;
    covers_list = fits.covers_list;
    open_fits = λ exchange e. absurd (cc);
  }

  -- the exchange goes on
  goes_on : (call : Exchange → Option Exchange) (new : Side) (g : Goes side new call) →
      OpenFits id side.table g.after past → SideFits id new past
  goes_on call new g h = subst (λ s. SideFits id s past) g.new_is record {
    same_id = fits.same_id;
    covers = fits.covers;
    covers_list = fits.covers_list;
    open_fits = λ exchange e. subst (λ x. OpenFits id side.table x past) (some_inj e) h;
  }

  -- with what was heard
  heard_fits : (exchange : Exchange) (heard : Heard) → OpenFits id side.table exchange past →
      HeardFits (our_offer id side.table exchange) heard past →
      OpenFits id side.table (record exchange { heard = Some heard }) past
  heard_fits exchange heard f h = record {
    ours = f.ours;
    heard = λ new e. subst (λ x. HeardFits (our_offer id side.table exchange) x past) (some_inj e) h;
    our_list = f.our_list;
    no_list = f.no_list;
    their_list = f.their_list;
  }

  -- what is theirs is the other side's, of the same number
  theirs_is : (exchange : Exchange) (sender : SideId) (number : ℕ) → is_theirs side.id exchange sender number ≡ true →
      (sender ≡ other id) × (number ≡ exchange.number)
  theirs_is exchange sender number e =
      let h = and_parts _ _ e in
      (other_side _ _ (not-true _ h.1) ∙ ap other fits.same_id, sym (eqb-true _ _ h.0))

  pub register_fits : (name : Name) (row : Row) (new : Side) → register side name row ≡ Some new → SideFits id new past
  register_fits name row new e =
      let h = when _ _ _ e in
      let c = and_parts _ _ h.0 in
      let d = and_parts _ _ c.0 in
      let f = and_parts _ _ d.0 in
      subst (λ s. SideFits id s past) h.1 (edit_fits _ (is_idle _ f.0))

  pub unregister_fits : (name : Name) (new : Side) → unregister side name ≡ Some new → SideFits id new past
  unregister_fits name new e =
      let h = when _ _ _ e in
      let c = and_parts _ _ h.0 in
      subst (λ s. SideFits id s past) h.1 (edit_fits _ (is_idle _ c.0))

  first_heard : (exchange after : Exchange) (offer : Offer) → OpenFits id side.table exchange past →
      Has past.offers offer → (offer.side ≡ other id) × (offer.number ≡ exchange.number) →
      hear_first side.id side.table offer exchange ≡ Some after → OpenFits id side.table after past
  first_heard exchange after offer f has theirs e =
      let h = when _ _ _ e in
      let c = and_parts _ _ h.0 in
      let seeds : exchange.seed ≡ offer.seed = eqb-true _ _ c.0 in
      subst (λ x. OpenFits id side.table x past) h.1
      (heard_fits exchange (heard_of side.id side.table exchange offer) f record {
        theirs = (has.0, has.1 ∙ ap Some (λ i. made (theirs.0 i) (theirs.1 i) (sym seeds i) offer.uptime offer.table));
        fit = ap (λ j. fit_for j side.table offer.table) (sym fits.same_id) ∙ c.1;
        places =
            length-replicate _ _
            ∙ ap (λ j. length (clashes_for j side.table exchange.uptime offer.table offer.uptime)) fits.same_id;
        taken = λ k judged at. absurd (none_held _ k judged at);
      })

  pub hear_fits : (offer : Offer) (new : Side) → Has past.offers offer → hear side offer ≡ Some new →
      SideFits id new past
  hear_fits offer new has e =
      let g = goes side new (hear_in side.id side.table offer) e in
      let h = when_some _ _ _ g.does in
      let f = fits.open_fits g.before g.opened in
      goes_on (hear_in side.id side.table offer) new g
      (by_heard g.before g.after f (theirs_is g.before offer.side offer.number h.0) (is_some g.before.heard) h.1)
    where
      by_heard : (exchange after : Exchange) → OpenFits id side.table exchange past →
          (offer.side ≡ other id) × (offer.number ≡ exchange.number) → (b : Bool) →
          (if b then Some exchange else hear_first side.id side.table offer exchange) ≡ Some after
          → OpenFits id side.table after past
      by_heard exchange after f theirs true e = subst (λ x. OpenFits id side.table x past) (some_inj e) f
      by_heard exchange after f theirs false e = first_heard exchange after offer f has theirs e

  with_ruling : (ours : Offer) (heard : Heard) (k : ℕ) (judged : Judged) →
      Taken (clashes_with ours heard) ours.seed ours.number k judged past → HeardFits ours heard past →
      HeardFits ours (record heard { rulings = put_ruling heard.rulings k judged }) past
  with_ruling ours heard k judged t h = record {
    theirs = h.theirs;
    fit = h.fit;
    places = length-put_ruling heard.rulings k judged ∙ h.places;
    taken =
        one_more_ruling (λ j held. Taken (clashes_with ours heard) ours.seed ours.number j held past) heard.rulings k
        judged t h.taken;
  }

  -- a ruling of the open number is of the side's clash
  its_clash : (exchange : Exchange) (heard : Heard) (k : ℕ) (judged : Judged)
      (told : IsTold exchange.number k judged past) → OpenFits id side.table exchange past →
      exchange.heard ≡ Some heard → slice_get (clashes_heard side exchange heard) k ≡ Some told.ruling.clash
  its_clash exchange heard k judged told f is =
      let t = told.fits in
      let c = same_clashes told.one exchange.number k told.ruling t id exchange.seed exchange.uptime heard.uptime
      side.table heard.table f.ours (f.heard heard is).theirs in
      let all : clashes_heard side exchange heard ≡ clashes t.a t.uptime_a t.b t.uptime_b =
      ap (λ j. clashes_for j side.table exchange.uptime heard.table heard.uptime) fits.same_id ∙ c.0 in
      ap (λ (l : List Clash). slice_get l k) all ∙ t.of_clash

  pub take_fits : (number k : ℕ) (judged : Judged) (new : Side) → IsTold number k judged past →
      take side number k judged ≡ Some new → SideFits id new past
  take_fits number k judged new told e =
      let g = goes side new (take_in (clashes_of side) number k judged) e in
      let h = when_some _ _ _ g.does in
      let f = fits.open_fits g.before g.opened in
      goes_on (take_in (clashes_of side) number k judged) new g
      (by_heard g.before g.after f g.opened (eqb-true _ _ h.0) g.before.heard refl h.1)
    where
      by_heard : (exchange after : Exchange) → OpenFits id side.table exchange past → side.exchange ≡ Some exchange →
          exchange.number ≡ number → (o : Option Heard) → exchange.heard ≡ o →
          option_and_then (take_heard (clashes_of side) k judged exchange) o ≡ Some after
          → OpenFits id side.table after past
      by_heard exchange after f opened same_number None is e = cc
      by_heard exchange after f opened same_number (Some heard) is e =
          let h = when _ _ _ e in
          let sent = subst (λ n. IsTold n k judged past) (sym same_number) told in
          let at = its_clash exchange heard k judged sent f is in
          let test = λ (l : List Clash). is_lawful l exchange.seed k judged in
          let passes = ap test (sym (clashes_are side exchange heard opened is)) ∙ h.0 in
          let l = lawful (clashes_heard side exchange heard) exchange.seed k judged sent.ruling.clash at passes in
          let all = clashes_with (our_offer id side.table exchange) heard in
          let t : Taken all exchange.seed exchange.number k judged past = record {
            ruling = sent.ruling;
            found = sent.found;
            same = sent.same;
            lawful =
                let all = λ (j : SideId). clashes_for j side.table exchange.uptime heard.table heard.uptime in
                subst (λ j. Lawful (all j) exchange.seed k judged sent.ruling.clash) fits.same_id l;
          } in
          subst (λ x. OpenFits id side.table x past) h.1
          (heard_fits exchange _ f (with_ruling _ heard k judged t (f.heard heard is)))

  pub withdraw_fits : (name : Name) (new : Side) → withdraw side name ≡ Some new → SideFits id new past
  withdraw_fits name new e =
      let g = goes side new (withdraw_in side.table name) e in
      let h = when _ _ _ g.does in
      let c = and_parts _ _ h.0 in
      let d = and_parts _ _ c.0 in
      let f = fits.open_fits g.before g.opened in
      let still : g.before.closed ≡ false = not-true _ d.0 in
      goes_on (withdraw_in side.table name) new g (subst (λ x. OpenFits id side.table x past) h.1 record {
        ours = f.ours;
        heard = f.heard;
        our_list = λ e. absurd (cc);
        no_list = f.no_list;
        their_list = f.their_list;
      })

  pub hear_list_fits : (sent : Withdrawals) (new : Side) → Has past.lists sent → hear_list side sent ≡ Some new →
      SideFits id new past
  hear_list_fits sent new has e =
      let g = goes side new (hear_list_in side.id sent) e in
      let h = when _ _ _ g.does in
      let f = fits.open_fits g.before g.opened in
      goes_on (hear_list_in side.id sent) new g
      (subst (λ x. OpenFits id side.table x past) h.1
      (by_list g.before f (theirs_is g.before sent.side sent.number h.0) (is_some g.before.their_list)))
    where
      by_list : (exchange : Exchange) → OpenFits id side.table exchange past →
          (sent.side ≡ other id) × (sent.number ≡ exchange.number) → (b : Bool) →
          OpenFits id side.table (if b then exchange else record exchange { their_list = Some sent.names }) past
      by_list exchange f theirs true = f
      by_list exchange f theirs false = record {
        ours = f.ours;
        heard = f.heard;
        our_list = f.our_list;
        no_list = f.no_list;
        their_list =
            λ names is. subst (λ n. Has past.lists (made_list (other id) exchange.number n)) (some_inj is)
            (has.0, has.1 ∙ ap Some (λ i. made_list (theirs.0 i) (theirs.1 i) sent.names));
      }

  pub finish_fits : (new : Side) → finish side ≡ Some new → SideFits id new past
  finish_fits new e = subst (λ s. SideFits id s past) (found side new e).new_is (closed_fits _)

  pub abandon_fits : (new : Side) → abandon side ≡ Some new → SideFits id new past
  abandon_fits new e = let h = when _ _ _ e in subst (λ s. SideFits id s past) h.1 (closed_fits _)
