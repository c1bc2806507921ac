-- The refusals of an offer that are left when nothing is due early.
use Rattle.std.proofs.Common.{◌≡◌, ◌≤◌, ◌==◌, ◌&&◌, ℕ, Bool, true, false, not, nat_le, if◌then◌else◌, Option, Some, None, is_some, is_none, refl, ap, sym, ◌∙◌, arith, option_map, option_and_then}
use Rattle.std.proofs.lemmas.Bool.{and_parts, and_from, leb-true}
use Rattle.std.proofs.lemmas.Bool.Decides.{nat_tests}
use Rattle.std.specs.Option.{option_map_or}
use Rattle.clash_record.specs.declared.side_id.SideId.{SideId}
use Rattle.clash_record.specs.declared.side_id.SideId.TheVariants.{A, B}
use Rattle.partition_table.specs.Tables.{Table, most_names, union_len, tables_agree, fit_together}
use Rattle.partition_table.specs.Faults.{fit_fault}
use Rattle.partition_table.specs.declared.fault.TableFault.TheVariants.{TooManyNames, OtherCode}
use Rattle.exchange_core.specs.declared.fault.SideFault.TheVariants.{NotHealing, SeedDiffers, JournalFull, OtherNumber, OwnOffer}
use Rattle.exchange_core.specs.declared.fault.SideFault.TheVariants as of
use Rattle.exchange_law.specs.Sides.{Offer, Heard, Exchange, Side, is_side, is_theirs, fit_for, heard_of, hear_first, hear_in, hear}
use Rattle.exchange_core.specs.Refusals.{union_for, agree_for, first_offer_fault, is_first_offer, sent_fault, hear_fault_in, hear_fault}
use Rattle.exchange_core.specs.model.Early.{early_offer_fault, early_hear_fault_in, early_hear_fault}
use Rattle.exchange_core.specs.model.Hearing.{has_heard}
use Rattle.exchange_core.specs.model.Pairing.{fit_fault_for}

-- a sender and number to which nothing is due
theirs_by : (a b : Bool) → (if not a then Some OtherNumber else (if b then Some OwnOffer else None)) ≡ None →
    (a && not b) ≡ true
theirs_by true true e = cc
theirs_by true false e = refl
theirs_by false b e = cc

-- two tables fit together if they fit into a limit
fits_by : (limit : ℕ) (a b : Table) → limit ≤ most_names → fit_fault limit a b ≡ None → fit_together a b ≡ true
fits_by limit a b most e = by (union_len a b) (tables_agree a b) e
  where
    below : (n : ℕ) → nat_le n limit ≡ true → nat_le n most_names ≡ true
    below n h = let few = leb-true n limit h in let more : n ≤ most_names = omega (arith, few, most) in grind (arith, nat_tests)

    by : (n : ℕ) (b : Bool) → (if not (nat_le n limit) then Some TooManyNames else (if not b then Some OtherCode else None)) ≡ None →
        (nat_le n most_names && b) ≡ true
    by n b e = by_tests (nat_le n limit) b refl e
      where
        by_tests : (c b : Bool) → nat_le n limit ≡ c → (if not c then Some TooManyNames else (if not b then Some OtherCode else None)) ≡ None →
            (nat_le n most_names && b) ≡ true
        by_tests true true is e = and_from _ _ (below n is) refl
        by_tests true false is e = cc
        by_tests false b is e = cc

pub fits_for : (limit : ℕ) (id : SideId) (own other : Table) → limit ≤ most_names →
    fit_fault_for limit id own other ≡ None → fit_for id own other ≡ true
fits_for limit A own other most e = fits_by limit own other most e
fits_for limit B own other most e = fits_by limit other own most e

module _ (limit : ℕ) (side : Side) (offer : Offer) (early : early_hear_fault limit false side offer ≡ None) where
  early_in : (x : Exchange) → side.exchange ≡ Some x → early_hear_fault_in limit false side offer x ≡ None
  early_in x opened =
      ap (λ (o : Option Exchange). option_map_or (early_hear_fault_in limit false side offer) o (Some NotHealing))
      (sym opened) ∙ early

  theirs : (x : Exchange) → side.exchange ≡ Some x → is_theirs side.id x offer.side offer.number ≡ true
  theirs x opened = by (is_first_offer side.id x offer) refl (early_in x opened)
    where
      by : (b : Bool) → is_first_offer side.id x offer ≡ b →
          (if b then early_offer_fault limit false side x offer
          else sent_fault false side.id x offer.side offer.number) ≡ None →
          is_theirs side.id x offer.side offer.number ≡ true
      by true is e = (and_parts _ _ is).1
      by false is e = theirs_by (x.number == offer.number) (is_side side.id offer.side) e

  pub is_open : is_some side.exchange ≡ true
  is_open = by side.exchange early
    where
      by : (o : Option Exchange) → option_map_or (early_hear_fault_in limit false side offer) o (Some NotHealing) ≡ None →
          is_some o ≡ true
      by None e = cc
      by (Some x) e = refl

  -- a second offer
  module _ (heard : has_heard side ≡ true) where
    pub due_again : hear_fault limit false side offer ≡ None
    due_again = by side.exchange refl heard
      where
        by : (o : Option Exchange) → side.exchange ≡ o → option_map_or (λ x. is_some x.heard) o false ≡ true →
            option_map_or (hear_fault_in limit false side offer) o (Some NotHealing) ≡ None
        by None opened h = cc
        by (Some x) opened h = by_heard x.heard refl h (early_in x opened)
          where
            by_heard : (o : Option Heard) → x.heard ≡ o → is_some o ≡ true →
                (if is_none o && is_theirs side.id x offer.side offer.number
                then early_offer_fault limit false side x offer
                else sent_fault false side.id x offer.side offer.number) ≡ None →
                (if is_none x.heard && is_theirs side.id x offer.side offer.number
                then first_offer_fault limit false side x offer
                else sent_fault false side.id x offer.side offer.number) ≡ None
            by_heard None is h e = cc
            by_heard (Some heard) is h e =
                ap (λ (o : Option Heard). if is_none o && is_theirs side.id x offer.side offer.number
                then first_offer_fault limit false side x offer
                else sent_fault false side.id x offer.side offer.number) is ∙ e

    pub hears_again : hear side offer ≡ Some side
    hears_again = by side.exchange refl heard
      where
        by : (o : Option Exchange) → side.exchange ≡ o → option_map_or (λ x. is_some x.heard) o false ≡ true →
            option_map (λ exchange. record side { exchange = Some exchange })
            (option_and_then (hear_in side.id side.table offer) o) ≡ Some side
        by None opened h = cc
        by (Some x) opened h =
            ap (option_map (λ exchange. record side { exchange = Some exchange }))
            (ap (λ b. if b
            then (if is_some x.heard then Some x else hear_first side.id side.table offer x)
            else None) (theirs x opened)
            ∙ ap (λ b. if b then Some x else hear_first side.id side.table offer x) h)
            ∙ ap (λ (o : Option Exchange). Some (record side { exchange = o })) (sym opened)

  -- the first offer
  module _ (unheard : has_heard side ≡ false) where
    first_in : (x : Exchange) → side.exchange ≡ Some x → x.heard ≡ None
    first_in x opened =
        by x.heard (ap (λ (o : Option Exchange). option_map_or (λ (x : Exchange). is_some x.heard) o false) (sym opened) ∙ unheard)
      where
        by : (o : Option Heard) → is_some o ≡ false → o ≡ None
        by None e = refl
        by (Some heard) e = cc

    is_first : (x : Exchange) → side.exchange ≡ Some x → is_first_offer side.id x offer ≡ true
    is_first x opened =
        ap (λ (o : Option Heard). is_none o && is_theirs side.id x offer.side offer.number) (first_in x opened)
        ∙ theirs x opened

    one_seed : (x : Exchange) → side.exchange ≡ Some x → (x.seed == offer.seed) ≡ true
    one_seed x opened =
        by (x.seed == offer.seed)
        (ap (λ b. if b then early_offer_fault limit false side x offer
        else sent_fault false side.id x offer.side offer.number) (sym (is_first x opened)) ∙ early_in x opened)
      where
        by : (b : Bool) → (if not b then Some SeedDiffers else None) ≡ None → b ≡ true
        by true e = refl
        by false e = cc

    -- what is due is why the tables don't fit together
    pub due_first : hear_fault limit false side offer ≡ option_map of.Table (fit_fault_for limit side.id side.table offer.table)
    due_first = by side.exchange refl is_open
      where
        by_tests : (a b : Bool) →
            (if not a then Some (of.Table TooManyNames) else (if not b then Some (of.Table OtherCode) else None))
            ≡ option_map of.Table (if not a then Some TooManyNames else (if not b then Some OtherCode else None))
        by_tests true true = refl
        by_tests true false = refl
        by_tests false b = refl

        tests : (id : SideId) (own other : Table) →
            (if not (nat_le (union_for id own other) limit) then Some (of.Table TooManyNames)
            else (if not (agree_for id own other) then Some (of.Table OtherCode) else None))
            ≡ option_map of.Table (fit_fault_for limit id own other)
        tests A own other = by_tests (nat_le (union_len own other) limit) (tables_agree own other)
        tests B own other = by_tests (nat_le (union_len other own) limit) (tables_agree other own)

        by : (o : Option Exchange) → side.exchange ≡ o → is_some o ≡ true →
            option_map_or (hear_fault_in limit false side offer) o (Some NotHealing)
            ≡ option_map of.Table (fit_fault_for limit side.id side.table offer.table)
        by None opened h = cc
        by (Some x) opened h =
            ap (λ b. if b then first_offer_fault limit false side x offer
            else sent_fault false side.id x offer.side offer.number) (is_first x opened)
            ∙ ap (λ b. if not b then Some SeedDiffers
            else (if not (nat_le (union_for side.id side.table offer.table) limit) then Some (of.Table TooManyNames)
            else (if not (agree_for side.id side.table offer.table) then Some (of.Table OtherCode) else None)))
            (one_seed x opened)
            ∙ tests side.id side.table offer.table

    pub hears_first : limit ≤ most_names → fit_fault_for limit side.id side.table offer.table ≡ None →
        is_some (hear side offer) ≡ true
    hears_first most none = by side.exchange refl is_open
      where
        by : (o : Option Exchange) → side.exchange ≡ o → is_some o ≡ true →
            is_some (option_map (λ exchange. record side { exchange = Some exchange })
            (option_and_then (hear_in side.id side.table offer) o)) ≡ true
        by None opened h = cc
        by (Some x) opened h =
            ap (λ b. is_some (option_map (λ exchange. record side { exchange = Some exchange })
            (if b then (if is_some x.heard then Some x else hear_first side.id side.table offer x) else None)))
            (theirs x opened)
            ∙ ap (λ (o : Option Heard). is_some (option_map (λ exchange. record side { exchange = Some exchange })
            (if is_some o then Some x else hear_first side.id side.table offer x))) (first_in x opened)
            ∙ ap (λ b. is_some (option_map (λ exchange. record side { exchange = Some exchange })
            (if b then Some (record x { heard = Some (heard_of side.id side.table x offer) }) else None)))
            (and_from _ _ (one_seed x opened) (fits_for limit side.id side.table offer.table most none))
