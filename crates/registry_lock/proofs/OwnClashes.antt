-- The clashes of a side that takes rulings.
use Rattle.std.proofs.Common.{◌≡◌, ℕ, Bool, true, false, ◌==◌, if◌then◌else◌, List, [], ◌∷◌, Option, None, Some, slice_get, refl, sym, ap, ◌∙◌, option_map, option_and_then}
use Rattle.std.specs.Option.{option_map_or}
use Rattle.partition_table.specs.Rulings.{Ruling}
use Rattle.partition_table.specs.Tables.{Clash, same_clash}
use Rattle.partition_table.specs.laws.Sameness.{clash_decides}
use Rattle.exchange_core.specs.declared.side.Side.{Side}
use Rattle.exchange_law.specs.Sides.{Judged, Heard, Exchange, is_lawful, clashes_heard, clashes_of, heard_clashes, has_clash, put_ruling, take_heard, take_in}
use Rattle.exchange_law.specs.Sides as sides
use Rattle.exchange_law.specs.Calls.{Take, carried_out}
use Rattle.exchange_core.specs.Shown.{shown}
use Rattle.verdict_board.specs.Boards.{Pass}
use Rattle.registry_lock.specs.Telling.{all_carried_out, takes_of, HasSeen, IsTold}
use Rattle.registry_lock.proofs.Told.{clash_seen}

some_is : {A : Type 0} (a b : A) → Some a ≡ Some b → a ≡ b
some_is a b e = cc

-- ---- a take leaves them as they are

module _ (s : sides.Side) (all : List Clash) (number k : ℕ) (judged : Judged) where
  module _ (x : Exchange) (opened : s.exchange ≡ Some x) (heard : Heard) (is : x.heard ≡ Some heard) where
    same_heard : (b : Bool) (t : sides.Side)
        → option_map (λ (y : Exchange). record s { exchange = Some y })
        (if b then Some (record x { heard = Some (record heard { rulings = put_ruling heard.rulings k judged }) })
        else None)
        ≡ Some t → heard_clashes t ≡ heard_clashes s
    same_heard true t e =
        ap (λ (u : sides.Side). heard_clashes u) (sym (some_is _ _ e))
        ∙ sym (ap (λ (o : Option Exchange). option_and_then (λ y. option_map (clashes_heard s y) y.heard) o) opened
        ∙ ap (λ (o : Option Heard). option_map (clashes_heard s x) o) is)
    same_heard false t e = absurd (cc)

  same_in : (o : Option Exchange) → s.exchange ≡ o → (t : sides.Side)
      → option_map (λ (y : Exchange). record s { exchange = Some y })
      (option_and_then (take_in all number k judged) o) ≡ Some t
      → heard_clashes t ≡ heard_clashes s
  same_in None opened t e = absurd (cc)
  same_in (Some x) opened t e = by_number (x.number == number) e
    where
      by_heard : (o : Option Heard) → x.heard ≡ o
          → option_map (λ (y : Exchange). record s { exchange = Some y })
          (option_and_then (take_heard all k judged x) o) ≡ Some t
          → heard_clashes t ≡ heard_clashes s
      by_heard None is e = absurd (cc)
      by_heard (Some heard) is e = same_heard x opened heard is (is_lawful all x.seed k judged) t e

      by_number : (b : Bool)
          → option_map (λ (y : Exchange). record s { exchange = Some y })
          (if b then option_and_then (take_heard all k judged x) x.heard else None) ≡ Some t
          → heard_clashes t ≡ heard_clashes s
      by_number true e = by_heard x.heard refl e
      by_number false e = absurd (cc)

same_after : (rulings : List Ruling) (s t : sides.Side) → all_carried_out s (takes_of rulings) ≡ Some t
    → heard_clashes t ≡ heard_clashes s
same_after [] s t e = ap (λ (u : sides.Side). heard_clashes u) (sym (some_is _ _ e))
same_after (r ∷ rulings) s t e =
    by (all_carried_out s (takes_of rulings)) refl e (λ u h. same_after rulings s u h)
  where
    by : (o : Option sides.Side) → all_carried_out s (takes_of rulings) ≡ o
        → option_and_then (λ next. carried_out next (Take r.number r.k r.judged)) o ≡ Some t
        → ((u : sides.Side) → all_carried_out s (takes_of rulings) ≡ Some u → heard_clashes u ≡ heard_clashes s)
        → heard_clashes t ≡ heard_clashes s
    by None h e so_far = absurd (cc)
    by (Some u) h e so_far = same_in u (clashes_of u) r.number r.k r.judged u.exchange refl t e ∙ so_far u h

pub same_when_told : (pass : Pass) (n : ℕ) (old new : Side) → IsTold pass n old new
    → heard_clashes (shown new) ≡ heard_clashes (shown old)
same_when_told pass n old new told = same_after told.rulings (shown old) (shown new) told.carried

-- ---- a ruling that a pass of the board has seen is of one of them

clashes_by : (s : sides.Side) (clashes : List Clash) → heard_clashes s ≡ Some clashes → clashes_of s ≡ clashes
clashes_by s clashes e = by_open s.exchange e
  where
    by_heard : (x : Exchange) (o : Option Heard) → option_map (clashes_heard s x) o ≡ Some clashes
        → option_map_or (clashes_heard s x) o [] ≡ clashes
    by_heard x None e = absurd (cc)
    by_heard x (Some heard) e = some_is _ _ e

    by_open : (o : Option Exchange)
        → option_and_then (λ y. option_map (clashes_heard s y) y.heard) o ≡ Some clashes
        → option_map_or (λ y. option_map_or (clashes_heard s y) y.heard []) o [] ≡ clashes
    by_open None e = absurd (cc)
    by_open (Some x) e = by_heard x x.heard e

pub is_own_clash : (pass : Pass) (side : Side) (ruling : Ruling) → heard_clashes (shown side) ≡ Some pass.place.clashes
    → HasSeen pass ruling → has_clash (shown side) ruling.k ruling.clash ≡ true
is_own_clash pass side ruling own is_seen =
    ap (λ (l : List Clash). option_map_or (same_clash ruling.clash) (slice_get l ruling.k) false)
    (clashes_by (shown side) pass.place.clashes own)
    ∙ ap (λ (o : Option Clash). option_map_or (same_clash ruling.clash) o false) (clash_seen pass ruling is_seen)
    ∙ (clash_decides ruling.clash ruling.clash).1 refl
