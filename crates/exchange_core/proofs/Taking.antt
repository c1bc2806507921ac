-- A ruling that nothing refuses is taken.
use Rattle.std.proofs.Common.{◌≡◌, ℕ, Bool, true, false, not, ◌&&◌, ◌==◌, if◌then◌else◌, length, List, [], Option, Some, None, is_some, slice_get, refl, ap, ◌∙◌, subst, option_map, option_and_then}
use Rattle.std.specs.Option.{option_map_or}
use Rattle.builtin_resolvers.specs.declared.verdicts.Verdict3.{Verdict3}
use Rattle.partition_table.specs.Tables.{Clash, same_clash, answer}
use Rattle.exchange_core.specs.declared.fault.SideFault.TheVariants.{NotHealing, StrangeRuling, JournalFull, OtherNumber}
use Rattle.exchange_law.specs.Sides.{Judged, Heard, Exchange, Side, is_one_of_four, clashes_heard, clashes_of, has_clash, is_lawful, put_ruling, take_heard, take_in, take}
use Rattle.exchange_core.specs.Refusals.{is_strange, take_fault_in, take_fault}
use Rattle.exchange_law.specs.laws.Rulings.{lawful_is, has_clash_is, clashes_are}

made_so : {X Y : Type 0} (f : X → Y) (b : Bool) (x : X) → b ≡ true
    → is_some (option_map f (if b then Some x else None)) ≡ true
made_so f true x e = refl
made_so f false x e = cc

none_there : (clash : Clash) (k : ℕ) → option_map_or (same_clash clash) (slice_get [] k) false ≡ true → ⊥
none_there clash k e = cc

-- what no refusal leaves of the tests
fitting : (same strange full : Bool) →
    (if same && strange then Some StrangeRuling
    else (if full then Some JournalFull else (if not same then Some OtherNumber else None))) ≡ None →
    (same ≡ true) × (strange ≡ false)
fitting true true full e = cc
fitting true false full e = (refl, refl)
fitting false strange true e = cc
fitting false strange false e = cc

both : (has one : Bool) → not (has && one) ≡ false → (has ≡ true) × (one ≡ true)
both true true e = (refl, refl)
both true false e = cc
both false one e = cc

pub takeable : (full : Bool) (side : Side) (number k : ℕ) (clash : Clash) (word : ℕ) (said : Verdict3) →
    take_fault full side number k clash word ≡ None → said ≡ answer clash word →
    is_some (take side number k (record { word = word; answer = said })) ≡ true
takeable full side number k clash word said e same = by_open side.exchange refl e
  where
    by_heard : (x : Exchange) → side.exchange ≡ Some x → (o : Option Heard) → x.heard ≡ o →
        has_clash side k clash ≡ true → is_one_of_four word x.seed (length (clashes_of side)) k ≡ true →
        is_some
        (option_map (λ (y : Exchange). record side { exchange = Some y })
        (option_and_then (take_heard (clashes_of side) k (record { word = word; answer = said }) x) o)) ≡ true
    by_heard x opened None is has one =
        let empty : clashes_of side ≡ [] =
        ap (λ (o : Option Exchange). option_map_or (λ (y : Exchange). option_map_or (clashes_heard side y) y.heard []) o
        [])
        opened ∙ ap (λ (o : Option Heard). option_map_or (clashes_heard side x) o []) is in
        absurd (none_there clash k
        (subst (λ (l : List Clash). option_map_or (same_clash clash) (slice_get l k) false ≡ true) empty has))
    by_heard x opened (Some heard) is has one =
        let at : slice_get (clashes_of side) k ≡ Some clash =
        ap (λ (l : List Clash). slice_get l k) (clashes_are side x heard opened is)
        ∙ has_clash_is side x heard k clash opened is has in
        let judged : Judged = record { word = word; answer = said } in
        let lawful : is_lawful (clashes_of side) x.seed k judged ≡ true =
        ap (λ (v : Verdict3). is_lawful (clashes_of side) x.seed k (record { word = word; answer = v })) same
        ∙ lawful_is (clashes_of side) x.seed k word clash at ∙ one in
        made_so (λ (y : Exchange). record side { exchange = Some y }) (is_lawful (clashes_of side) x.seed k judged)
        (record x { heard = Some (record heard { rulings = put_ruling heard.rulings k judged }) }) lawful

    by_number : (x : Exchange) (b : Bool) (o : Option Exchange) → b ≡ true →
        is_some (option_map (λ (y : Exchange). record side { exchange = Some y }) o) ≡ true →
        is_some (option_map (λ (y : Exchange). record side { exchange = Some y }) (if b then o else None)) ≡ true
    by_number x true o t h = h
    by_number x false o t h = cc

    by_open : (o : Option Exchange) → side.exchange ≡ o →
        option_map_or (take_fault_in full side number k clash word) o (Some NotHealing) ≡ None →
        is_some
        (option_map (λ (y : Exchange). record side { exchange = Some y })
        (option_and_then (take_in (clashes_of side) number k (record { word = word; answer = said })) o)) ≡ true
    by_open None opened e = cc
    by_open (Some x) opened e =
        let f = fitting (x.number == number) (is_strange side x k clash word) full e in
        let h = both (has_clash side k clash) (is_one_of_four word x.seed (length (clashes_of side)) k) f.1 in
        by_number x (x.number == number)
        (option_and_then (take_heard (clashes_of side) k (record { word = word; answer = said }) x) x.heard) f.0
        (by_heard x opened x.heard refl h.0 h.1)
