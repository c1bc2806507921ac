-- The first name that repeats an earlier one.
use Rattle.std.proofs.Common.{◌≡◌, ℕ, zero, suc, ◌+◌, ◌-◌, ◌<◌, ◌≤◌, Bool, true, false, cond, List, [], ◌∷◌, ◌++◌, length, take, drop, Some, None, refl, sym, ap, subst, ◌∙◌, append_assoc, append-nil, arith, get_or, add-one, drop-cons, length-drop}
use Rattle.std.specs.Prelude.{not, slice_get}
use Rattle.std.specs.List.{AllByRecursion, IsDistinct}
use Rattle.std.specs.Ordering.{is_lt, is_eq, ordering_reverse}
use Rattle.std.specs.declared.cmp.Ordering.{Ordering}
use Rattle.std.specs.declared.cmp.Ordering.TheVariants.{Less, Equal, Greater}
use Rattle.std.specs.BTreeSet.{BTreeSet, Updates, contains}
use Rattle.std.proofs.lemmas.Bool.{or_parts}
use Rattle.std.proofs.lemmas.List.{take_more, nil_from_length}
use Rattle.std.proofs.lemmas.List.Folds.{list_any-append}
use Rattle.clash_record.specs.Name.{Name}
use Rattle.clash_record.specs.Orders.{name_cmp}
use Rattle.clash_record.specs.laws.Orders.{names_total}
use Rattle.partition_table.specs.Tables.{is_in, is_same_name, most_names}
use Rattle.exchange_law.specs.Lists.{IsNameList}
use Rattle.exchange_core.specs.Repeats.{first_again}
use Rattle.exchange_core.specs.model.Listing.{IsSetOf}
use Rattle.exchange_law.specs.laws.Replays.{is_name_equivalence, none_apart}
use Rattle.exchange_core.proofs.Listing.{one_more_listed}

-- a name after names other than it
apart_after : (name n : Name) (names : List Name) → AllByRecursion (λ y. is_same_name n y ≡ false) names →
    is_same_name name n ≡ false → AllByRecursion (λ y. is_same_name n y ≡ false) (names ++ name ∷ [])
apart_after name n [] h e = (is_name_equivalence.symm n name ∙ e, tt)
apart_after name n (m ∷ names) h e = (h.0, apart_after name n names h.1 e)

one_more_apart : (names : List Name) (name : Name) → IsDistinct is_same_name names → is_in name names ≡ false →
    IsDistinct is_same_name (names ++ name ∷ [])
unfolding IsDistinct
one_more_apart [] name h e = (tt, tt)
one_more_apart (n ∷ names) name h e =
    let parts = or_parts (is_same_name name n) (is_in name names) e in
    (apart_after name n names h.0 parts.0, one_more_apart names name h.1 parts.1)

by_first : (b : Bool) (before : List Name) (k : ℕ) (name : Name) (names : List Name) → is_in name before ≡ b
    → cond b (Some k) (first_again (before ++ name ∷ []) (k + 1) names) ≡ None
    → (is_in name before ≡ false) × (first_again (before ++ name ∷ []) (k + 1) names ≡ None)
by_first true before k name names e h = absurd cc
by_first false before k name names e h = (e, h)

-- names of which none repeats an earlier one are distinct
apart_on : (before : List Name) (k : ℕ) (names : List Name) → IsDistinct is_same_name before
    → first_again before k names ≡ None → IsDistinct is_same_name (before ++ names)
apart_on before k [] apart none = subst (IsDistinct is_same_name) (sym (append-nil before)) apart
apart_on before k (name ∷ names) apart none =
    let first = by_first (is_in name before) before k name names refl none in
    subst (IsDistinct is_same_name) (append_assoc before (name ∷ []) names)
    (apart_on (before ++ name ∷ []) (k + 1) names (one_more_apart before name apart first.0) first.1)

pub is_list : (names : List Name) → length names ≤ most_names → first_again [] 0 names ≡ None → IsNameList names
is_list names few none = record { few = few; distinct = apart_on [] 0 names none_apart none }

-- ---- the loop

-- the set has the names before place k, none of which repeats an earlier one
pub record IsSearched (names : List Name) (k : ℕ) (set : BTreeSet Name) : Type 0 where
  pub seen : IsSetOf set (take k names)
  pub so_far : first_again (take k names) k (drop k names) ≡ first_again [] 0 names

goes_on : (before : List Name) (k : ℕ) (name : Name) (names : List Name) → is_in name before ≡ false
    → first_again before k (name ∷ names) ≡ first_again (before ++ name ∷ []) (k + 1) names
goes_on before k name names e = rw e refl

flipped : (b c : Bool) → c ≡ not b → c ≡ true → b ≡ false
flipped true c e h = absurd cc
flipped false c e h = refl

module _ (names : List Name) (k : ℕ) (name : Name) (within : k < length names) (there : name ≡ get_or names k name) where
  front : take (k + 1) names ≡ take k names ++ name ∷ []
  front = take_more names k name within ∙ ap (λ (n : Name). take k names ++ n ∷ []) (sym there)

  back : drop k names ≡ name ∷ drop (k + 1) names
  back = rw add-one (drop-cons names k name within) ∙ ap (λ (n : Name). n ∷ drop (k + 1) names) (sym there)

module _ (names : List Name) (k : ℕ) (name : Name) (set more : BTreeSet Name) (within : k < length names)
    (there : name ≡ get_or names k name) (s : IsSearched names k set) where
  pub search_on : (added : Bool) → added ≡ not (contains name_cmp set name) → added ≡ true
      → Updates name_cmp set more name true → IsSearched names (k + 1) more
  search_on added new is updates =
      let apart : is_in name (take k names) ≡ false = sym (s.seen name) ∙ flipped _ added new is in
      record {
        seen = subst (IsSetOf more) (sym (front names k name within there)) (one_more_listed set more (take k names) name s.seen updates);
        so_far = ap (λ (ns : List Name). first_again ns (k + 1) (drop (k + 1) names)) (front names k name within there)
            ∙ sym (goes_on (take k names) k name (drop (k + 1) names) apart)
            ∙ ap (first_again (take k names) k) (sym (back names k name within there)) ∙ s.so_far;
      }

-- ---- names in ascending order

reversed : (o : Ordering) → is_lt o ≡ true → is_eq (ordering_reverse o) ≡ false
reversed Less e = refl
reversed Equal e = absurd cc
reversed Greater e = absurd cc

less : (o : Ordering) → is_lt o ≡ true → o ≡ Less
less Less e = refl
less Equal e = absurd cc
less Greater e = absurd cc

other_name : (a name : Name) → is_lt (name_cmp a name) ≡ true → is_same_name name a ≡ false
other_name a name e = ap is_eq (names_total.antisymm name a) ∙ reversed (name_cmp a name) e

some_inj : {A : Type 0} (x y : A) → Some x ≡ Some y → x ≡ y
some_inj x y e = cc

-- no name before place k repeats another, and none is above the last of them
pub record IsAscending (names : List Name) (k : ℕ) : Type 0 where
  pub so_far : first_again (take k names) k (drop k names) ≡ first_again [] 0 names
  pub below : (last name : Name) → slice_get names (k - 1) ≡ Some last → is_lt (name_cmp last name) ≡ true
      → is_in name (take k names) ≡ false

pub ascent_starts : (names : List Name) → IsAscending names 1
ascent_starts [] = record { so_far = refl; below = λ last name e lt. absurd cc }
ascent_starts (x ∷ names) = record {
  so_far = refl;
  below = λ last name e lt.
      rw (other_name x name (ap (λ (n : Name). is_lt (name_cmp n name)) (some_inj x last e) ∙ lt)) refl;
}

pub there_at : (names : List Name) (k : ℕ) (name : Name) → k < length names → name ≡ get_or names k name
    → slice_get names k ≡ Some name
there_at [] k name h e = absurd (omega (arith, h))
there_at (n ∷ names) zero name h e = ap (λ (m : Name). Some m) (sym e)
there_at (n ∷ names) (suc k) name h e = there_at names k name (omega (arith, h)) e

pub ascent_on : (names : List Name) (k : ℕ) (last name : Name) → 1 ≤ k → k < length names
    → last ≡ get_or names (k - 1) last → name ≡ get_or names k name → is_lt (name_cmp last name) ≡ true
    → IsAscending names k → IsAscending names (k + 1)
ascent_on names k last name some within last_is there lt a =
    let before : slice_get names (k - 1) ≡ Some last = there_at names (k - 1) last (omega (arith, some, within)) last_is in
    let here : slice_get names (k + 1 - 1) ≡ Some name =
    ap (slice_get names) (omega arith) ∙ there_at names k name within there in
    let apart : is_in name (take k names) ≡ false = a.below last name before lt in
    let grown : take (k + 1) names ≡ take k names ++ name ∷ [] = front names k name within there in
    record {
      so_far = ap (λ (ns : List Name). first_again ns (k + 1) (drop (k + 1) names)) grown
          ∙ sym (goes_on (take k names) k name (drop (k + 1) names) apart)
          ∙ ap (first_again (take k names) k) (sym (back names k name within there)) ∙ a.so_far;
      below = λ top next e above.
          let same : name ≡ top = some_inj name top (sym here ∙ e) in
          let higher : is_lt (name_cmp name next) ≡ true = ap (λ (n : Name). is_lt (name_cmp n next)) same ∙ above in
          let over : is_lt (name_cmp last next) ≡ true =
          ap is_lt (names_total.trans last name next (less _ lt) (less _ higher)) in
          ap (is_in next) grown ∙ list_any-append (is_same_name next) (take k names) (name ∷ [])
          ∙ rw (a.below last next before over, other_name name next higher) refl;
    }

pub ascent_ends : (names : List Name) (k : ℕ) → length names ≤ k → IsAscending names k → first_again [] 0 names ≡ None
ascent_ends names k all a =
    let none : drop k names ≡ [] = nil_from_length (drop k names) (omega (arith, all, length-drop k names)) in
    sym (sym (ap (first_again (take k names) k) none) ∙ a.so_far)
