-- A merge, name by name.
use Rattle.std.proofs.Common.{◌≡◌, ◌⊎◌, ℕ, ◌+◌, Bool, true, false, cond, if◌then◌else◌, not, ◌&&◌, ◌||◌, Option, Some, None, is_some, IfSome, Bor, List, [], ◌∷◌, map, refl, ap, sym, subst, ◌∙◌, inl, inr, arith}
use Rattle.std.proofs.lemmas.Map.Keys.{sorted_head, sorted_tail}
use Rattle.std.specs.List.{AllByRecursion}
use Rattle.std.specs.Option.{option_map}
use Rattle.std.specs.declared.cmp.Ordering.TheVariants.{Less}
use Rattle.std.specs.Ordering.{eq_by_cmp, is_eq, is_lt}
use Rattle.std.specs.Cmp.{Equal-is}
use Rattle.std.specs.FinMap.{get, empty, insert, keys, entries, entries_sorted, len, len-empty, len-insert, get-empty, get-insert}
use Rattle.std.specs.FinMap.Entries.{is_sorted, below_all}
use Rattle.std.specs.List.Sorted.{IsStrictlySortedBy}
use Rattle.std.proofs.lemmas.Bool.{and_parts}
use Rattle.clash_record.specs.declared.registrations.Registration.{Registration}
use Rattle.clash_record.specs.Orders.{name_cmp, registration_cmp}
use Rattle.clash_record.specs.laws.Orders.{names_total, names_exact}
use Rattle.builtin_resolvers.specs.declared.verdicts.Verdict3.{Verdict3}
use Rattle.builtin_resolvers.specs.declared.verdicts.Verdict3.TheVariants.{First, Second, Neither}
use Rattle.clash_record.specs.Name.{Name}
use Rattle.partition_table.specs.Tables.{Row, Table, merged_at, winner, same_registration, holds, unless_gone, with_row, names_without}
use Rattle.partition_table.specs.model.Merging.{IsRowOf, IsReady}
use Rattle.partition_table.proofs.Walks.{flipped, is_less}
use Rattle.upload_store.specs.laws.Mapped.{to_true}
use Rattle.partition_table.proofs.OneClash.{keys_length}

winner_is : (r s : Row) (x : Verdict3) → IfSome (winner r s x) (λ row. (Some r ≡ Some row) ⊎ (Some s ≡ Some row))
winner_is r s First = by (is_lt (registration_cmp r.registration s.registration))
  where
    by : (b : Bool) → (Some r ≡ Some (if b then r else s)) ⊎ (Some s ≡ Some (if b then r else s))
    by true = inl refl
    by false = inr refl
winner_is r s Second = by (is_lt (registration_cmp r.registration s.registration))
  where
    by : (b : Bool) → (Some r ≡ Some (if b then s else r)) ⊎ (Some s ≡ Some (if b then s else r))
    by true = inr refl
    by false = inl refl
winner_is r s Neither = tt

-- what is kept is what one of the two has
merged_is : (r s : Option Row) (x : Verdict3) → IfSome (merged_at r s x) (λ row. (r ≡ Some row) ⊎ (s ≡ Some row))
merged_is None None x = tt
merged_is None (Some s) x = inr refl
merged_is (Some r) None x = inl refl
merged_is (Some r) (Some s) x = by (same_registration r.registration s.registration)
  where
    by : (b : Bool) → IfSome (if b then Some r else winner r s x) (λ row. (Some r ≡ Some row) ⊎ (Some s ≡ Some row))
    by true = inl refl
    by false = winner_is r s x

module _ (a b : Table) where
  pub merged_of : (n : Name) (x : Verdict3) → IfSome (merged_at (get a n) (get b n) x) (IsRowOf a b n)
  merged_of n x = merged_is (get a n) (get b n) x

  -- what is settled is a row of one of the two
  pub kept_held : (n : Name) (row : Option Row) → IfSome row (IsRowOf a b n) → (kept : Option (Bor Registration))
      → option_map (λ kept. kept.now) kept ≡ option_map (λ row. row.registration) row
      → IfSome kept (λ kept. (row : Row) × IsRowOf a b n row × (row.registration ≡ kept.now))
  kept_held n row of_row None e = tt
  kept_held n None of_row (Some kept) e = absurd (cc)
  kept_held n (Some row) of_row (Some kept) e = (row, of_row, (cc))

  still_fresh : (n : Name) (row : Row) (t : Table) (ns : List Name) → AllByRecursion (λ m. get t m ≡ None) ns
      → AllByRecursion (λ m. name_cmp n m ≡ Less) ns → AllByRecursion (λ m. get (insert t n row) m ≡ None) ns
  still_fresh n row t [] fresh above = tt
  still_fresh n row t (m ∷ ns) fresh above = (
    get-insert names_total t n row m ∙ ap (λ b. cond b (Some row) (get t m)) (ap is_eq (flipped n m Less above.0))
        ∙ fresh.0,
    still_fresh n row t ns fresh.1 above.1,
  )

  -- once a name has its row, the table is ready for the others
  pub ready_next : (n : Name) (ns : List Name) (room : ℕ) (t : Table) → IsReady a b (n ∷ ns) room t → (row : Option Row)
      → IfSome row (IsRowOf a b n) → IsReady a b ns room (with_row n row t)
  ready_next n ns room t ready None of_row = record {
    part = ready.part;
    fresh = ready.fresh.1;
    apart = sorted_tail name_cmp n ns ready.apart;
    few = let few = ready.few in omega arith;
  }
  ready_next n ns room t ready (Some row) of_row = record {
    part = λ q r h. by q r (eq_by_cmp name_cmp q n) refl (sym (get-insert names_total t n row q) ∙ h);
    fresh = still_fresh n row t ns ready.fresh.1 (sorted_head name_cmp n ns ready.apart);
    apart = sorted_tail name_cmp n ns ready.apart;
    few =
        let few = ready.few in
        let longer : len (insert t n row) ≡ len t + 1 =
        len-insert names_total t n row ∙ ap (λ b. cond b (len t) (len t + 1)) (ap is_some ready.fresh.0) in
        omega arith;
  }
    where
      by : (q : Name) (r : Row) (x : Bool) → eq_by_cmp name_cmp q n ≡ x → cond x (Some row) (get t q) ≡ Some r
          → IsRowOf a b q r
      by q r true e h =
          let is : row ≡ r = cc in
          let at : n ≡ q = sym (names_exact q n ((Equal-is (name_cmp q n)).0 e)) in
          subst (λ m. IsRowOf a b m r) at (subst (IsRowOf a b n) is of_row)
      by q r false e h = ready.part q r h

-- what isn't withdrawn is kept
pub unless_gone_of : (P : Row → Type 0) (r s : Option Row) (p q : Bool) (o : Option Row) → IfSome o P
    → IfSome (unless_gone r s p q o) P
unless_gone_of P r s p q o h = by ((p && holds r o) || (q && holds s o))
  where
    by : (b : Bool) → IfSome (if b then None else o) P
    by true = tt
    by false = h

pub own_row : (a b : Table) (n : Name) (o : Option Row) → get b n ≡ o → IfSome o (IsRowOf a b n)
own_row a b n None e = tt
own_row a b n (Some row) e = inr e

none_shown : (o : Option Row) → option_map (λ row. row.registration) o ≡ None → o ≡ None
none_shown None e = refl
none_shown (Some r) e = absurd (cc)

-- a name that the first lacks
pub lacked : (a : Table) (n : Name) (mine : Option (Bor Registration))
    → option_map (λ row. row.registration) (get a n) ≡ option_map (λ r. r.now) mine
    → is_some mine ≡ false → get a n ≡ None
lacked a n None met e = none_shown (get a n) met
lacked a n (Some r) met e = absurd (cc)

pub without_step : (a : Table) (n : Name) (ns : List Name) → get a n ≡ None
    → names_without a (n ∷ ns) ≡ n ∷ names_without a ns
without_step a n ns none = ap (λ o. cond (not (is_some o)) (n ∷ names_without a ns) (names_without a ns)) none

-- the keys of a table are in order
sorted_names : (es : List (Name × Row)) → is_sorted name_cmp es ≡ true → IsStrictlySortedBy name_cmp (map (λ e. e.0) es)
unfolding IsStrictlySortedBy
sorted_names [] h = tt
sorted_names (e ∷ es) h = let both = and_parts _ _ h in (above e.0 es both.0, sorted_names es both.1)
  where
    above : (k : Name) (es : List (Name × Row)) → below_all name_cmp k es ≡ true
        → AllByRecursion (λ m. name_cmp k m ≡ Less) (map (λ e. e.0) es)
    above k [] h = tt
    above k (e ∷ es) h = let both = and_parts _ _ h in (is_less (name_cmp k e.0) both.0, above k es both.1)

pub keys_sorted : (table : Table) → IsStrictlySortedBy name_cmp (keys table)
keys_sorted table = sorted_names (entries table) (to_true _ (entries_sorted table))

pub all_lacked : (ns : List Name) → AllByRecursion (λ n. get (empty {X = Row} {R = name_cmp}) n ≡ None) ns
all_lacked [] = tt
all_lacked (n ∷ ns) = (get-empty name_cmp n, all_lacked ns)

-- an empty table is ready for the names of the first
pub ready_empty : (a b : Table) → IsReady a b (keys a) (len a) empty
ready_empty a b = record {
  part = λ q row h. let both : None ≡ Some row = sym (get-empty name_cmp q) ∙ h in absurd (cc);
  fresh = all_lacked (keys a);
  apart = keys_sorted a;
  few = omega (arith, len-empty name_cmp Row, keys_length a);
}
