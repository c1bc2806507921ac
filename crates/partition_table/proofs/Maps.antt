-- Finite maps, and the entries that they are made of.
use Rattle.std.proofs.Common.{◌≡◌, Bool, true, false, cond, ◌||◌, Option, Some, None, Result, Ok, Err, OnOk, OnErr, List, [], ◌∷◌, map, refl, ap, sym, ◌∙◌}
use Rattle.std.proofs.lemmas.Bool.{and_parts, and_from, or_parts}
use Rattle.std.specs.List.{list_all, list_any}
use Rattle.std.specs.Option.{option_map}
use Rattle.std.specs.declared.cmp.Ordering.{Ordering}
use Rattle.std.specs.declared.cmp.Ordering.TheVariants.{Less, Equal}
use Rattle.std.specs.Ordering.{eq_by_cmp, is_eq, is_lt}
use Rattle.std.specs.Cmp.{IsTotalOrder, Equal-is, tied_itself}
use Rattle.std.specs.Map.{lookup}
use Rattle.std.specs.BTreeMap.{BTreeMap, is_at, Updates}
use Rattle.std.specs.FinMap.{FinMap, IsAntisymmetric, get, insert, remove, entries, values, from_entries, get-entries, entries_sorted, get-insert, get-remove, same_map}
use Rattle.std.specs.FinMap.Entries.{find, is_sorted, below_all}
use Rattle.upload_store.specs.laws.Mapped.{to_true, get-mapped}
use Rattle.partition_table.specs.Views.{mapped}

-- a value that is written over and then written back leaves the map unchanged
pub put_back : {K X : Type 0} {R : K → K → Ordering} → IsAntisymmetric R
    → (m lent n : BTreeMap K X) (k : K) (x before : X)
    → lookup (is_at (R k)) m.entries ≡ Some before → Updates R m lent k (Some x) → Updates R lent n k (Some before)
    → (q : K) → lookup (is_at (R q)) n.entries ≡ lookup (is_at (R q)) m.entries
put_back {R = R} exact m lent n k x before there over back q =
    back.0 q ∙ ap (cond (is_at (R k) q) (Some before)) (over.0 q) ∙ by (is_at (R k) q) refl
  where
    by : (b : Bool) → is_at (R k) q ≡ b
        → cond b (Some before) (cond b (Some x) (lookup (is_at (R q)) m.entries)) ≡ lookup (is_at (R q)) m.entries
    by true e = sym there ∙ ap (λ i. lookup (is_at (R i)) m.entries) (exact k q ((Equal-is (R k q)).0 e))
    by false e = refl

-- a call that fails only where nothing is there succeeds where something is
pub succeeds_there : {A F X P : Type 0} (r : Result A F) (o : Option X) (x : X) → o ≡ Some x
    → OnErr r (o ≡ None) → OnOk r P → P
succeeds_there (Ok a) o x there refused done = done
succeeds_there (Err f) o x there refused done = let both : None ≡ Some x = sym refused ∙ there in absurd (cc)

-- two ways of reading that agree on what is held make one map
pub made_alike : {K X Y : Type 0} {R : K → K → Ordering} (o : IsTotalOrder R) → IsAntisymmetric R → (f g : X → Y)
    → (es : List (K × X)) → ((q : K) (x : X) → lookup (is_at (R q)) es ≡ Some x → f x ≡ g x)
    → from_entries {R = R} (mapped f es) ≡ from_entries {R = R} (mapped g es)
made_alike {K = K} {X = X} {R = R} o exact f g es h = same_map o exact _ _ (λ q.
    get-mapped o f es q ∙ by q (lookup (is_at (R q)) es) refl ∙ sym (get-mapped o g es q))
  where
    by : (q : K) (r : Option X) → lookup (is_at (R q)) es ≡ r → option_map f r ≡ option_map g r
    by q None e = refl
    by q (Some x) e = ap Some (h q x e)

module _ {K X : Type 0} {R : K → K → Ordering} (o : IsTotalOrder R) where
  -- inserting a new key and removing it leaves the map unchanged
  pub remove_insert : IsAntisymmetric R → (m : FinMap R X) (k : K) (x : X) → get m k ≡ None
      → remove (insert m k x) k ≡ m
  remove_insert exact m k x none = same_map o exact _ _ (λ q.
      get-remove o (insert m k x) k q
      ∙ ap (cond (eq_by_cmp R q k) None) (get-insert o m k x q)
      ∙ by q (eq_by_cmp R q k) refl)
    where
      by : (q : K) (b : Bool) → eq_by_cmp R q k ≡ b → cond b None (cond b (Some x) (get m q)) ≡ get m q
      by q true e = sym none ∙ ap (get m) (sym (exact q k ((Equal-is (R q k)).0 e)))
      by q false e = refl

  -- what is there already changes nothing
  pub insert_again : IsAntisymmetric R → (m : FinMap R X) (k : K) (x : X) → get m k ≡ Some x → insert m k x ≡ m
  insert_again exact m k x there = same_map o exact _ _ (λ q. get-insert o m k x q ∙ by q (eq_by_cmp R q k) refl)
    where
      by : (q : K) (b : Bool) → eq_by_cmp R q k ≡ b → cond b (Some x) (get m q) ≡ get m q
      by q true e = sym there ∙ ap (get m) (sym (exact q k ((Equal-is (R q k)).0 e)))
      by q false e = refl

  -- what isn't there needs no removing
  pub remove_absent : IsAntisymmetric R → (m : FinMap R X) (k : K) → get m k ≡ None → remove m k ≡ m
  remove_absent exact m k none = same_map o exact _ _ (λ q. get-remove o m k q ∙ by q (eq_by_cmp R q k) refl)
    where
      by : (q : K) (b : Bool) → eq_by_cmp R q k ≡ b → cond b None (get m q) ≡ get m q
      by q true e = sym none ∙ ap (get m) (sym (exact q k ((Equal-is (R q k)).0 e)))
      by q false e = refl

  pub get-insert_same : (m : FinMap R X) (k : K) (x : X) → get (insert m k x) k ≡ Some x
  get-insert_same m k x =
      get-insert o m k x k ∙ ap (λ b. cond b (Some x) (get m k)) (ap is_eq (tied_itself o k))

  -- nothing is found where all is above
  pub none_below : (q : K) (k : K) (es : List (K × X)) → R q k ≡ Equal → below_all R k es ≡ true → find R q es ≡ None
  none_below q k [] tied h = refl
  none_below q k (e ∷ es) tied h =
      let both = and_parts _ _ h in
      ap (λ b. cond b (Some e.1) (find R q es)) (ap is_eq (o.congr q k e.0 tied ∙ below (R k e.0) both.0))
      ∙ none_below q k es tied both.1
    where
      below : (r : Ordering) → is_lt r ≡ true → r ≡ Less
      below Less e = refl
      below Equal e = absurd (cc)
      below _ e = absurd (cc)

  all_in : (p : X → Bool) (es : List (K × X)) → is_sorted R es ≡ true
      → ((q : K) (x : X) → find R q es ≡ Some x → p x ≡ true) → list_all p (map (λ e. e.1) es) ≡ true
  all_in p [] h each = refl
  all_in p (e ∷ es) h each =
      let both = and_parts _ _ h in
      and_from _ _
      (each e.0 e.1 (ap (λ b. cond b (Some e.1) (find R e.0 es)) (ap is_eq (tied_itself o e.0))))
      (all_in p es both.1 (λ q x found. each q x (by q x both.0 found (eq_by_cmp R q e.0) refl)))
    where
      by : (q : K) (x : X) → below_all R e.0 es ≡ true → find R q es ≡ Some x → (b : Bool) → eq_by_cmp R q e.0 ≡ b
          → cond b (Some e.1) (find R q es) ≡ Some x
      by q x above found true t =
          let none = none_below q e.0 es ((Equal-is (R q e.0)).0 t) above in
          let both : None ≡ Some x = sym none ∙ found in absurd (cc)
      by q x above found false t = found

  -- what holds of all that a map has holds of its values
  pub all_values_from : (m : FinMap R X) (p : X → Bool) → ((q : K) (x : X) → get m q ≡ Some x → p x ≡ true)
      → list_all p (values m) ≡ true
  all_values_from m p each =
      all_in p (entries m) (to_true _ (entries_sorted m)) (λ q x found. each q x (get-entries m q ∙ found))

  found_in : (p : X → Bool) (es : List (K × X)) → list_all p (map (λ e. e.1) es) ≡ true
      → (q : K) (x : X) → find R q es ≡ Some x → p x ≡ true
  found_in p [] h q x found = absurd (cc)
  found_in p (e ∷ es) h q x found = by (found_in p es (and_parts _ _ h).1 q x) (eq_by_cmp R q e.0) found
    where
      by : (find R q es ≡ Some x → p x ≡ true) → (b : Bool) → cond b (Some e.1) (find R q es) ≡ Some x → p x ≡ true
      by rest true same = let is : e.1 ≡ x = cc in ap p (sym is) ∙ (and_parts _ _ h).0
      by rest false found = rest found

  -- and the other way round
  pub all_values_at : (m : FinMap R X) (p : X → Bool) → list_all p (values m) ≡ true
      → (q : K) (x : X) → get m q ≡ Some x → p x ≡ true
  all_values_at m p all q x found = found_in p (entries m) all q x (sym (get-entries m q) ∙ found)

  any_in : (p : X → Bool) (es : List (K × X)) → is_sorted R es ≡ true → list_any p (map (λ e. e.1) es) ≡ true
      → (q : K) × (x : X) × (find R q es ≡ Some x) × (p x ≡ true)
  any_in p [] h some = absurd (cc)
  any_in p (e ∷ es) h some = by (any_in p es (and_parts _ _ h).1) (p e.1) refl some
    where
      by : (list_any p (map (λ e. e.1) es) ≡ true → (q : K) × (x : X) × (find R q es ≡ Some x) × (p x ≡ true))
          → (b : Bool) → p e.1 ≡ b → (b || list_any p (map (λ e. e.1) es)) ≡ true
          → (q : K) × (x : X) × (cond (eq_by_cmp R q e.0) (Some e.1) (find R q es) ≡ Some x) × (p x ≡ true)
      by rest true t some = (e.0, e.1, ap (λ b. cond b (Some e.1) (find R e.0 es)) (ap is_eq (tied_itself o e.0)), t)
      by rest false t some =
          let found = rest some in
          (found.0, found.1, apart found.0 found.1 found.2 (eq_by_cmp R found.0 e.0) refl, found.3)
        where
          apart : (q : K) (x : X) → find R q es ≡ Some x → (b : Bool) → eq_by_cmp R q e.0 ≡ b
              → cond b (Some e.1) (find R q es) ≡ Some x
          apart q x found true t =
              let none = none_below q e.0 es ((Equal-is (R q e.0)).0 t) (and_parts _ _ h).0 in
              let both : None ≡ Some x = sym none ∙ found in absurd (cc)
          apart q x found false t = found

  -- what holds of some value holds of what the map has at some key
  pub any_value_at : (m : FinMap R X) (p : X → Bool) → list_any p (values m) ≡ true
      → (q : K) × (x : X) × (get m q ≡ Some x) × (p x ≡ true)
  any_value_at m p some =
      let found = any_in p (entries m) (to_true _ (entries_sorted m)) some in
      (found.0, found.1, get-entries m found.0 ∙ found.2, found.3)

  none_in : (p : X → Bool) (es : List (K × X)) → list_any p (map (λ e. e.1) es) ≡ false
      → (q : K) (x : X) → find R q es ≡ Some x → p x ≡ false
  none_in p [] h q x found = absurd (cc)
  none_in p (e ∷ es) h q x found = by (none_in p es (or_parts _ _ h).1 q x) (eq_by_cmp R q e.0) found
    where
      by : (find R q es ≡ Some x → p x ≡ false) → (b : Bool) → cond b (Some e.1) (find R q es) ≡ Some x → p x ≡ false
      by rest true same = let is : e.1 ≡ x = cc in ap p (sym is) ∙ (or_parts _ _ h).0
      by rest false found = rest found

  -- what holds of no value holds of nothing that the map has
  pub none_value_at : (m : FinMap R X) (p : X → Bool) → list_any p (values m) ≡ false
      → (q : K) (x : X) → get m q ≡ Some x → p x ≡ false
  none_value_at m p none q x found = none_in p (entries m) none q x (sym (get-entries m q) ∙ found)
