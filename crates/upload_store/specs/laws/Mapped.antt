-- Finite maps that entries make, each value changed.
use Rattle.std.proofs.Common.{◌≡◌, suc, Bool, true, false, cond, Option, Some, None, List, [], ◌∷◌, length, refl, ap, sym, subst, ◌∙◌}
use Rattle.std.proofs.lemmas.Bool.{and_from}
use Rattle.std.proofs.lemmas.Map.Keys.{sorted_head, sorted_tail}
use lib.Dec.{T}
use Rattle.std.specs.List.{AllByRecursion}
use Rattle.std.specs.List.Sorted.{IsStrictlySortedBy}
use Rattle.std.specs.Option.{option_map}
use Rattle.std.specs.declared.cmp.Ordering.{Ordering}
use Rattle.std.specs.declared.cmp.Ordering.TheVariants.{Less}
use Rattle.std.specs.Ordering.{eq_by_cmp, is_lt}
use Rattle.std.specs.Cmp.{IsTotalOrder, eq_by_cmp_equiv}
use Rattle.std.specs.Map.{lookup, keys_of}
use Rattle.std.specs.BTreeMap.{is_at}
use Rattle.std.specs.FinMap.{IsAntisymmetric, get, insert, remove, len, entries, from_entries, from_sorted, len-entries, get-from_entries, get-from_sorted, entries-from_sorted, get-insert, get-remove, same_map}
use Rattle.std.specs.FinMap.Entries.{find, is_sorted, below_all}
use Rattle.upload_store.specs.Programs.{mapped}

from_true : (b : Bool) → b ≡ true → T b
from_true b e = subst T (sym e) tt

pub to_true : (b : Bool) → T b → b ≡ true
to_true true h = refl
to_true false h = absurd h

pub cond_map : {X Y : Type 0} (f : X → Y) (b : Bool) (x : X) (o : Option X) (p : Option Y) → p ≡ option_map f o
    → cond b (Some (f x)) p ≡ option_map f (cond b (Some x) o)
cond_map f true x o p h = refl
cond_map f false x o p h = h

-- the entries have this value at the key, or none, and at each other key what they had
abbrev pub ChangesAt : {K X : Type 0} → (K → K → Ordering) → List (K × X) → List (K × X) → K → Option X → Type 0
ChangesAt {K} R before after k w =
    (q : K) → lookup (is_at (R q)) after ≡ cond (is_at (R k) q) w (lookup (is_at (R q)) before)

length-mapped : {K X Y : Type 0} (f : X → Y) (es : List (K × X)) → length (mapped f es) ≡ length es
length-mapped f [] = refl
length-mapped f (e ∷ es) = ap suc (length-mapped f es)

module _ {K X Y : Type 0} {R : K → K → Ordering} (o : IsTotalOrder R) (f : X → Y) where
  find-mapped : (es : List (K × X)) (q : K) → find R q (mapped f es) ≡ option_map f (lookup (is_at (R q)) es)
  find-mapped [] q = refl
  find-mapped (e ∷ es) q =
      cond_map f (eq_by_cmp R q e.0) e.1 (lookup (is_at (R q)) es) (find R q (mapped f es)) (find-mapped es q)

  -- what the map that the entries make has at a key
  pub get-mapped : (es : List (K × X)) (q : K)
      → get (from_entries {R = R} (mapped f es)) q ≡ option_map f (lookup (is_at (R q)) es)
  get-mapped es q = get-from_entries o (mapped f es) q ∙ find-mapped es q

  below_all-mapped : (k : K) (es : List (K × X)) → AllByRecursion (λ y. R k y ≡ Less) (keys_of es)
      → below_all R k (mapped f es) ≡ true
  below_all-mapped k [] h = refl
  below_all-mapped k (e ∷ es) h = and_from _ _ (ap is_lt h.0) (below_all-mapped k es h.1)

  sorted-mapped : (es : List (K × X)) → IsStrictlySortedBy R (keys_of es) → is_sorted R (mapped f es) ≡ true
  sorted-mapped [] h = refl
  sorted-mapped (e ∷ es) h =
      and_from _ _ (below_all-mapped e.0 es (sorted_head R e.0 (keys_of es) h))
      (sorted-mapped es (sorted_tail R e.0 (keys_of es) h))

  module _ (exact : IsAntisymmetric R) where
    -- entries in order are those of the map that they make
    pub entries-mapped : (es : List (K × X)) → IsStrictlySortedBy R (keys_of es)
        → entries (from_entries {R = R} (mapped f es)) ≡ mapped f es
    entries-mapped es h =
        let sorted = from_true (is_sorted R (mapped f es)) (sorted-mapped es h) in
        ap entries (same_map o exact (from_entries (mapped f es)) (from_sorted (mapped f es))
        (λ q. get-from_entries o (mapped f es) q ∙ sym (get-from_sorted R (mapped f es) q sorted)))
        ∙ entries-from_sorted R (mapped f es) sorted

    pub len-mapped : (es : List (K × X)) → IsStrictlySortedBy R (keys_of es)
        → len (from_entries {R = R} (mapped f es)) ≡ length es
    len-mapped es h =
        len-entries (from_entries (mapped f es)) ∙ ap length (entries-mapped es h) ∙ length-mapped f es

    pub made_inserted : (before after : List (K × X)) (k : K) (x : X) → ChangesAt R before after k (Some x)
        → from_entries {R = R} (mapped f after) ≡ insert (from_entries (mapped f before)) k (f x)
    made_inserted before after k x changes = same_map o exact _ _ (λ q.
        get-mapped after q ∙ ap (option_map f) (changes q)
        ∙ sym (cond_map f (is_at (R k) q) x (lookup (is_at (R q)) before)
        (get (from_entries {R = R} (mapped f before)) q) (get-mapped before q))
        ∙ ap (λ b. cond b (Some (f x)) (get (from_entries {R = R} (mapped f before)) q))
        ((eq_by_cmp_equiv o).symm k q)
        ∙ sym (get-insert o (from_entries (mapped f before)) k (f x) q))

    -- entries that have the same at each key make one map
    pub made_same : (before after : List (K × X))
        → ((q : K) → lookup (is_at (R q)) after ≡ lookup (is_at (R q)) before)
        → from_entries {R = R} (mapped f after) ≡ from_entries (mapped f before)
    made_same before after same = same_map o exact _ _ (λ q.
        get-mapped after q ∙ ap (option_map f) (same q) ∙ sym (get-mapped before q))

    none_map : (b : Bool) (p : Option X) → option_map f (cond b None p) ≡ cond b None (option_map f p)
    none_map true p = refl
    none_map false p = refl

    pub made_removed : (before after : List (K × X)) (k : K) → ChangesAt R before after k None
        → from_entries {R = R} (mapped f after) ≡ remove (from_entries (mapped f before)) k
    made_removed before after k changes = same_map o exact _ _ (λ q.
        get-mapped after q ∙ ap (option_map f) (changes q)
        ∙ none_map (is_at (R k) q) (lookup (is_at (R q)) before)
        ∙ ap (cond (is_at (R k) q) None) (sym (get-mapped before q))
        ∙ ap (λ b. cond b None (get (from_entries {R = R} (mapped f before)) q)) ((eq_by_cmp_equiv o).symm k q)
        ∙ sym (get-remove o (from_entries (mapped f before)) k q))
