-- The table that rows make that were pushed one by one.
use Rattle.std.proofs.Common.{◌≡◌, Bool, true, false, cond, Option, Some, None, List, [], ◌∷◌, ◌++◌, reverse, refl, ap, sym, ◌∙◌}
use mathlib.Core.List.{reverse-cons}
use Rattle.std.specs.Option.{option_map, option_or}
use Rattle.std.specs.declared.cmp.Ordering.{Ordering}
use Rattle.std.specs.Ordering.{eq_by_cmp}
use Rattle.std.specs.Cmp.{IsTotalOrder, eq_by_cmp_equiv}
use Rattle.std.specs.Map.{lookup, update, update_all}
use Rattle.std.specs.BTreeMap.{BTreeMap, is_at, IsFromIterResult}
use Rattle.std.specs.FinMap.{same_map}
use Rattle.clash_record.specs.declared.registrations.Registration.{Registration}
use Rattle.clash_record.specs.Orders.{name_cmp}
use Rattle.clash_record.specs.laws.Orders.{names_total, names_exact}
use Rattle.upload_store.specs.Programs.{Programs}
use Rattle.clash_record.specs.Name.{Name}
use Rattle.partition_table.specs.Tables.{row_for}
use Rattle.partition_table.specs.Views.{table_by}
use Rattle.partition_table.proofs.Held.{get_row}

cond_or : {X : Type 0} (b : Bool) (x : X) (o p : Option X)
    → cond b (Some x) (option_or o p) ≡ option_or (cond b (Some x) o) p
cond_or true x o p = refl
cond_or false x o p = refl

or_cond : {X : Type 0} (b : Bool) (x : X) (p : Option X) → cond b (Some x) p ≡ option_or (cond b (Some x) None) p
or_cond true x p = refl
or_cond false x p = refl

or_or : {X : Type 0} (o p q : Option X) → option_or o (option_or p q) ≡ option_or (option_or o p) q
or_or None p q = refl
or_or (Some x) p q = refl

or_none : {X : Type 0} (o : Option X) → option_or o None ≡ o
or_none None = refl
or_none (Some x) = refl

module _ {K X : Type 0} {R : K → K → Ordering} (o : IsTotalOrder R) where
  lookup_pushed : (q : K) (es : List (K × X)) (e : K × X) → lookup (is_at (R q)) (es ++ e ∷ [])
      ≡ option_or (lookup (is_at (R q)) es) (cond (is_at (R q) e.0) (Some e.1) None)
  lookup_pushed q [] e = refl
  lookup_pushed q (d ∷ es) e =
      ap (cond (is_at (R q) d.0) (Some d.1)) (lookup_pushed q es e)
      ∙ cond_or (is_at (R q) d.0) d.1 (lookup (is_at (R q)) es) (cond (is_at (R q) e.0) (Some e.1) None)

  -- pairs that are put in turn leave what the last of a key has
  latest : (f : K → Option X) (es : List (K × X)) (q : K)
      → update_all (eq_by_cmp R) f es q ≡ option_or (lookup (is_at (R q)) (reverse es)) (f q)
  latest f [] q = refl
  latest f (e ∷ es) q =
      let found = lookup (is_at (R q)) (reverse es) in
      let last = cond (is_at (R q) e.0) (Some e.1) None in
      latest (update (eq_by_cmp R) f e.0 (Some e.1)) es q
      ∙ ap (option_or found) (ap (λ b. cond b (Some e.1) (f q)) ((eq_by_cmp_equiv o).symm e.0 q)
      ∙ or_cond (is_at (R q) e.0) e.1 (f q))
      ∙ or_or found last (f q)
      ∙ ap (λ l. option_or l (f q)) (sym (lookup_pushed q (reverse es) e))
      ∙ ap (λ l. option_or (lookup (is_at (R q)) l) (f q)) (sym (reverse-cons e es))

-- the map of rows makes the table that they make, the last first
pub made_of : (programs : Programs) (rows : List (Name × Registration)) (n : BTreeMap Name Registration)
    → IsFromIterResult name_cmp rows n → table_by programs n.entries ≡ table_by programs (reverse rows)
made_of programs rows n made = same_map names_total names_exact _ _ (λ q.
    get_row programs n.entries q
    ∙ ap (option_map (row_for programs)) (made.0 q ∙ latest names_total (λ _. None) rows q
    ∙ or_none (lookup (is_at (name_cmp q)) (reverse rows)))
    ∙ sym (get_row programs (reverse rows) q))
