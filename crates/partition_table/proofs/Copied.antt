-- A map that is made of rows in order.
use Rattle.std.proofs.Common.{◌≡◌, Result, Ok, Err, IfOk, List, [], ◌∷◌, refl, ap, sym, subst, ◌∙◌}
use Rattle.std.proofs.lemmas.Map.Keys.{IsDistinct-from_sorted}
use Rattle.std.proofs.lemmas.Map.Made.{update_all_none}
use Rattle.std.specs.List.Sorted.{IsStrictlySortedBy}
use Rattle.std.specs.Cmp.{eq_by_cmp_equiv}
use Rattle.std.specs.Ordering.{eq_by_cmp}
use Rattle.std.specs.Map.{keys_of, lookup}
use Rattle.std.specs.BTreeMap.{BTreeMap, is_at, IsFromIterResult}
use Rattle.std.specs.FinMap.{entries}
use Rattle.clash_record.specs.declared.registrations.Registration.{Registration}
use Rattle.clash_record.specs.Orders.{name_cmp}
use Rattle.clash_record.specs.laws.Orders.{names_total, names_exact}
use Rattle.clash_record.specs.Name.{Name}
use Rattle.upload_store.specs.laws.Mapped.{entries-mapped, made_same}
use Rattle.partition_table.specs.Views.{mapped}

mapped_itself : (rows : List (Name × Registration)) → mapped (λ registration. registration) rows ≡ rows
mapped_itself [] = refl
mapped_itself (row ∷ rows) = ap (λ rest. row ∷ rest) (mapped_itself rows)

-- rows in order are known by what they have under each name
pub same_rows : (rows others : List (Name × Registration)) → IsStrictlySortedBy name_cmp (keys_of rows)
    → IsStrictlySortedBy name_cmp (keys_of others)
    → ((q : Name) → lookup (is_at (name_cmp q)) others ≡ lookup (is_at (name_cmp q)) rows) → others ≡ rows
same_rows rows others sorted sorted_others same =
    let itself = λ (registration : Registration). registration in
    sym (mapped_itself others) ∙ sym (entries-mapped names_total itself names_exact others sorted_others)
    ∙ ap entries (made_same names_total itself names_exact rows others same)
    ∙ entries-mapped names_total itself names_exact rows sorted ∙ mapped_itself rows

-- rows in order are the entries of the map that is made of them
pub made_in_order : (rows : List (Name × Registration)) → IsStrictlySortedBy name_cmp (keys_of rows)
    → (n : BTreeMap Name Registration) → IsFromIterResult name_cmp rows n → n.entries ≡ rows
made_in_order rows sorted n made = same_rows rows n.entries sorted made.1 (λ q.
    made.0 q
    ∙ update_all_none (eq_by_cmp_equiv names_total) (eq_by_cmp name_cmp) (λ x y. refl) rows q
    (IsDistinct-from_sorted name_cmp (keys_of rows) sorted))

pub collected : {F : Type 0} (rows : List (Name × Registration)) → IsStrictlySortedBy name_cmp (keys_of rows)
    → (r : Result (BTreeMap Name Registration) F) (list : List (Name × Registration)) → list ≡ rows
    → IfOk r (IsFromIterResult name_cmp list) → IfOk r (λ n. n.entries ≡ rows)
collected rows sorted (Err e) list is made = tt
collected rows sorted (Ok n) list is made =
    made_in_order list (subst (λ rows. IsStrictlySortedBy name_cmp (keys_of rows)) (sym is) sorted) n made ∙ is
