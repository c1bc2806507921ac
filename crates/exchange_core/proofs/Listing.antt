-- The set of a list that gets a name more.
use Rattle.std.proofs.Common.{◌≡◌, Bool, true, false, ◌||◌, cond, List, [], ◌∷◌, ◌++◌, refl, ap, sym, ◌∙◌}
use Rattle.std.proofs.lemmas.List.Folds.{list_any-append}
use Rattle.std.specs.Ordering.{eq_by_cmp}
use Rattle.std.specs.Cmp.{eq_by_cmp_equiv}
use Rattle.std.specs.BTreeSet.{BTreeSet, Updates}
use Rattle.clash_record.specs.Name.{Name}
use Rattle.clash_record.specs.Orders.{name_cmp}
use Rattle.clash_record.specs.laws.Orders.{names_total}
use Rattle.partition_table.specs.Tables.{is_in, is_same_name}
use Rattle.exchange_core.specs.model.Listing.{IsSetOf}

-- the name is in it, or it was
either : (b c : Bool) → cond b true c ≡ (c || (b || false))
either true true = refl
either true false = refl
either false true = refl
either false false = refl

pub one_more_listed : (set more : BTreeSet Name) (names : List Name) (name : Name) → IsSetOf set names
    → Updates name_cmp set more name true → IsSetOf more (names ++ name ∷ [])
one_more_listed set more names name is updates q =
    updates.0 q ∙ ap (cond (eq_by_cmp name_cmp name q) true) (is q)
    ∙ ap (λ b. cond b true (is_in q names)) ((eq_by_cmp_equiv names_total).symm name q)
    ∙ either (is_same_name q name) (is_in q names)
    ∙ sym (list_any-append (is_same_name q) names (name ∷ []))
