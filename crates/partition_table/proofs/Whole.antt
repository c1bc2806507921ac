-- A table that has all names of two, none of which clashes, is their merge.
use Rattle.std.proofs.Common.{◌≡◌, Bool, true, false, if◌then◌else◌, not, ◌&&◌, Option, Some, None, is_some, List, [], refl, ap, sym, ◌∙◌}
use Rattle.std.specs.List.{list_any}
use Rattle.std.specs.FinMap.{get, keys, contains_key, contains_key-keys}
use Rattle.clash_record.specs.Name.{Name}
use Rattle.builtin_resolvers.specs.declared.verdicts.Verdict3.{Verdict3}
use Rattle.partition_table.specs.Tables.{Row, Table, answer_at, clash_names, differ, is_same_name, merged_at, merge, names_without, same_registration, winner}
use Rattle.partition_table.proofs.Merged.{is_the_merge}
use Rattle.partition_table.proofs.Sides.{any_clash, any_kept}

-- what is kept where the second has no other row
kept_first : (r s : Option Row) (x : Verdict3) → differ r s ≡ false → (not (is_some r) && is_some s) ≡ false → r ≡ merged_at r s x
kept_first None None x same none = refl
kept_first None (Some s) x same none = absurd (cc)
kept_first (Some r) None x same none = refl
kept_first (Some r) (Some s) x same none = by (same_registration r.registration s.registration) same
  where
    by : (b : Bool) → not b ≡ false → Some r ≡ (if b then Some r else winner r s x)
    by true e = refl
    by false e = absurd (cc)

no_clash : (a b : Table) (q : Name) → clash_names a b ≡ [] → differ (get a q) (get b q) ≡ false
no_clash a b q none = sym (any_clash a b q) ∙ ap (list_any (is_same_name q)) none

none_alone : (a b : Table) (q : Name) → names_without a (keys b) ≡ [] → (not (contains_key a q) && contains_key b q) ≡ false
none_alone a b q none =
    ap (λ x. not (contains_key a q) && x) (contains_key-keys b q)
    ∙ sym (any_kept (λ name. not (contains_key a name)) q (keys b)) ∙ ap (list_any (is_same_name q)) none

pub whole : (a b : Table) (answers : List Verdict3) → clash_names a b ≡ [] → names_without a (keys b) ≡ []
    → a ≡ merge a b answers record { of_a = []; of_b = [] }
whole a b answers none covered =
    is_the_merge a b answers (record { of_a = []; of_b = [] }) a (λ q.
    kept_first (get a q) (get b q) (answer_at (clash_names a b) answers q) (no_clash a b q none) (none_alone a b q covered))
