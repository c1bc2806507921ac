-- Names that a table holds, each once.
use Rattle.std.proofs.Common.{◌≡◌, Bool, true, false, not, ◌&&◌, List, [], ◌∷◌, ◌++◌, refl, sym, ap, ◌∙◌, append_assoc}
use Rattle.std.specs.FinMap.{contains_key}
use Rattle.clash_record.specs.Name.{Name}
use Rattle.partition_table.specs.Tables.{Table, is_in}
use Rattle.cluster.specs.Healing.{are_held_after, AreHeld}

-- the table holds a further name
abbrev is_further : Table → List Name → Name → Bool
is_further table names name = contains_key table name && not (is_in name names)

both_hold : (x y : Bool) → x ≡ true → y ≡ true → x && y ≡ true
both_hold true true e f = refl
both_hold true false e f = f
both_hold false y e f = e

pub left_holds : (x y : Bool) → x && y ≡ true → x ≡ true
left_holds true y e = refl
left_holds false y e = e

pub right_holds : (x y : Bool) → x && y ≡ true → y ≡ true
right_holds true y e = e
right_holds false y e = cc

held_more : (table : Table) (before names : List Name) (name : Name) → are_held_after table before names ≡ true →
    is_further table (before ++ names) name ≡ true → are_held_after table before (names ++ name ∷ []) ≡ true
held_more table before [] name held further =
    both_hold (is_further table before name) true
    (ap (λ l. is_further table l name) (sym (append_none before)) ∙ further) refl
  where
    append_none : (xs : List Name) → xs ++ [] ≡ xs
    append_none [] = refl
    append_none (x ∷ xs) = ap (λ (l : List Name). x ∷ l) (append_none xs)
held_more table before (first ∷ names) name held further =
    both_hold (is_further table before first) (are_held_after table (before ++ first ∷ []) (names ++ name ∷ []))
    (left_holds (is_further table before first) (are_held_after table (before ++ first ∷ []) names) held)
    (held_more table (before ++ first ∷ []) names name
    (right_holds (is_further table before first) (are_held_after table (before ++ first ∷ []) names) held)
    (ap (λ l. is_further table l name) (append_assoc before (first ∷ []) names) ∙ further))

last_two_hold : (closed x y : Bool) → not closed && x && y ≡ true → x && y ≡ true
last_two_hold true x y e = cc
last_two_hold false x y e = e

-- a name that a side withdraws is in its table, and wasn't withdrawn
pub one_held : (own shown : Table) (withdrawn names : List Name) (name : Name) (closed : Bool) → own ≡ shown →
    withdrawn ≡ names → AreHeld shown names →
    not closed && contains_key own name && not (is_in name withdrawn) ≡ true → AreHeld shown (names ++ name ∷ [])
one_held own shown withdrawn names name closed same_table same_names held taken =
    let further : is_further own withdrawn name ≡ true =
    last_two_hold closed (contains_key own name) (not (is_in name withdrawn)) taken in
    held_more shown [] names name held ((λ i. is_further (sym same_table i) (sym same_names i) name) ∙ further)
