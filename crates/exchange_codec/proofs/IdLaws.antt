-- The ids of the programs that rows name, and the texts of rows.
use Rattle.std.proofs.Common.{◌≡◌, suc, Bool, true, false, cond, List, [], ◌∷◌, ◌++◌, length, Some, refl, sym, ap, subst, ◌∙◌}
use Rattle.std.specs.Prelude.{◌||◌}
use Rattle.std.specs.List.{list_any}
use Rattle.std.specs.Ordering.{is_eq}
use Rattle.std.proofs.lemmas.List.Folds.{list_any-append}
use Rattle.std.proofs.lemmas.Cmp.{tied_itself}
use Rattle.std.specs.Cmp.{Equal-is}
use Rattle.std.specs.BTreeSet.{BTreeSet, Updates}
use Rattle.clash_record.specs.Name.{Name}
use Rattle.clash_record.specs.Orders.{id_cmp}
use Rattle.clash_record.specs.laws.Orders.{ids_total, ids_exact}
use Rattle.clash_record.specs.declared.registrations.ProgramId.{ProgramId}
use Rattle.clash_record.specs.declared.registrations.ResolverId.{ResolverId}
use Rattle.clash_record.specs.declared.registrations.ResolverId.TheVariants as by
use Rattle.partition_table.specs.Tables.{Row, program_of, same_id}
use Rattle.exchange_codec.specs.Rows.{RowText, row_text, ids_after, has_id, ids_of, texts_of, AreIds}

-- one more row
pub texts_more : (before : List ProgramId) (ds : List (Name × Row)) (e : Name × Row)
    → texts_of before (ds ++ e ∷ []) ≡ texts_of before ds ++ row_text (ids_of before ds) e.0 e.1 ∷ []
unfolding texts_of ids_of
texts_more before [] e = refl
texts_more before (d ∷ ds) e =
    ap (λ (ts : List RowText). row_text before d.0 d.1 ∷ ts) (texts_more (ids_after before d.1.registration.resolver) ds e)

pub ids_more : (before : List ProgramId) (ds : List (Name × Row)) (e : Name × Row)
    → ids_of before (ds ++ e ∷ []) ≡ ids_after (ids_of before ds) e.1.registration.resolver
unfolding ids_of
ids_more before [] e = refl
ids_more before (d ∷ ds) e = ids_more (ids_after before d.1.registration.resolver) ds e

pub no_text : texts_of [] [] ≡ []
unfolding texts_of
no_text = refl

pub no_id : ids_of [] [] ≡ []
unfolding ids_of
no_id = refl

pub texts_len : (before : List ProgramId) (es : List (Name × Row)) → length (texts_of before es) ≡ length es
unfolding texts_of
texts_len before [] = refl
texts_len before (e ∷ es) = ap suc (texts_len (ids_after before e.1.registration.resolver) es)

-- ---- ids

pub same_id_is : (p q : ProgramId) → is_eq (id_cmp p q) ≡ true → p ≡ q
same_id_is p q e = ids_exact p q ((Equal-is (id_cmp p q)).0 e)

pub id_itself : (p : ProgramId) → is_eq (id_cmp p p) ≡ true
id_itself p = ap is_eq (tied_itself ids_total p)

-- a resolver's program is this one
abbrev pub is_by : ProgramId → ResolverId → Bool
is_by id resolver = same_id (program_of resolver) (Some id)

or_false : (a : Bool) → (a || false) ≡ a
or_false true = refl
or_false false = refl

-- an id that is there already adds nothing
absorbed : (id q : ProgramId) (ids : List ProgramId) (b : Bool) → is_eq (id_cmp q id) ≡ b → has_id q ids ≡ true
    → has_id id ids ≡ (has_id id ids || b)
absorbed id q ids true same there = rw (subst (λ (i : ProgramId). has_id i ids ≡ true) (same_id_is q id same) there) refl
absorbed id q ids false same there = sym (or_false (has_id id ids))

pub after_has : (id : ProgramId) (before : List ProgramId) (resolver : ResolverId)
    → has_id id (ids_after before resolver) ≡ (has_id id before || is_by id resolver)
after_has id before (by.Builtin b) = sym (or_false (has_id id before))
after_has id before (by.Program q) = by_known (has_id q before) refl
  where
    by_known : (b : Bool) → has_id q before ≡ b
        → has_id id (cond b before (before ++ q ∷ [])) ≡ (has_id id before || is_eq (id_cmp q id))
    by_known true there = absorbed id q before (is_eq (id_cmp q id)) refl there
    by_known false there =
        list_any-append (λ (other : ProgramId). same_id (Some other) (Some id)) before (q ∷ [])
        ∙ ap (λ (b : Bool). has_id id before || b) (or_false (is_eq (id_cmp q id)))

or_assoc : (a b c : Bool) → ((a || b) || c) ≡ (a || (b || c))
or_assoc true b c = refl
or_assoc false b c = refl

pub ids_have : (id : ProgramId) (before : List ProgramId) (es : List (Name × Row))
    → has_id id (ids_of before es) ≡ (has_id id before || list_any (λ (e : Name × Row). is_by id e.1.registration.resolver) es)
unfolding ids_of
ids_have id before [] = sym (or_false (has_id id before))
ids_have id before (e ∷ es) =
    ids_have id (ids_after before e.1.registration.resolver) es
    ∙ ap (λ (b : Bool). b || list_any (λ (f : Name × Row). is_by id f.1.registration.resolver) es)
    (after_has id before e.1.registration.resolver)
    ∙ or_assoc (has_id id before) (is_by id e.1.registration.resolver) _

-- ---- a set of ids

pub no_ids : (set : BTreeSet ProgramId) → set.keys ≡ [] → AreIds set []
no_ids set none id = ap (λ (ks : List ProgramId). list_any (λ (k : ProgramId). is_eq (id_cmp id k)) ks) none

in_either : (b c d : Bool) → b ≡ c → cond b true d ≡ (d || c)
in_either true c true e = refl
in_either true c false e = e
in_either false c true e = refl
in_either false c false e = e

-- a new id is added
pub ids_grow : (set after : BTreeSet ProgramId) (ids : List ProgramId) (id : ProgramId) → AreIds set ids
    → Updates id_cmp set after id true → has_id id ids ≡ false → AreIds after (ids_after ids (by.Program id))
ids_grow set after ids id are updates new q =
    updates.0 q ∙ ap (λ (b : Bool). cond (is_eq (id_cmp id q)) true b) (are q)
    ∙ in_either (is_eq (id_cmp id q)) (is_eq (id_cmp id q)) (has_id q ids) refl
    ∙ sym (after_has q ids (by.Program id))
