-- Bytes spell one offer at most, or have one fault.
use Rattle.std.proofs.Common.{◌≡◌, Bool, true, false, cond, List, [], ◌∷◌, ◌++◌, Option, Some, None, refl, sym, ap, subst, ◌∙◌, append_assoc, ◌⊎◌, inl, inr}
use Rattle.std.specs.Prelude.{not, ◌||◌, map as map_list}
use Rattle.std.specs.List.{flat_map, AllByRecursion, list_all}
use Rattle.std.specs.Ordering.{is_eq}
use Rattle.std.specs.FinMap.{entries, same_entries_map}
use Rattle.std.proofs.lemmas.Bool.{and_parts}
use Rattle.instruction_set.specs.declared.insn.Insn.{Insn}
use Rattle.insn_codec.specs.Encoding.{insn_bytes}
use Rattle.clash_record.specs.Name.{Name}
use Rattle.clash_record.specs.Orders.{id_cmp}
use Rattle.clash_record.specs.Registrations.{registration_on, registration_terms}
use Rattle.clash_record.specs.declared.registrations.ProgramId.{ProgramId}
use Rattle.clash_record.specs.declared.registrations.Registration.{Registration}
use Rattle.clash_record.specs.declared.registrations.ResolverId.{ResolverId}
use Rattle.clash_record.specs.declared.registrations.ResolverId.TheVariants as by
use Rattle.upload_store.specs.Programs.{IsProgram, id_of}
use Rattle.partition_table.specs.Tables.{Row, Table, IsTable, IsCodeOf, program_of, same_id, same_code, rows_agree, agrees_with}
use Rattle.partition_table.specs.laws.Sameness.{code_decides}
use Rattle.exchange_core.specs.laws.Entries.{has_entry}
use Rattle.exchange_codec.specs.laws.Programs.{Readings}
use Rattle.exchange_codec.specs.Rows.{RowText, ByBuiltin, Named, Code, has_id, ids_after, texts_of, row_text, resolver_text, code_bytes}
use Rattle.exchange_codec.proofs.IdLaws.{is_by, after_has, same_id_is, id_itself}

abbrev pub Entry : Type 0
Entry = Name × Row

abbrev resolver_of : Entry → ResolverId
resolver_of e = e.1.registration.resolver

-- ---- rows that a table can have

abbrev pub IsCoded : Entry → Type 0
IsCoded e = IsCodeOf e.1.registration.resolver e.1.code

abbrev pub Agrees : Entry → Entry → Type 0
Agrees e f = rows_agree e.1 f.1 ≡ true

abbrev pub HaveOneCode : List Entry → Type 0
HaveOneCode [] = Unit {0}
HaveOneCode (e ∷ es) = AllByRecursion (Agrees e) es × HaveOneCode es

pub record AreRows (es : List Entry) : Type 0 where
  pub coded : AllByRecursion IsCoded es
  pub one_code : HaveOneCode es

front_of : {A : Type 0} (P : A → Type 0) (xs ys : List A) → AllByRecursion P (xs ++ ys) → AllByRecursion P xs
front_of P [] ys h = tt
front_of P (x ∷ xs) ys h = (h.0, front_of P xs ys h.1)

codes_front : (ds rest : List Entry) → HaveOneCode (ds ++ rest) → HaveOneCode ds
codes_front [] rest h = tt
codes_front (d ∷ ds) rest h = (front_of (Agrees d) ds rest h.0, codes_front ds rest h.1)

pub rows_front : (ds rest : List Entry) → AreRows (ds ++ rest) → AreRows ds
rows_front ds rest rows =
    record { coded = front_of IsCoded ds rest rows.coded; one_code = codes_front ds rest rows.one_code }

all_pass : (p : Row → Bool) (es : List Entry) → list_all p (map_list (λ e. e.1) es) ≡ true
    → AllByRecursion (λ (e : Entry). p e.1 ≡ true) es
all_pass p [] h = tt
all_pass p (e ∷ es) h =
    let parts = and_parts (p e.1) (list_all p (map_list (λ f. f.1) es)) h in (parts.0, all_pass p es parts.1)

-- the rows of a table, from the back
codes_of : (table : Table) (ds es : List Entry) → entries table ≡ ds ++ es
    → AllByRecursion (λ (e : Entry). agrees_with table e.1 ≡ true) es → HaveOneCode es
codes_of table ds [] parts h = tt
codes_of table ds (e ∷ es) parts h =
    let all : AllByRecursion (Agrees e) (entries table) = all_pass (rows_agree e.1) (entries table) h.0 in
    let longer : entries table ≡ (ds ++ e ∷ []) ++ es =
    parts ∙ sym (append_assoc ds (e ∷ []) es) in
    let mine : AllByRecursion (Agrees e) ((ds ++ e ∷ []) ++ es) = subst (AllByRecursion (Agrees e)) longer all in
    (back_of (Agrees e) (ds ++ e ∷ []) es mine, codes_of table (ds ++ e ∷ []) es longer h.1)
  where
    back_of : {A : Type 0} (P : A → Type 0) (xs ys : List A) → AllByRecursion P (xs ++ ys) → AllByRecursion P ys
    back_of P [] ys h = h
    back_of P (x ∷ xs) ys h = back_of P xs ys h.1

coded_of : (table : Table) (ds es : List Entry) → entries table ≡ ds ++ es → IsTable table → AllByRecursion IsCoded es
coded_of table ds [] parts is = tt
coded_of table ds (e ∷ es) parts is = (
  is.coded e.0 e.1 (has_entry table ds e es parts),
  coded_of table (ds ++ e ∷ []) es (parts ∙ sym (append_assoc ds (e ∷ []) es)) is,
)

pub rows_of_table : (table : Table) → IsTable table → AreRows (entries table)
rows_of_table table is = record {
  coded = coded_of table [] (entries table) refl is;
  one_code = codes_of table [] (entries table) refl (all_pass (agrees_with table) (entries table) is.one_code);
}

-- ---- one text, one list of rows

-- two rows that agree and name one program have one code
agreed : (r s : ResolverId) (c d : Option (List Insn)) (id : ProgramId)
    → (not (same_id (program_of r) (program_of s)) || same_code c d) ≡ true → is_by id r ≡ true → is_by id s ≡ true → d ≡ c
agreed (by.Builtin b) s c d id h e f = absurd cc
agreed (by.Program p) (by.Builtin b) c d id h e f = absurd cc
agreed (by.Program p) (by.Program q) c d id h e f =
    let one : p ≡ q = same_id_is p id e ∙ sym (same_id_is q id f) in
    let same : is_eq (id_cmp p q) ≡ true = ap (λ (x : ProgramId). is_eq (id_cmp p x)) (sym one) ∙ id_itself p in
    sym ((code_decides c d).0 (sym (rw same refl) ∙ h))

-- the rows with this id have this code
abbrev HasCode : ProgramId → Option (List Insn) → Entry → Type 0
HasCode id c e = is_by id e.1.registration.resolver ≡ true → e.1.code ≡ c

record Shares (id : ProgramId) (es fs : List Entry) : Type 0 where
  code : Option (List Insn)
  left : AllByRecursion (HasCode id code) es
  right : AllByRecursion (HasCode id code) fs

abbrev Share : List ProgramId → List Entry → List Entry → Type 0
Share before es fs = (id : ProgramId) → has_id id before ≡ true → Shares id es fs

theirs : (e : Entry) (id : ProgramId) (es : List Entry) → is_by id (resolver_of e) ≡ true → AllByRecursion (Agrees e) es
    → AllByRecursion (HasCode id e.1.code) es
theirs e id [] is h = tt
theirs e id (f ∷ es) is h =
    (λ named. agreed (resolver_of e) (resolver_of f) e.1.code f.1.code id h.0 is named, theirs e id es is h.1)

or_cases : (a b : Bool) → (a || b) ≡ true → (a ≡ true) ⊎ (b ≡ true)
or_cases true b h = inl refl
or_cases false b h = inr h

share_on : (before : List ProgramId) (e : Entry) (es fs : List Entry) → Share before (e ∷ es) (e ∷ fs)
    → AllByRecursion (Agrees e) es → AllByRecursion (Agrees e) fs → Share (ids_after before (resolver_of e)) es fs
share_on before e es fs share left right id there =
    by_origin (or_cases _ _ (sym (after_has id before (resolver_of e)) ∙ there))
  where
    by_origin : (has_id id before ≡ true) ⊎ (is_by id (resolver_of e) ≡ true) → Shares id es fs
    by_origin (inl h) = let s = share id h in record { code = s.code; left = s.left.1; right = s.right.1 }
    by_origin (inr h) = record { code = e.1.code; left = theirs e id es h left; right = theirs e id fs h right }

module _ (known : Readings) where
  -- programs whose bytes are alike are alike
  same_program : (p q : ProgramId) (c d : List Insn) → IsProgram p c → IsProgram q d → flat_map insn_bytes c ≡ flat_map insn_bytes d
      → (p ≡ q) × (c ≡ d)
  same_program p q c d one other same = (
    one.named ∙ ap id_of (one.spelled.spelling ∙ same ∙ sym other.spelled.spelling) ∙ sym other.named,
    known.one_code (flat_map insn_bytes c) c d (record { is_code = one.spelled.is_code; spelling = refl })
        (record { is_code = other.spelled.is_code; spelling = same }),
  )

  abbrev Same : ResolverId → Option (List Insn) → ResolverId → Option (List Insn) → Type 0
  Same r c s d = (r ≡ s) × (c ≡ d)

  same_resolver : (before : List ProgramId) (r s : ResolverId) (c d : Option (List Insn)) → IsCodeOf r c → IsCodeOf s d
      → ((id : ProgramId) → has_id id before ≡ true → is_by id r ≡ true → is_by id s ≡ true → c ≡ d)
      → resolver_text before r c ≡ resolver_text before s d → Same r c s d
  same_resolver before (by.Builtin a) (by.Builtin b) None None p q share e = (cc, refl)
  same_resolver before (by.Builtin a) (by.Builtin b) (Some c) d p q share e = absurd p
  same_resolver before (by.Builtin a) (by.Builtin b) None (Some d) p q share e = absurd q
  same_resolver before (by.Builtin a) (by.Program j) c d p q share e = absurd (no (has_id j before) e)
    where
      no : (t : Bool) → ByBuiltin a ≡ cond t (Named j) (Code (code_bytes d)) → ⊥
      no true h = cc
      no false h = cc
  same_resolver before (by.Program i) (by.Builtin b) c d p q share e = absurd (no (has_id i before) e)
    where
      no : (t : Bool) → cond t (Named i) (Code (code_bytes c)) ≡ ByBuiltin b → ⊥
      no true h = cc
      no false h = cc
  same_resolver before (by.Program i) (by.Program j) None d p q share e = absurd p
  same_resolver before (by.Program i) (by.Program j) (Some c) None p q share e = absurd q
  same_resolver before (by.Program i) (by.Program j) (Some c) (Some d) p q share e =
      by_known (has_id i before) (has_id j before) refl refl e
    where
      by_known : (t u : Bool) → has_id i before ≡ t → has_id j before ≡ u
          → cond t (Named i) (Code (flat_map insn_bytes c)) ≡ cond u (Named j) (Code (flat_map insn_bytes d))
          → Same (by.Program i) (Some c) (by.Program j) (Some d)
      by_known true true is at h =
          let one : i ≡ j = cc in (
            ap by.Program one,
            share i is (id_itself i)
                (subst (λ (x : ProgramId). is_eq (id_cmp x i) ≡ true) one (id_itself i)),
          )
      by_known true false is at h = absurd cc
      by_known false true is at h = absurd cc
      by_known false false is at h =
          let bytes : flat_map insn_bytes c ≡ flat_map insn_bytes d = cc in
          let same = same_program i j c d p q bytes in
          (ap by.Program same.0, ap Some same.1)

  -- the resolver of a row that is named by its id was known
  same_entry : (before : List ProgramId) (e f : Entry) → IsCoded e → IsCoded f
      → ((id : ProgramId) → has_id id before ≡ true → is_by id (resolver_of e) ≡ true → is_by id (resolver_of f) ≡ true → e.1.code ≡ f.1.code)
      → row_text before e.0 e.1 ≡ row_text before f.0 f.1 → e ≡ f
  same_entry before e f p q share same =
      let resolver = same_resolver before (resolver_of e) (resolver_of f) e.1.code f.1.code p q share
      (ap (λ (t : RowText). t.resolver) same) in
      let registration : e.1.registration ≡ f.1.registration =
      ap (λ (t : RowText). registration_on t.terms e.1.registration.resolver) same
      ∙ ap (λ (r : ResolverId). registration_on (registration_terms f.1.registration) r) resolver.0 in
      ap (λ (t : RowText). (t.name, e.1)) same
      ∙ ap (λ (r : Registration). (f.0, record { registration = r; code = e.1.code })) registration
      ∙ ap (λ (c : Option (List Insn)). (f.0, record { registration = f.1.registration; code = c })) resolver.1

  heads : {A : Type 0} (x y : A) (xs ys : List A) → x ∷ xs ≡ y ∷ ys → (x ≡ y) × (xs ≡ ys)
  heads x y xs ys e = (cc, cc)

  same_rows_from : (before : List ProgramId) (es fs : List Entry) → Share before es fs → AreRows es → AreRows fs
      → texts_of before es ≡ texts_of before fs → es ≡ fs
  unfolding texts_of
  same_rows_from before [] [] share p q same = refl
  same_rows_from before [] (f ∷ fs) share p q same = absurd cc
  same_rows_from before (e ∷ es) [] share p q same = absurd cc
  same_rows_from before (e ∷ es) (f ∷ fs) share p q same =
      let parts = heads _ _ _ _ same in
      let first : e ≡ f = same_entry before e f p.coded.0 q.coded.0
      (λ id there left right. let s = share id there in s.left.0 left ∙ sym (s.right.0 right)) parts.0 in
      let right : AllByRecursion (Agrees e) fs = subst (λ (x : Entry). AllByRecursion (Agrees x) fs) (sym first) q.one_code.0 in
      let shared : Share before (e ∷ es) (e ∷ fs) = subst (λ (x : Entry). Share before (e ∷ es) (x ∷ fs)) (sym first) share in
      let others : texts_of (ids_after before (resolver_of e)) es ≡ texts_of (ids_after before (resolver_of e)) fs =
      parts.1 ∙ ap (λ (x : Entry). texts_of (ids_after before (resolver_of x)) fs) (sym first) in
      ap (λ (x : Entry). x ∷ es) first
      ∙ ap (λ (xs : List Entry). f ∷ xs) (same_rows_from (ids_after before (resolver_of e)) es fs
      (share_on before e es fs shared p.one_code.0 right)
      (record { coded = p.coded.1; one_code = p.one_code.1 }) (record { coded = q.coded.1; one_code = q.one_code.1 }) others)

  pub same_rows : (es fs : List Entry) → AreRows es → AreRows fs → texts_of [] es ≡ texts_of [] fs → es ≡ fs
  same_rows es fs p q same = same_rows_from [] es fs (λ id h. absurd (no h)) p q same
    where
      no : false ≡ true → ⊥
      no h = cc

  pub same_table : (s t : Table) → IsTable s → IsTable t → texts_of [] (entries s) ≡ texts_of [] (entries t) → s ≡ t
  same_table s t p q same =
      same_entries_map s t (same_rows (entries s) (entries t) (rows_of_table s p) (rows_of_table t q) same)
