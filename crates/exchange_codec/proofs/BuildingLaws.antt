-- The table that is built of the rows of an offer, row by row.
use Rattle.std.proofs.Common.{◌≡◌, ℕ, ◌<◌, Bool, true, false, cond, List, [], ◌∷◌, ◌++◌, Option, Some, None, is_some, refl, sym, ap, subst, ◌∙◌, arith, inl, inr}
use Rattle.std.specs.Prelude.{not, ◌==◌, ◌||◌, map as map_list}
use Rattle.std.specs.List.{AllByRecursion, list_all, list_any}
use Rattle.std.specs.Ordering.{is_lt, is_eq, ordering_reverse}
use Rattle.std.specs.declared.cmp.Ordering.{Ordering}
use Rattle.std.specs.declared.cmp.Ordering.TheVariants.{Less, Equal, Greater}
use Rattle.std.specs.FinMap as map
use Rattle.std.specs.FinMap.{insert, len, entries, values, len-entries, get-entries, entries-insert}
use Rattle.std.specs.FinMap.Entries.{find, put}
use Rattle.std.specs.BTreeMap.{get, Updates}
use Rattle.std.specs.Map.{lookup}
use Rattle.std.proofs.lemmas.Bool.{and_parts}
use Rattle.std.proofs.lemmas.List.{nil_from_length}
use Rattle.refusals.specs.Answers.{HasCause, out_of_memory}
use Rattle.instruction_set.specs.declared.insn.Insn.{Insn}
use Rattle.instruction_set.specs.Machine.{IsSafe}
use Rattle.verifier.specs.declared.program_fault.ProgramFault.{ProgramFault}
use Rattle.verifier.specs.Programs.{IsAccepted, IsProgramFault, program_fault_number}
use Rattle.clash_record.specs.Name.{Name}
use Rattle.clash_record.specs.Orders.{name_cmp, id_cmp}
use Rattle.clash_record.specs.laws.Orders.{names_total}
use Rattle.clash_record.specs.declared.registrations.Builtin.{Builtin}
use Rattle.clash_record.specs.declared.registrations.ProgramId.{ProgramId}
use Rattle.clash_record.specs.declared.registrations.ResolverId.{ResolverId}
use Rattle.clash_record.specs.declared.registrations.ResolverId.TheVariants as by
use Rattle.upload_store.specs.Programs.{IsProgram, id_of}
use Rattle.partition_table.specs.Tables.{Row, Table, IsCodeOf, IsNewRow, most_names, program_of, same_id, same_code, rows_agree, agrees_with}
use Rattle.partition_table.specs.laws.Sameness.{code_decides}
use Rattle.exchange_codec.specs.declared.building.Known.{Known}
use Rattle.exchange_codec.specs.declared.rows.RowText as lent
use Rattle.exchange_codec.specs.Rows.{RowText, ByBuiltin, Named, Code, has_id, ids_of, ids_after, texts_of, row_text, resolver_text, code_bytes}
use Rattle.exchange_codec.specs.RowsText.{row_view, resolver_view}
use Rattle.exchange_codec.specs.Offers.{is_name_above, IsRowFault}
use Rattle.exchange_codec.specs.declared.fault.ItemFault.{ItemFault}
use Rattle.exchange_codec.specs.declared.fault.ItemFault.TheVariants as item
use Rattle.exchange_codec.specs.declared.fault.MessageFault.{MessageFault}
use Rattle.exchange_codec.specs.declared.fault.MessageFault.TheVariants as message
use Rattle.exchange_codec.specs.Faults.{item_fault_number, message_fault_number}
use Rattle.exchange_codec.specs.model.Building.{known_code, Programs, IsStored, AreProgramsOf, row_with, HasRow, IsLeastRowFault, IsCodeFault, program_fault_of}
use Rattle.exchange_codec.proofs.IdLaws.{texts_more, ids_more, no_id, same_id_is, id_itself, is_by, after_has, ids_have}
use Rattle.exchange_codec.proofs.EachLaws.{all_more, all_of}

abbrev Entry : Type 0
Entry = Name × Row

not_both : true ≡ false → ⊥
not_both e = cc

-- ---- a name above those of a table

abbrev IsAbove : List Entry → Name → Type 0
IsAbove rows name = is_name_above rows name ≡ true

reversed : (o : Ordering) → is_lt o ≡ true → ordering_reverse o ≡ Greater
reversed Less e = refl
reversed Equal e = absurd cc
reversed Greater e = absurd cc

below : (a b : Name) → is_lt (name_cmp a b) ≡ true → name_cmp b a ≡ Greater
below a b e = names_total.antisymm b a ∙ reversed (name_cmp a b) e

not_found : (name : Name) (es : List Entry) → IsAbove es name → find name_cmp name es ≡ None
not_found name [] above = refl
not_found name (e ∷ es) above =
    let parts = and_parts (is_lt (name_cmp e.0 name)) (is_name_above es name) above in
    rw (below e.0 name parts.0, not_found name es parts.1) refl

put_last : (name : Name) (row : Row) (es : List Entry) → IsAbove es name
    → put name_cmp name row es ≡ es ++ (name, row) ∷ []
put_last name row [] above = refl
put_last name row (e ∷ es) above =
    let parts = and_parts (is_lt (name_cmp e.0 name)) (is_name_above es name) above in
    rw (below e.0 name parts.0, put_last name row es parts.1) refl

is_new : (table : Table) (name : Name) → IsAbove (entries table) name → map.get table name ≡ None
is_new table name above = get-entries table name ∙ not_found name (entries table) above

inserted_last : (table : Table) (name : Name) (row : Row) → IsAbove (entries table) name
    → entries (insert table name row) ≡ entries table ++ (name, row) ∷ []
inserted_last table name row above = entries-insert names_total table name row ∙ put_last name row (entries table) above

-- ---- no row has other code under the id

agree_all : (r : Row) (es : List Entry) → AllByRecursion (λ (e : Entry). rows_agree r e.1 ≡ true) es
    → list_all (rows_agree r) (map_list (λ e. e.1) es) ≡ true
agree_all r [] h = refl
agree_all r (e ∷ es) h = rw (h.0, agree_all r es h.1) refl

agrees_with_none : (r : Row) (rows : List Row) → program_of r.registration.resolver ≡ None
    → list_all (rows_agree r) rows ≡ true
agrees_with_none r [] e = refl
agrees_with_none r (s ∷ rows) e = rw (e, agrees_with_none r rows e) refl

-- ---- what a row leaves

module _ (old new : Table) (text : RowText) (row : Row) (above : IsAbove (entries old) text.name)
    (added : new ≡ insert old text.name row) where
  rows_grow : entries new ≡ entries old ++ (text.name, row) ∷ []
  rows_grow = ap entries added ∙ inserted_last old text.name row above

  texts_grow : row_text (ids_of [] (entries old)) text.name row ≡ text
      → texts_of [] (entries new) ≡ texts_of [] (entries old) ++ text ∷ []
  texts_grow same =
      ap (texts_of []) rows_grow ∙ texts_more [] (entries old) (text.name, row)
      ∙ ap (λ (t : RowText). texts_of [] (entries old) ++ t ∷ []) same

  ids_grow : ids_of [] (entries new) ≡ ids_after (ids_of [] (entries old)) row.registration.resolver
  ids_grow = ap (ids_of []) rows_grow ∙ ids_more [] (entries old) (text.name, row)

  -- the programs are those of before, and have the row's code
  same_programs : (programs : Programs) → AreProgramsOf old programs → IsStored programs row.registration.resolver row.code
      → ((id : ProgramId) → is_by id row.registration.resolver ≡ true → is_some (get id_cmp programs id) ≡ true)
      → AreProgramsOf new programs
  same_programs programs of stored there = record {
    known = λ id. known_still id (is_by id row.registration.resolver) refl;
    each = of.each;
    coded = subst (AllByRecursion (λ (e : Entry). IsStored programs e.1.registration.resolver e.1.code)) (sym rows_grow)
        (all_more _ (entries old) (text.name, row) of.coded stored);
  }
    where
      or_false : (a : Bool) → (a || false) ≡ a
      or_false true = refl
      or_false false = refl

      or_true : (a : Bool) → (a || true) ≡ true
      or_true true = refl
      or_true false = refl

      known_still : (id : ProgramId) (b : Bool) → is_by id row.registration.resolver ≡ b
          → is_some (get id_cmp programs id) ≡ has_id id (ids_of [] (entries new))
      known_still id true e =
          there id e
          ∙ sym (ap (has_id id) ids_grow ∙ after_has id (ids_of [] (entries old)) row.registration.resolver
          ∙ ap (λ (b : Bool). has_id id (ids_of [] (entries old)) || b) e ∙ or_true (has_id id (ids_of [] (entries old))))
      known_still id false e =
          of.known id
          ∙ sym (ap (has_id id) ids_grow ∙ after_has id (ids_of [] (entries old)) row.registration.resolver
          ∙ ap (λ (b : Bool). has_id id (ids_of [] (entries old)) || b) e ∙ or_false (has_id id (ids_of [] (entries old))))

-- ---- which rows can be added

can_add : (table : Table) (row : lent.RowText) (resolver : ResolverId) (code : Option (List Insn))
    → IsAbove (entries table) row.name → len table < most_names → IsCodeOf resolver code
    → agrees_with table (row_with row resolver code) ≡ true → IsNewRow table row.name (row_with row resolver code)
can_add table row resolver code above room coded agrees = record {
  new = is_new table row.name above;
  room = room;
  coded = coded;
  agrees = agrees;
}

-- a row with this code under this id agrees with those that have a known program
agree_stored : (programs : Programs) (known : Known) (id : ProgramId) (resolver : ResolverId) (code : Option (List Insn))
    → get id_cmp programs id ≡ Some known → IsStored programs resolver code
    → (not (same_id (Some id) (program_of resolver)) || same_code (Some (known_code known)) code) ≡ true
agree_stored programs known id (by.Builtin b) code there stored = refl
agree_stored programs known id (by.Program p) code there stored = by_id (is_eq (id_cmp id p)) refl
  where
    by_id : (b : Bool) → is_eq (id_cmp id p) ≡ b → (not b || same_code (Some (known_code known)) code) ≡ true
    by_id false e = refl
    by_id true e =
        let same : id ≡ p = same_id_is id p e in
        (code_decides (Some (known_code known)) code).1 (stored known (ap (get id_cmp programs) (sym same) ∙ there))

agrees_stored : (table : Table) (programs : Programs) (row : lent.RowText) (id : ProgramId) (known : Known)
    → AreProgramsOf table programs → get id_cmp programs id ≡ Some known
    → agrees_with table (row_with row (by.Program id) (Some (known_code known))) ≡ true
agrees_stored table programs row id known of there =
    agree_all (row_with row (by.Program id) (Some (known_code known))) (entries table)
    (all_of _ (λ (e : Entry). rows_agree (row_with row (by.Program id) (Some (known_code known))) e.1 ≡ true) (entries table)
    (λ e stored. agree_stored programs known id e.1.registration.resolver e.1.code there stored) of.coded)

-- a row whose program no row names agrees with all
agree_new : (id : ProgramId) (resolver : ResolverId) (same : Bool) → is_by id resolver ≡ false
    → (not (same_id (Some id) (program_of resolver)) || same) ≡ true
agree_new id (by.Builtin b) same other = refl
agree_new id (by.Program p) same other = by_id (is_eq (id_cmp id p)) refl
  where
    by_id : (b : Bool) → is_eq (id_cmp id p) ≡ b → (not b || same) ≡ true
    by_id false e = refl
    by_id true e =
        absurd (not_both (sym (id_itself id)
        ∙ subst (λ (q : ProgramId). is_eq (id_cmp q id) ≡ false) (sym (same_id_is id p e)) other))

or_parts : (a b : Bool) → (a || b) ≡ false → (a ≡ false) × (b ≡ false)
or_parts true b e = absurd cc
or_parts false b e = (refl, e)

none_named : (id : ProgramId) (es : List Entry) → list_any (λ (e : Entry). is_by id e.1.registration.resolver) es ≡ false
    → AllByRecursion (λ (e : Entry). is_by id e.1.registration.resolver ≡ false) es
none_named id [] h = tt
none_named id (e ∷ es) h =
    let parts = or_parts (is_by id e.1.registration.resolver) _ h in
    (parts.0, none_named id es parts.1)

-- no row names a program that isn't known
unnamed : (table : Table) (programs : Programs) (id : ProgramId) → AreProgramsOf table programs
    → get id_cmp programs id ≡ None
    → AllByRecursion (λ (e : Entry). is_by id e.1.registration.resolver ≡ false) (entries table)
unnamed table programs id of none =
    none_named id (entries table) (sym (ids_have id [] (entries table)) ∙ sym (of.known id) ∙ ap is_some none)

agrees_new : (table : Table) (programs : Programs) (row : lent.RowText) (id : ProgramId) (code : Option (List Insn))
    → AreProgramsOf table programs → get id_cmp programs id ≡ None
    → agrees_with table (row_with row (by.Program id) code) ≡ true
agrees_new table programs row id code of none =
    agree_all (row_with row (by.Program id) code) (entries table)
    (all_of _ (λ (e : Entry). rows_agree (row_with row (by.Program id) code) e.1 ≡ true) (entries table)
    (λ e other. agree_new id e.1.registration.resolver _ other) (unnamed table programs id of none))

-- ---- the row of each kind of resolver

same_text : (row : lent.RowText) (resolver : ResolverId) (code : Option (List Insn)) (ids : List ProgramId)
    → resolver_text ids resolver code ≡ resolver_view row.resolver
    → row_text ids row.name (row_with row resolver code) ≡ row_view row
same_text row resolver code ids e = ap (λ r. record { name = row.name; terms = row.terms; resolver = r }) e

module _ (old new : Table) (programs : Programs) (row : lent.RowText) (of : AreProgramsOf old programs)
    (above : IsAbove (entries old) row.name) where
  pub has_builtin : (b : Builtin) → resolver_view row.resolver ≡ ByBuiltin b
      → new ≡ insert old row.name (row_with row (by.Builtin b) None) → HasRow old (row_view row) new programs
  has_builtin b is added =
      let made = row_with row (by.Builtin b) None in
      record {
        programs_of = same_programs old new (row_view row) made above added programs of tt (λ id e. absurd (no e));
        row = made;
        last = rows_grow old new (row_view row) made above added;
        told = texts_grow old new (row_view row) made above added (same_text row (by.Builtin b) None (ids_of [] (entries old)) (sym is));
      }
    where
      no : false ≡ true → ⊥
      no e = cc

  pub has_named : (id : ProgramId) (known : Known) → resolver_view row.resolver ≡ Named id
      → get id_cmp programs id ≡ Some known
      → new ≡ insert old row.name (row_with row (by.Program id) (Some (known_code known)))
      → HasRow old (row_view row) new programs
  has_named id known is there added =
      let made = row_with row (by.Program id) (Some (known_code known)) in
      let named : has_id id (ids_of [] (entries old)) ≡ true = sym (of.known id) ∙ ap is_some there in
      record {
        programs_of = same_programs old new (row_view row) made above added programs of
            (λ other e. ap (λ (k : Known). Some (known_code k)) (the_same other e))
            (λ q e. ap (λ (i : ProgramId). is_some (get id_cmp programs i)) (sym (same_id_is id q e)) ∙ ap is_some there);
        row = made;
        last = rows_grow old new (row_view row) made above added;
        told = texts_grow old new (row_view row) made above added
            (same_text row (by.Program id) (Some (known_code known)) (ids_of [] (entries old)) (rw named (sym is)));
      }
    where
      the_same : (other : Known) → get id_cmp programs id ≡ Some other → other ≡ known
      the_same other e = some_inj _ _ (sym e ∙ there)
        where
          some_inj : (x y : Known) → Some x ≡ Some y → x ≡ y
          some_inj x y h = cc

-- ---- a row with code

module _ (programs after : Programs) (id : ProgramId) (new : Known) (updates : Updates id_cmp programs after id (Some new)) where
  some_here : (b : Bool) (o : Option Known) → is_some (cond b (Some new) o) ≡ (is_some o || b)
  some_here true None = refl
  some_here true (Some s) = refl
  some_here false None = refl
  some_here false (Some s) = refl

  known_after : (q : ProgramId) → is_some (get id_cmp after q) ≡ (is_some (get id_cmp programs q) || is_eq (id_cmp id q))
  known_after q = ap is_some (updates.0 q) ∙ some_here (is_eq (id_cmp id q)) (get id_cmp programs q)

  -- a program is the new one, or was known
  data IsHere (q : ProgramId) (s : Known) : Type 0 where
    Added : id ≡ q → new ≡ s → IsHere q s
    Kept : is_eq (id_cmp id q) ≡ false → get id_cmp programs q ≡ Some s → IsHere q s

  here : (q : ProgramId) (s : Known) → get id_cmp after q ≡ Some s → IsHere q s
  here q s e = by_id (is_eq (id_cmp id q)) refl (sym (updates.0 q) ∙ e)
    where
      some_inj : (x y : Known) → Some x ≡ Some y → x ≡ y
      some_inj x y h = cc

      by_id : (b : Bool) → is_eq (id_cmp id q) ≡ b → cond b (Some new) (get id_cmp programs q) ≡ Some s → IsHere q s
      by_id true is h = Added (same_id_is id q is) (some_inj _ _ h)
      by_id false is h = Kept is h

  holds : (q : ProgramId) (s : Known) → IsProgram id (known_code new)
      → ((p : ProgramId) (t : Known) → get id_cmp programs p ≡ Some t → IsProgram p (known_code t))
      → IsHere q s → IsProgram q (known_code s)
  holds q s program each (Added is same) =
      subst (λ (t : Known). IsProgram q (known_code t)) same
      (subst (λ (p : ProgramId). IsProgram p (known_code new)) is program)
  holds q s program each (Kept is there) = each q s there

  still_stored : (resolver : ResolverId) (code : Option (List Insn)) → is_by id resolver ≡ false
      → IsStored programs resolver code → IsStored after resolver code
  still_stored (by.Builtin b) code other stored = tt
  still_stored (by.Program p) code other stored = λ s e. by_here s (here p s e)
    where
      by_here : (s : Known) → IsHere p s → Some (known_code s) ≡ code
      by_here s (Added is same) =
          absurd (not_both (sym (id_itself id) ∙ subst (λ (q : ProgramId). is_eq (id_cmp q id) ≡ false) (sym is) other))
      by_here s (Kept is there) = stored s there

  all_still : (es : List Entry) → AllByRecursion (λ (e : Entry). is_by id e.1.registration.resolver ≡ false) es
      → AllByRecursion (λ (e : Entry). IsStored programs e.1.registration.resolver e.1.code) es
      → AllByRecursion (λ (e : Entry). IsStored after e.1.registration.resolver e.1.code) es
  all_still [] h k = tt
  all_still (e ∷ es) h k = (still_stored e.1.registration.resolver e.1.code h.0 k.0, all_still es h.1 k.1)

  new_stored : IsStored after (by.Program id) (Some (known_code new))
  new_stored = λ s e. by_here s (here id s e)
    where
      by_here : (s : Known) → IsHere id s → Some (known_code s) ≡ Some (known_code new)
      by_here s (Added is same) = ap (λ (t : Known). Some (known_code t)) (sym same)
      by_here s (Kept is there) = absurd (not_both (sym (id_itself id) ∙ is))

-- accepted code with the id of its bytes
pub is_program : (bytes : List ℕ) (id : ProgramId) (code : List Insn) → IsAccepted bytes code → IsSafe code → id ≡ id_of bytes
    → IsProgram id code
is_program bytes id code accepted safe named =
    record { safe = safe; bytes = bytes; spelled = accepted.spelled; accepted = accepted; named = named }

pub has_code : (old new : Table) (programs after : Programs) (row : lent.RowText) (bytes : List ℕ) (id : ProgramId)
    (known : Known) → AreProgramsOf old programs → IsAbove (entries old) row.name → resolver_view row.resolver ≡ Code bytes
    → id ≡ id_of bytes → IsAccepted bytes (known_code known) → IsSafe (known_code known) → get id_cmp programs id ≡ None
    → Updates id_cmp programs after id (Some known)
    → new ≡ insert old row.name (row_with row (by.Program id) (Some (known_code known)))
    → HasRow old (row_view row) new after
has_code old new programs after row bytes id known of above is named accepted safe none updates added =
    let made = row_with row (by.Program id) (Some (known_code known)) in
    let unknown : has_id id (ids_of [] (entries old)) ≡ false = sym (of.known id) ∙ ap is_some none in
    let spelled : code_bytes (Some (known_code known)) ≡ bytes = sym accepted.spelled.spelling in
    let ids = ids_grow old new (row_view row) made above added in
    let stored : AllByRecursion (λ (e : Entry). IsStored after e.1.registration.resolver e.1.code) (entries old) =
    all_still programs after id known updates (entries old) (unnamed old programs id of none) of.coded in
    record {
      programs_of = record {
        known = λ q. known_after programs after id known updates q
            ∙ ap (λ (b : Bool). b || is_eq (id_cmp id q)) (of.known q)
            ∙ sym (ap (has_id q) ids ∙ after_has q (ids_of [] (entries old)) (by.Program id));
        each = λ q s e. holds programs after id known updates q s (is_program bytes id (known_code known) accepted safe named)
            of.each (here programs after id known updates q s e);
        coded = subst (AllByRecursion (λ (e : Entry). IsStored after e.1.registration.resolver e.1.code))
            (sym (rows_grow old new (row_view row) made above added))
            (all_more _ (entries old) (row.name, made) stored (new_stored programs after id known updates));
      };
      row = made;
      last = rows_grow old new (row_view row) made above added;
      told = texts_grow old new (row_view row) made above added
          (same_text row (by.Program id) (Some (known_code known)) (ids_of [] (entries old)) (rw unknown (ap Code spelled ∙ sym is)));
    }

-- ---- rows that are refused

pub none_of : {A : Type 0} (o : Option A) → is_some o ≡ false → o ≡ None
none_of None e = refl
none_of (Some x) e = absurd cc

module _ (table : Table) (programs : Programs) (row : lent.RowText) (at : ℕ) (of : AreProgramsOf table programs)
    (above : is_name_above (entries table) row.name ≡ true) where
  in_order : is_name_above (entries table) row.name ≡ false → ⊥
  in_order e = not_both (sym above ∙ e)

  pub no_program : (id : ProgramId) → resolver_view row.resolver ≡ Named id → get id_cmp programs id ≡ None
      → IsLeastRowFault (entries table) (row_view row) at (message.Item item.NoProgram at)
  no_program id is none = record {
    what = item.NoProgram;
    is = refl;
    has = (id, is, sym (of.known id) ∙ ap is_some none);
    first = first;
  }
    where
      first : (other : ItemFault) → item_fault_number other < 79 → IsRowFault (entries table) (row_view row) other → ⊥
      first item.NameAgain lt h = h
      first item.NameOrder lt h = in_order h
      first item.NoProgram lt h = omega (arith, lt)
      first item.ProgramAgain lt h = omega (arith, lt)
      first (item.Program f) lt h = omega (arith, lt)

  not_named : (bytes : List ℕ) (id : ProgramId) → resolver_view row.resolver ≡ Code bytes
      → resolver_view row.resolver ≡ Named id → ⊥
  not_named bytes id is other = no (sym is ∙ other)
    where
      no : Code bytes ≡ Named id → ⊥
      no h = cc

  pub program_again : (bytes : List ℕ) → resolver_view row.resolver ≡ Code bytes
      → is_some (get id_cmp programs (id_of bytes)) ≡ true
      → IsLeastRowFault (entries table) (row_view row) at (message.Item item.ProgramAgain at)
  program_again bytes is there = record {
    what = item.ProgramAgain;
    is = refl;
    has = (bytes, is, sym (of.known (id_of bytes)) ∙ there);
    first = first;
  }
    where
      first : (other : ItemFault) → item_fault_number other < 80 → IsRowFault (entries table) (row_view row) other → ⊥
      first item.NameAgain lt h = h
      first item.NameOrder lt h = in_order h
      first item.NoProgram lt h = not_named bytes h.0 is h.1
      first item.ProgramAgain lt h = omega (arith, lt)
      first (item.Program f) lt h = omega (arith, lt)

  code_inj : (x y : List ℕ) → Code x ≡ Code y → x ≡ y
  code_inj x y e = cc

  bad_code : (bytes : List ℕ) (fault : MessageFault) → resolver_view row.resolver ≡ Code bytes
      → get id_cmp programs (id_of bytes) ≡ None → IsCodeFault bytes at fault
      → IsLeastRowFault (entries table) (row_view row) at fault
  bad_code bytes fault is none bad = record {
    what = item.Program bad.0;
    is = bad.1;
    has = (bytes, is, bad.2);
    first = first;
  }
    where
      first : (other : ItemFault) → item_fault_number other < 81 → IsRowFault (entries table) (row_view row) other → ⊥
      first item.NameAgain lt h = h
      first item.NameOrder lt h = in_order h
      first item.NoProgram lt h = not_named bytes h.0 is h.1
      first item.ProgramAgain lt h =
          let same : h.0 ≡ bytes = code_inj h.0 bytes (sym h.1 ∙ is) in
          not_both (sym h.2 ∙ sym (of.known (id_of h.0)) ∙ ap (λ (b : List ℕ). is_some (get id_cmp programs (id_of b))) same ∙ ap is_some none)
      first (item.Program f) lt h = omega (arith, lt)

  pub bad_cause : (bytes : List ℕ) (fault : MessageFault) → resolver_view row.resolver ≡ Code bytes
      → get id_cmp programs (id_of bytes) ≡ None → HasCause message_fault_number (IsCodeFault bytes at) fault
      → HasCause message_fault_number (IsLeastRowFault (entries table) (row_view row) at) fault
  bad_cause bytes fault is none (inl bad) = inl (bad_code bytes fault is none bad)
  bad_cause bytes fault is none (inr out) = inr out

  pub can_builtin : (b : Builtin) → len table < most_names → IsNewRow table row.name (row_with row (by.Builtin b) None)
  can_builtin b room =
      can_add table row (by.Builtin b) None above room tt
      (agrees_with_none (row_with row (by.Builtin b) None) (values table) refl)

  pub can_named : (id : ProgramId) (known : Known) → len table < most_names → get id_cmp programs id ≡ Some known
      → IsNewRow table row.name (row_with row (by.Program id) (Some (known_code known)))
  can_named id known room there =
      can_add table row (by.Program id) (Some (known_code known)) above room (of.each id known there)
      (agrees_stored table programs row id known of there)

  pub can_code : (id : ProgramId) (code : List Insn) → len table < most_names → get id_cmp programs id ≡ None
      → IsProgram id code → IsNewRow table row.name (row_with row (by.Program id) (Some code))
  can_code id code room none program =
      can_add table row (by.Program id) (Some code) above room program
      (agrees_new table programs row id (Some code) of none)

-- ---- code that is refused

pub has_cause : (bytes : List ℕ) (at : ℕ) (f : ProgramFault) → HasCause program_fault_number (IsProgramFault bytes) f
    → HasCause message_fault_number (IsCodeFault bytes at) (program_fault_of at f)
has_cause bytes at f h = by_number (program_fault_number f == out_of_memory) refl h
  where
    by_number : (b : Bool) → (program_fault_number f == out_of_memory) ≡ b
        → HasCause program_fault_number (IsProgramFault bytes) f
        → HasCause message_fault_number (IsCodeFault bytes at) (cond b message.OutOfMemory (message.Item (item.Program f) at))
    by_number true e h = inr refl
    by_number false e (inl h) = inl (f, refl, h)
    by_number false e (inr h) = absurd (not_both (sym (ap (λ (n : ℕ). n == out_of_memory) h) ∙ e))

-- ---- no rows

pub no_rows : (table : Table) → table ≡ map.empty → entries table ≡ []
no_rows table is =
    nil_from_length (entries table) (omega (arith, len-entries table, ap len is, map.len-empty name_cmp Row))

pub no_programs : (table : Table) (programs : Programs) → entries table ≡ [] → programs.entries ≡ [] → AreProgramsOf table programs
no_programs table programs rows empty =
    let nothing : (q : ProgramId) → get id_cmp programs q ≡ None =
    λ q. ap (λ es. lookup (λ k. is_eq (id_cmp q k)) es) empty in
    record {
      known = λ q. ap is_some (nothing q) ∙ sym (ap (λ es. has_id q (ids_of [] es)) rows ∙ ap (has_id q) no_id);
      each = λ q known e. absurd (apart known (sym (nothing q) ∙ e));
      coded = subst (AllByRecursion (λ (e : Entry). IsStored programs e.1.registration.resolver e.1.code)) (sym rows) tt;
    }
  where
    apart : (known : Known) → None ≡ Some known → ⊥
    apart known e = cc
