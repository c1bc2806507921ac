-- The first invalid row of an offer is the only one, and an offer that is spelled has none.
use Rattle.std.proofs.Common.{◌≡◌, ℕ, zero, suc, ◌<◌, Bool, true, false, cond, List, [], ◌∷◌, ◌++◌, take, Option, Some, None, refl, sym, ap, subst, ◌∙◌, arith, inl, inr}
use Rattle.std.specs.Prelude.{slice_get}
use Rattle.std.specs.List.{flat_map, AllByRecursion}
use Rattle.std.specs.FinMap.{entries, entries_sorted}
use Rattle.std.proofs.lemmas.Bool.{cases_lt}
use Rattle.instruction_set.specs.declared.insn.Insn.{Insn}
use Rattle.insn_codec.specs.Encoding.{insn_bytes}
use Rattle.verifier.specs.Programs.{IsAccepted, IsProgramFault}
use Rattle.clash_record.specs.Name.{Name}
use Rattle.clash_record.specs.Orders.{name_cmp}
use Rattle.clash_record.specs.declared.registrations.ProgramId.{ProgramId}
use Rattle.clash_record.specs.declared.registrations.ResolverId.{ResolverId}
use Rattle.clash_record.specs.declared.registrations.ResolverId.TheVariants as by
use Rattle.upload_store.specs.Programs.{id_of}
use Rattle.partition_table.specs.Tables.{Row, Table, IsTable, IsCodeOf}
use Rattle.exchange_codec.specs.declared.fault.ItemFault.{ItemFault}
use Rattle.exchange_codec.specs.declared.fault.ItemFault.TheVariants as item
use Rattle.exchange_codec.specs.declared.fault.MessageFault.{MessageFault}
use Rattle.exchange_codec.specs.declared.fault.MessageFault.TheVariants as message
use Rattle.exchange_codec.specs.Faults.{item_fault_number}
use Rattle.exchange_codec.specs.Rows.{RowText, Named, Code, has_id, ids_of, ids_after, texts_of, row_text, resolver_text, code_bytes}
use Rattle.exchange_codec.specs.Tables.{table_text, is_name_above, IsRowFault, IsFirstRowFault}
use Rattle.exchange_codec.specs.model.Building.{IsRowsFault}
use Rattle.exchange_codec.specs.laws.Firsts.{IsFirst, one_first, some_inj, above_there, sorted_as}
use Rattle.exchange_codec.specs.laws.Programs.{Readings}
use Rattle.exchange_codec.proofs.OneOffer.{AreRows, rows_front, rows_of_table, same_rows, same_table}

abbrev Entry : Type 0
Entry = Name × Row

-- ---- the row of a text

-- a text is that of one of the rows
pub record IsTextOf (before : List ProgramId) (es : List Entry) (texts : List RowText) (at : ℕ) (text : RowText) : Type 0 where
  pub done : List Entry
  pub entry : Entry
  pub rest : List Entry
  pub parts : es ≡ done ++ entry ∷ rest
  pub told : take at texts ≡ texts_of before done
  pub is : text ≡ row_text (ids_of before done) entry.0 entry.1

heads : {A : Type 0} (x y : A) (xs ys : List A) → x ∷ xs ≡ y ∷ ys → (x ≡ y) × (xs ≡ ys)
heads x y xs ys e = (cc, cc)

row_at_text : (before : List ProgramId) (es : List Entry) (texts : List RowText) (at : ℕ) (text : RowText)
    → texts ≡ texts_of before es → slice_get texts at ≡ Some text → IsTextOf before es texts at text
unfolding texts_of ids_of
row_at_text before es [] at text is there = absurd cc
row_at_text before [] (t ∷ texts) at text is there = absurd cc
row_at_text before (e ∷ es) (t ∷ texts) zero text is there = record {
  done = [];
  entry = e;
  rest = es;
  parts = refl;
  told = refl;
  is = sym (some_inj t text there) ∙ (heads _ _ _ _ is).0;
}
row_at_text before (e ∷ es) (t ∷ texts) (suc at) text is there =
    let heads_are = heads _ _ _ _ is in
    let found = row_at_text (ids_after before e.1.registration.resolver) es texts at text heads_are.1 there in
    record {
      done = e ∷ found.done;
      entry = found.entry;
      rest = found.rest;
      parts = ap (λ (xs : List Entry). e ∷ xs) found.parts;
      told = ap (λ (x : RowText). x ∷ take at texts) heads_are.0
          ∙ ap (λ (xs : List RowText). row_text before e.0 e.1 ∷ xs) found.told;
      is = found.is;
    }

-- ---- a row of a table has no fault

not_both : true ≡ false → ⊥
not_both e = cc

named_known : (ids : List ProgramId) (r : ResolverId) (c : Option (List Insn)) (id : ProgramId)
    → resolver_text ids r c ≡ Named id → has_id id ids ≡ true
named_known ids (by.Builtin b) c id e = absurd cc
named_known ids (by.Program p) c id e = by_known (has_id p ids) refl e
  where
    by_known : (t : Bool) → has_id p ids ≡ t → cond t (Named p) (Code (code_bytes c)) ≡ Named id → has_id id ids ≡ true
    by_known true is h = let one : p ≡ id = cc in subst (λ (q : ProgramId). has_id q ids ≡ true) one is
    by_known false is h = absurd cc

-- a row that contains code
record IsNewCode (ids : List ProgramId) (bytes : List ℕ) : Type 0 where
  code : List Insn
  accepted : IsAccepted bytes code
  fresh : has_id (id_of bytes) ids ≡ false

code_new : (ids : List ProgramId) (r : ResolverId) (c : Option (List Insn)) (bytes : List ℕ) → IsCodeOf r c
    → resolver_text ids r c ≡ Code bytes → IsNewCode ids bytes
code_new ids (by.Builtin b) c bytes h e = absurd cc
code_new ids (by.Program p) None bytes h e = absurd h
code_new ids (by.Program p) (Some c) bytes h e = by_known (has_id p ids) refl e
  where
    by_known : (t : Bool) → has_id p ids ≡ t → cond t (Named p) (Code (flat_map insn_bytes c)) ≡ Code bytes → IsNewCode ids bytes
    by_known true is k = absurd cc
    by_known false is k =
        let same : flat_map insn_bytes c ≡ bytes = cc in
        let whole : h.bytes ≡ bytes = h.spelled.spelling ∙ same in
        record {
          code = c;
          accepted = subst (λ (b : List ℕ). IsAccepted b c) whole h.accepted;
          fresh = subst (λ (q : ProgramId). has_id q ids ≡ false) (h.named ∙ ap id_of whole) is;
        }

coded_at : (ds : List Entry) (e : Entry) (rest : List Entry)
    → AllByRecursion (λ (x : Entry). IsCodeOf x.1.registration.resolver x.1.code) (ds ++ e ∷ rest)
    → IsCodeOf e.1.registration.resolver e.1.code
coded_at [] e rest h = h.0
coded_at (d ∷ ds) e rest h = coded_at ds e rest h.1

module _ (known : Readings) where
  no_row_fault : (table : Table) → IsTable table → (ds : List Entry) (e : Entry) (rest : List Entry)
      → entries table ≡ ds ++ e ∷ rest → (text : RowText) → text ≡ row_text (ids_of [] ds) e.0 e.1
      → (fault : ItemFault) → IsRowFault ds text fault → ⊥
  no_row_fault table kept ds e rest parts text is item.NameAgain h = h
  no_row_fault table kept ds e rest parts text is item.NameOrder h =
      not_both (sym (above_there name_cmp ds e rest (sorted_as name_cmp (entries_sorted table) parts))
      ∙ sym (ap (λ (t : RowText). is_name_above ds t.name) is) ∙ h)
  no_row_fault table kept ds e rest parts text is item.NoProgram h =
      not_both (sym (named_known (ids_of [] ds) e.1.registration.resolver e.1.code h.0
      (sym (ap (λ (t : RowText). t.resolver) is) ∙ h.1)) ∙ h.2)
  no_row_fault table kept ds e rest parts text is item.ProgramAgain h =
      let new = code_new (ids_of [] ds) e.1.registration.resolver e.1.code h.0
      (coded_at ds e rest (subst (AllByRecursion (λ (x : Entry). IsCodeOf x.1.registration.resolver x.1.code)) parts (rows_of_table table kept).coded))
      (sym (ap (λ (t : RowText). t.resolver) is) ∙ h.1) in
      not_both (sym h.2 ∙ new.fresh)
  no_row_fault table kept ds e rest parts text is (item.Program f) h =
      let new = code_new (ids_of [] ds) e.1.registration.resolver e.1.code h.0
      (coded_at ds e rest (subst (AllByRecursion (λ (x : Entry). IsCodeOf x.1.registration.resolver x.1.code)) parts (rows_of_table table kept).coded))
      (sym (ap (λ (t : RowText). t.resolver) is) ∙ h.1) in
      known.accepted h.0 new.code f new.accepted h.2

  -- ---- one fault

  -- the fault of a row after those of the table, and none of a lesser number
  record IsLeast (table : Table) (text : RowText) (fault : ItemFault) : Type 0 where
    has : IsRowFault (entries table) text fault
    first : (other : ItemFault) → item_fault_number other < item_fault_number fault
        → IsRowFault (entries table) text other → ⊥

  abbrev First : List RowText → ItemFault → ℕ → Type 0
  First = IsFirst table_text IsTable IsLeast

  -- texts of a table's rows have none
  no_first : (table : Table) → IsTable table → (texts : List RowText) → texts ≡ table_text table → (fault : ItemFault) (at : ℕ)
      → First texts fault at → ⊥
  no_first table kept texts told fault at first =
      let found = row_at_text [] (entries table) texts at first.item told first.there in
      let rows : AreRows found.done =
      rows_front found.done (found.entry ∷ found.rest) (subst AreRows found.parts (rows_of_table table kept)) in
      let same : entries first.built ≡ found.done =
      same_rows known (entries first.built) found.done (rows_of_table first.built first.kept) rows (sym first.before ∙ found.told) in
      no_row_fault table kept found.done found.entry found.rest found.parts first.item found.is fault
      (subst (λ (es : List Entry). IsRowFault es first.item fault) same first.has.has)

  code_inj : (x y : List ℕ) → Code x ≡ Code y → x ≡ y
  code_inj x y e = cc

  same_item : (rows : List Entry) (text : RowText) (f g : ItemFault) → item_fault_number f ≡ item_fault_number g
      → IsRowFault rows text f → IsRowFault rows text g → f ≡ g
  same_item rows text item.NameAgain g e p q = absurd p
  same_item rows text f item.NameAgain e p q = absurd q
  same_item rows text item.NameOrder item.NameOrder e p q = refl
  same_item rows text item.NameOrder item.NoProgram e p q = absurd (omega (arith, e))
  same_item rows text item.NameOrder item.ProgramAgain e p q = absurd (omega (arith, e))
  same_item rows text item.NameOrder (item.Program g) e p q = absurd (omega (arith, e))
  same_item rows text item.NoProgram item.NameOrder e p q = absurd (omega (arith, e))
  same_item rows text item.NoProgram item.NoProgram e p q = refl
  same_item rows text item.NoProgram item.ProgramAgain e p q = absurd (omega (arith, e))
  same_item rows text item.NoProgram (item.Program g) e p q = absurd (omega (arith, e))
  same_item rows text item.ProgramAgain item.NameOrder e p q = absurd (omega (arith, e))
  same_item rows text item.ProgramAgain item.NoProgram e p q = absurd (omega (arith, e))
  same_item rows text item.ProgramAgain item.ProgramAgain e p q = refl
  same_item rows text item.ProgramAgain (item.Program g) e p q = absurd (omega (arith, e))
  same_item rows text (item.Program f) item.NameOrder e p q = absurd (omega (arith, e))
  same_item rows text (item.Program f) item.NoProgram e p q = absurd (omega (arith, e))
  same_item rows text (item.Program f) item.ProgramAgain e p q = absurd (omega (arith, e))
  same_item rows text (item.Program f) (item.Program g) e p q =
      let bytes : q.0 ≡ p.0 = code_inj q.0 p.0 (sym q.1 ∙ p.1) in
      ap item.Program (known.one_fault p.0 f g p.2 (subst (λ (b : List ℕ). IsProgramFault b g) bytes q.2))

  same_least : (table : Table) (text : RowText) (f g : ItemFault) → IsLeast table text f → IsLeast table text g → f ≡ g
  same_least table text f g p q =
      elim (cases_lt (item_fault_number f) (item_fault_number g)) [
        | inl lt ↦ absurd (q.first f lt p.has)
        | inr le ↦ elim (cases_lt (item_fault_number g) (item_fault_number f)) [
          | inl lt ↦ absurd (p.first g lt q.has)
          | inr ge ↦ same_item (entries table) text f g (omega (arith, le, ge)) p.has q.has
        ]
      ]

  as_first : (texts : List RowText) (f : ItemFault) (at : ℕ) → IsFirstRowFault texts f at → First texts f at
  as_first texts f at h = record {
    built = h.table;
    kept = h.kept;
    before = h.before;
    item = h.text;
    there = h.there;
    has = record { has = h.has; first = h.first };
  }

  pub no_rows_fault : (table : Table) → IsTable table → (f : MessageFault) → IsRowsFault (table_text table) f → ⊥
  no_rows_fault table kept (message.Item fault at) h =
      no_first table kept (table_text table) refl fault at (as_first (table_text table) fault at h)
  no_rows_fault table kept (message.Field what at) h = h
  no_rows_fault table kept message.OutOfMemory h = h

  pub one_rows_fault : (texts : List RowText) (f g : MessageFault) → IsRowsFault texts f → IsRowsFault texts g → f ≡ g
  one_rows_fault texts (message.Item f a) (message.Item g b) p q =
      let same = one_first (same_table known) no_first same_least texts f g a b (as_first texts f a p) (as_first texts g b q) in
      ap (λ (x : ItemFault). message.Item x a) same.0 ∙ ap (λ (k : ℕ). message.Item g k) same.1
  one_rows_fault texts (message.Field what at) g p q = absurd p
  one_rows_fault texts message.OutOfMemory g p q = absurd p
  one_rows_fault texts f (message.Field what at) p q = absurd q
  one_rows_fault texts f message.OutOfMemory p q = absurd q
