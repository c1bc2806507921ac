-- The rows of a table, written in the order of their names.
use Rattle.std.proofs.Common.{◌≡◌, ℕ, length, List, [], ◌∷◌, ◌++◌, Option, Some, refl, sym, ap, subst, ◌∙◌, append_assoc, append-nil, arith}
use Rattle.std.specs.Prelude.{map}
use Rattle.std.specs.List.{flat_map}
use Rattle.std.specs.FinMap.{get, len, entries, len-entries}
use Rattle.std.proofs.lemmas.List.Concat.{flat_map-append}
use Rattle.instruction_set.specs.declared.insn.Insn.{Insn}
use Rattle.clash_record.specs.declared.registrations.ProgramId.{ProgramId}
use Rattle.clash_record.specs.declared.registrations.Registration.{Registration}
use Rattle.clash_record.specs.Name.{Name}
use Rattle.partition_table.specs.Tables.{Row, Table, IsTable, rows_of}
use Rattle.exchange_codec.specs.Rows.{RowText, row_bytes, row_text, ids_after, ids_of, texts_of, AreIds, IsRow}
use Rattle.std.specs.BTreeSet.{BTreeSet}
use Rattle.std.specs.List.{AllByRecursion}
use Rattle.exchange_codec.proofs.EachLaws.{all_more}
use Rattle.std.specs.Int.{w32, w64, to_le_bytes}
use Rattle.exchange_law.specs.Sides.{Offer}
use Rattle.exchange_core.specs.laws.Entries.{has_entry}
use Rattle.exchange_codec.proofs.IdLaws.{texts_more, ids_more, no_text, no_id, texts_len}
use Rattle.exchange_codec.specs.Tables.{table_bytes, table_text, IsTableText}
use Rattle.exchange_codec.specs.Offers.{offers_header, offer_text, head_bytes, head_of, offer_bytes, IsHead, SpellsOffer}

abbrev pub pair : Name × Row → Name × Registration
pair e = (e.0, e.1.registration)

-- some of the rows are written, and these are left
pub record IsWritten (table : Table) (out now : List ℕ) (ids : BTreeSet ProgramId) (left : List (Name × Registration)) : Type 0 where
  pub done : List (Name × Row)
  pub rest : List (Name × Row)
  pub parts : entries table ≡ done ++ rest
  pub left_is : left ≡ map pair rest
  pub written : now ≡ out ++ flat_map row_bytes (texts_of [] done)
  pub fit : AllByRecursion IsRow (texts_of [] done)
  pub ids_are : AreIds ids (ids_of [] done)

pub none_written : (table : Table) (out : List ℕ) (ids : BTreeSet ProgramId) (left : List (Name × Registration))
    → AreIds ids [] → left ≡ rows_of table → IsWritten table out out ids left
none_written table out ids left none is = record {
  done = [];
  rest = entries table;
  parts = refl;
  left_is = is;
  written = sym (append-nil out) ∙ ap (λ (ts : List RowText). out ++ flat_map row_bytes ts) (sym no_text);
  fit = subst (AllByRecursion IsRow) (sym no_text) tt;
  ids_are = subst (AreIds ids) (sym no_id) none;
}

abbrev row_with : Registration → Option (List Insn) → Row
row_with r code = record { registration = r; code = code }

heads : {A : Type 0} (x y : A) (xs ys : List A) → x ∷ xs ≡ y ∷ ys → (x ≡ y) × (xs ≡ ys)
heads x y xs ys e = (cc, cc)

-- what is written of a row, for any ids that the set has
pub record WritesRow (now after : List ℕ) (ids ids_next : BTreeSet ProgramId) (name : Name) (r : Registration) (code : Option (List Insn)) : Type 0 where
  pub written : (known : List ProgramId) → AreIds ids known → after ≡ now ++ row_bytes (row_text known name (row_with r code))
  pub before : (known : List ProgramId) → AreIds ids known → AreIds ids_next (ids_after known r.resolver)
  pub fits : (known : List ProgramId) → AreIds ids known → IsRow (row_text known name (row_with r code))

next : (table : Table) (out now after : List ℕ) (ids ids_next : BTreeSet ProgramId) (left : List (Name × Registration))
    (name : Name) (r : Registration) (code : Option (List Insn)) (done rest : List (Name × Row))
    → entries table ≡ done ++ rest → (name, r) ∷ left ≡ map pair rest
    → now ≡ out ++ flat_map row_bytes (texts_of [] done) → AllByRecursion IsRow (texts_of [] done) → AreIds ids (ids_of [] done)
    → ((n : Name) (row : Row) → get table n ≡ Some row → row.registration.resolver ≡ r.resolver → code ≡ row.code)
    → WritesRow now after ids ids_next name r code → IsWritten table out after ids_next left
next table out now after ids ids_next left name r code done [] parts is so_far fit are each wrote = absurd cc
next table out now after ids ids_next left name r code done (e ∷ rest) parts is so_far fit are each wrote =
    let first = heads (name, r) (pair e) left (map pair rest) is in
    let known = ids_of [] done in
    let same_name : name ≡ e.0 = ap (λ (p : Name × Registration). p.0) first.0 in
    let same_registration : r ≡ e.1.registration = ap (λ (p : Name × Registration). p.1) first.0 in
    let behind : left ≡ map pair rest = first.1 in
    let found : get table e.0 ≡ Some e.1 = has_entry table done e rest parts in
    let same_code : code ≡ e.1.code = each e.0 e.1 found (ap (λ (x : Registration). x.resolver) (sym same_registration)) in
    let text : row_text known name (row_with r code) ≡ row_text known e.0 e.1 =
    ap (λ (n : Name). row_text known n (row_with r code)) same_name
    ∙ ap (λ (x : Registration). row_text known e.0 (row_with x code)) same_registration
    ∙ ap (λ (x : Option (List Insn)). row_text known e.0 (row_with e.1.registration x)) same_code in
    let last : flat_map row_bytes (row_text known e.0 e.1 ∷ []) ≡ row_bytes (row_text known e.0 e.1) =
    append-nil (row_bytes (row_text known e.0 e.1)) in
    record {
      done = done ++ e ∷ [];
      rest = rest;
      parts = parts ∙ sym (append_assoc done (e ∷ []) rest);
      left_is = behind;
      written = wrote.written known are ∙ ap (λ (ns : List ℕ). ns ++ row_bytes (row_text known name (row_with r code))) so_far
          ∙ ap (λ (t : RowText). (out ++ flat_map row_bytes (texts_of [] done)) ++ row_bytes t) text
          ∙ append_assoc out (flat_map row_bytes (texts_of [] done)) (row_bytes (row_text known e.0 e.1))
          ∙ ap (λ (ns : List ℕ). out ++ (flat_map row_bytes (texts_of [] done) ++ ns)) (sym last)
          ∙ ap (λ (ns : List ℕ). out ++ ns) (sym (flat_map-append row_bytes (texts_of [] done) (row_text known e.0 e.1 ∷ [])))
          ∙ ap (λ (ts : List RowText). out ++ flat_map row_bytes ts) (sym (texts_more [] done e));
      fit = subst (AllByRecursion IsRow) (sym (texts_more [] done e))
          (all_more IsRow (texts_of [] done) (row_text known e.0 e.1) fit (subst IsRow text (wrote.fits known are)));
      ids_are = subst (AreIds ids_next) (ap (λ (x : Registration). ids_after known x.resolver) same_registration ∙ sym (ids_more [] done e))
          (wrote.before known are);
    }

pub one_written : (table : Table) (out now after : List ℕ) (ids ids_next : BTreeSet ProgramId) (left : List (Name × Registration))
    (name : Name) (r : Registration) (code : Option (List Insn)) → IsWritten table out now ids ((name, r) ∷ left)
    → ((n : Name) (row : Row) → get table n ≡ Some row → row.registration.resolver ≡ r.resolver → code ≡ row.code)
    → WritesRow now after ids ids_next name r code → IsWritten table out after ids_next left
one_written table out now after ids ids_next left name r code w each wrote =
    next table out now after ids ids_next left name r code w.done w.rest w.parts w.left_is w.written w.fit w.ids_are each wrote

all_of : (table : Table) (done rest : List (Name × Row)) → entries table ≡ done ++ rest → [] ≡ map pair rest → done ≡ entries table
all_of table done [] parts e = sym (append-nil done) ∙ sym parts
all_of table done (x ∷ rest) parts e = absurd cc

pub all_fit : (table : Table) (out now : List ℕ) (ids : BTreeSet ProgramId) → IsWritten table out now ids []
    → AllByRecursion IsRow (texts_of [] (entries table))
all_fit table out now ids w =
    subst (λ (es : List (Name × Row)). AllByRecursion IsRow (texts_of [] es)) (all_of table w.done w.rest w.parts w.left_is) w.fit

pub all_written : (table : Table) (out now : List ℕ) (ids : BTreeSet ProgramId) → IsWritten table out now ids []
    → now ≡ out ++ flat_map row_bytes (texts_of [] (entries table))
all_written table out now ids w =
    w.written ∙ ap (λ (es : List (Name × Row)). out ++ flat_map row_bytes (texts_of [] es)) (all_of table w.done w.rest w.parts w.left_is)

-- a table of the type's has a text
pub table_text_fits : (table : Table) → IsTable table → AllByRecursion IsRow (table_text table) → IsTableText (table_text table)
table_text_fits table kept fit =
    record { few = omega (arith, kept.few, len-entries table, texts_len [] (entries table)); each = fit }

-- a table is written: the number of its rows, and the rows
pub table_written : (table : Table) (n : ℕ) (out counted done : List ℕ) → n ≡ len table → counted ≡ out ++ to_le_bytes w32 n
    → done ≡ counted ++ flat_map row_bytes (table_text table) → done ≡ out ++ table_bytes (table_text table)
table_written table n out counted done count wrote_count wrote_rows =
    let rows = flat_map row_bytes (table_text table) in
    let many : n ≡ length (table_text table) = count ∙ len-entries table ∙ sym (texts_len [] (entries table)) in
    wrote_rows
    ∙ ap (λ (x : List ℕ). x ++ rows) (wrote_count ∙ ap (λ (k : ℕ). out ++ to_le_bytes w32 k) many)
    ∙ append_assoc out (to_le_bytes w32 (length (table_text table))) rows

-- the parts of an offer, written one after the other
pub offer_written : (o : Offer) (table : Table) (a b c : List ℕ) → table ≡ o.table
    → a ≡ to_le_bytes w64 offers_header → b ≡ a ++ head_bytes (head_of o) → c ≡ b ++ table_bytes (table_text table)
    → c ≡ offer_bytes (offer_text o)
offer_written o table a b c is wrote_a wrote_b wrote_c =
    let header = to_le_bytes w64 offers_header in
    let head = head_bytes (head_of o) in
    let rows = table_bytes (table_text o.table) in
    wrote_c ∙ ap (λ (t : Table). b ++ table_bytes (table_text t)) is
    ∙ ap (λ (x : List ℕ). x ++ rows) (wrote_b ∙ ap (λ (x : List ℕ). x ++ head) wrote_a)
    ∙ append_assoc header head rows

-- an offer with a table of the type's is spelled
pub offer_spelled : (o : Offer) (table : Table) (bytes : List ℕ) → table ≡ o.table → IsTable table → IsHead (head_of o)
    → IsTableText (table_text table) → bytes ≡ offer_bytes (offer_text o) → SpellsOffer bytes o
offer_spelled o table bytes is kept head fits spelling =
    let here : IsTable o.table = subst IsTable is kept in
    record {
      is_text = record {
        head = head;
        rows = subst (λ (t : Table). IsTableText (table_text t)) is fits;
      };
      kept = here;
      spelling = spelling;
    }
