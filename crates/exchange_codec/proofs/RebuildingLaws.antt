-- The rows of an offer, added one after the other.
use Rattle.std.proofs.Common.{append_assoc, ◌≡◌, ℕ, ◌+◌, ◌-◌, ◌<◌, ◌≤◌, Bool, true, false, List, [], ◌∷◌, ◌++◌, length, take, None, Option, Some, Result, Ok, Err, refl, sym, ap, subst, ◌∙◌, arith, length-append, inl, inr}
use Rattle.std.specs.Prelude.{◌&&◌, slice_get, IfErr, IfOk}
use Rattle.std.specs.Ordering.{is_lt}
use Rattle.std.specs.declared.cmp.Ordering.{Ordering}
use Rattle.std.specs.declared.cmp.Ordering.TheVariants.{Less, Equal, Greater}
use Rattle.std.specs.FinMap.{entries, entries_sorted, len, len-entries}
use Rattle.std.specs.FinMap.Entries.{is_sorted}
use Rattle.std.proofs.lemmas.Bool.{and_parts}
use Rattle.std.proofs.lemmas.List.Folds.{list_all-append}
use Rattle.clash_record.specs.Name.{Name}
use Rattle.clash_record.specs.Orders.{name_cmp}
use Rattle.clash_record.specs.laws.Orders.{names_total}
use Rattle.partition_table.specs.Tables.{Row, Table, IsTable, most_names}
use Rattle.refusals.specs.Answers.{HasCause}
use Rattle.exchange_codec.specs.declared.fault.MessageFault.{MessageFault}
use Rattle.exchange_codec.specs.declared.fault.MessageFault.TheVariants as message
use Rattle.exchange_codec.specs.declared.fault.ReadError.{ReadError}
use Rattle.exchange_codec.specs.declared.fault.ReadError.TheVariants as errors
use Rattle.exchange_codec.specs.Faults.{message_fault_number}
use Rattle.exchange_codec.specs.Reading.{Fails, many_at}
use Rattle.exchange_codec.specs.Rows.{RowText, row_at, texts_of}
use Rattle.exchange_codec.specs.Offers.{is_name_above}
use Rattle.exchange_codec.specs.laws.Firsts.{above_there, sorted_as}
use Rattle.exchange_codec.specs.laws.Many.{with_front, starts, goes_on, is_done}
use Rattle.exchange_codec.specs.model.Building.{Programs, AreProgramsOf, HasRow, IsBuiltOf, IsLast, IsLeastRowFault, IsRowsFault}
use Rattle.exchange_codec.proofs.IdLaws.{texts_len, no_text}

abbrev Entry : Type 0
Entry = Name × Row

-- ---- the place of a name

less : (o : Ordering) → is_lt o ≡ true → o ≡ Less
less Less e = refl
less Equal e = absurd cc
less Greater e = absurd cc

further : (a b c : Name) → is_lt (name_cmp a b) ≡ true → is_lt (name_cmp b c) ≡ true → is_lt (name_cmp a c) ≡ true
further a b c p q = ap is_lt (names_total.trans a b c (less _ p) (less _ q))

above_further : (ds : List Entry) (a b : Name) → is_name_above ds a ≡ true → is_lt (name_cmp a b) ≡ true → is_name_above ds b ≡ true
above_further [] a b h lt = refl
above_further (d ∷ ds) a b h lt =
    let parts = and_parts (is_lt (name_cmp d.0 a)) (is_name_above ds a) h in
    rw (further d.0 a b parts.0 lt, above_further ds a b parts.1 lt) refl

and_false : (a : Bool) → (a && false) ≡ false
and_false true = refl
and_false false = refl

module _ (table : Table) (name last : Name) (is_last : IsLast table (Some last)) where
  sorted : is_sorted name_cmp (is_last.0 ++ (last, is_last.1) ∷ []) ≡ true
  sorted = sorted_as name_cmp (entries_sorted table) is_last.2

  at_last : (b : Bool) → is_lt (name_cmp last name) ≡ b
      → (is_name_above is_last.0 name && is_name_above ((last, is_last.1) ∷ []) name) ≡ b
  at_last true here =
      rw (above_further is_last.0 last name (above_there name_cmp is_last.0 (last, is_last.1) [] sorted) here, here) refl
  at_last false here = rw here (and_false (is_name_above is_last.0 name))

  -- a name is above those of the table if it is above the last one
  pub above_last : is_name_above (entries table) name ≡ is_lt (name_cmp last name)
  above_last =
      ap (λ (es : List Entry). is_name_above es name) is_last.2
      ∙ list_all-append (λ (e : Entry). is_lt (name_cmp e.0 name)) is_last.0 ((last, is_last.1) ∷ [])
      ∙ at_last (is_lt (name_cmp last name)) refl

-- ---- the loop

-- the table has the first `k` rows of the bytes, and the others follow
pub record IsRead (count k : ℕ) (bytes rest : List ℕ) (table : Table) (programs : Programs) (last : Option Name) : Type 0 where
  pub programs_of : AreProgramsOf table programs
  pub last_of : IsLast table last
  pub rows : len table ≡ k
  pub parts : with_front (texts_of [] (entries table)) (many_at row_at (count - k) rest) ≡ many_at row_at count bytes

pub read_starts : (count : ℕ) (bytes : List ℕ) (table : Table) (programs : Programs) → AreProgramsOf table programs
    → entries table ≡ [] → IsRead count 0 bytes bytes table programs None
read_starts count bytes table programs of none = record {
  programs_of = of;
  last_of = none;
  rows = len-entries table ∙ ap length none;
  parts = ap (λ (ts : List RowText). with_front ts (many_at row_at (count - 0) bytes)) (ap (texts_of []) none ∙ no_text)
      ∙ starts row_at count bytes;
}

module _ (count k : ℕ) (bytes rest : List ℕ) (table : Table) (programs : Programs) (last : Option Name)
    (read : IsRead count k bytes rest table programs last) where
  pub read_room : k < count → count ≤ most_names → len table < most_names
  read_room lt few = omega (arith, lt, few, read.rows)

  pub read_ends : count ≤ k → many_at row_at count bytes ≡ Ok (texts_of [] (entries table), rest)
  read_ends le = is_done row_at (texts_of [] (entries table)) count k rest (many_at row_at count bytes) le read.parts

  module _ (text : RowText) (after : List ℕ) (lt : k < count) (there : row_at rest ≡ Ok (text, after)) where
    next : with_front (texts_of [] (entries table) ++ text ∷ []) (many_at row_at (count - (k + 1)) after)
        ≡ many_at row_at count bytes
    next = goes_on row_at (texts_of [] (entries table)) count k rest text after (many_at row_at count bytes) lt there read.parts

    pub read_on : (new : Table) (more : Programs) → HasRow table text new more
        → IsRead count (k + 1) bytes after new more (Some text.name)
    read_on new more has = record {
      programs_of = has.programs_of;
      last_of = (entries table, has.row, has.last);
      rows = omega (
        arith,
        len-entries new,
        ap length has.last,
        length-append (entries table) ((text.name, has.row) ∷ []),
        len-entries table,
        read.rows,
      );
      parts = ap (λ (ts : List RowText). with_front ts (many_at row_at (count - (k + 1)) after)) has.told ∙ next;
    }

    fault_of_rest : (e : ReadError) (n : ℕ) → n ≡ count - (k + 1) → Fails e (many_at row_at n after)
        → Fails e (many_at row_at count bytes)
    fault_of_rest errors.Memory n is h = tt
    fault_of_rest (errors.Fault f) n is h =
        sym next ∙ ap (with_front (texts_of [] (entries table) ++ text ∷ [])) (ap (λ (m : ℕ). many_at row_at m after) (sym is) ∙ h)

    -- a field of a later row is invalid
    pub read_fails_later : (e : ReadError) → Fails e (many_at row_at (count - k - 1) after)
        → Fails e (many_at row_at count bytes)
    read_fails_later e h = fault_of_rest e (count - k - 1) (omega arith) h

    module _ (more : List RowText) (end : List ℕ) (rest_is : many_at row_at (count - k - 1) after ≡ Ok (more, end)) where
      pub all_texts : List RowText
      all_texts = texts_of [] (entries table) ++ text ∷ more

      pub read_all : many_at row_at count bytes ≡ Ok (all_texts, end)
      unfolding all_texts
      read_all =
          let same : count - k - 1 ≡ count - (k + 1) = omega arith in
          sym next
          ∙ ap (with_front (texts_of [] (entries table) ++ text ∷ []))
          (ap (λ (m : ℕ). many_at row_at m after) (sym same) ∙ rest_is)
          ∙ ap (λ (ts : List RowText). Ok (ts, end)) (simp append_assoc)

      take_front : (front others : List RowText) → take (length front) (front ++ others) ≡ front
      take_front [] others = refl
      take_front (t ∷ front) others = ap (λ (ts : List RowText). t ∷ ts) (take_front front others)

      get_next : (front others : List RowText) → slice_get (front ++ text ∷ others) (length front) ≡ Some text
      get_next [] others = refl
      get_next (t ∷ front) others = get_next front others

      length_is : length (texts_of [] (entries table)) ≡ k
      length_is = texts_len [] (entries table) ∙ sym (len-entries table) ∙ read.rows

      fault_there : (f : MessageFault) → IsTable table → IsLeastRowFault (entries table) text k f → IsRowsFault all_texts f
      unfolding all_texts
      fault_there f kept least =
          subst (IsRowsFault all_texts) (sym least.is) (record {
            table = table;
            kept = kept;
            before = ap (λ (n : ℕ). take n all_texts) (sym length_is) ∙ take_front (texts_of [] (entries table)) (text ∷ more);
            text = text;
            there = ap (slice_get all_texts) (sym length_is) ∙ get_next (texts_of [] (entries table)) more;
            has = least.has;
            first = least.first;
          })

      -- the fault of this row is the first of a row
      pub read_cause : (f : MessageFault) → IsTable table
          → HasCause message_fault_number (IsLeastRowFault (entries table) text k) f
          → HasCause message_fault_number (IsRowsFault all_texts) f
      read_cause f kept (inl least) = inl (fault_there f kept least)
      read_cause f kept (inr out) = inr out

-- what is returned of the table
pub built_of : (r : Result Table MessageFault) (table : Table) → IfOk r (λ made. (made ≡ table) × IsTable made)
    → IfErr r (λ fault. fault ≡ message.OutOfMemory) → IsBuiltOf (texts_of [] (entries table)) r
built_of (Ok made) table h out = (ap (λ (t : Table). texts_of [] (entries t)) (sym h.0), h.1)
built_of (Err f) table h out =
    subst (HasCause message_fault_number (IsRowsFault (texts_of [] (entries table)))) (sym out) (inr refl)
