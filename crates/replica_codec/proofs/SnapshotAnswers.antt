-- The answers of `decode_snapshot`.
use Rattle.std.proofs.Common.{Vec, Global, append_assoc, ◌≡◌, ℕ, zero, suc, ◌-◌, ◌+◌, ◌^◌, ◌<◌, ◌≤◌, true, false, List, [], ◌∷◌, ◌++◌, length, take, drop, Some, Result, Ok, Err, refl, sym, ap, subst, ◌∙◌, arith, inl, inr}
use Rattle.std.specs.Prelude.{◌⊎◌, ◌&&◌, IsTrue, nat_lt, nat_le, IfOk, IfErr, map, slice_get}
use Rattle.std.specs.List.{flat_map, AllByRecursion}
use Rattle.std.specs.Int.{w32, to_le_bytes}
use Rattle.std.specs.FinMap.{entries, entries_sorted}
use Rattle.std.proofs.lemmas.Bool.{and_from, lt-ltb, le-leb}
use Rattle.refusals.specs.Answers.{out_of_memory, HasCause}
use Rattle.instruction_set.specs.declared.insn.Insn.{Insn}
use Rattle.insn_codec.specs.Encoding.{insn_bytes}
use Rattle.verifier.specs.Programs.{IsAccepted}
use Rattle.clash_record.specs.declared.registrations.ProgramId.{ProgramId}
use Rattle.clash_record.specs.Orders.{id_cmp}
use Rattle.upload_store.specs.Programs.{Programs, IsProgram, id_of, max_programs}
use Rattle.partition_table.specs.Tables.{Table, IsTable, most_names}
use Rattle.replica_law.specs.Groups.{Snapshot}
use Rattle.replica.specs.Halves.{HalfState}
use Rattle.exchange_codec.specs.declared.fault.ItemFault.{ItemFault}
use Rattle.exchange_codec.specs.declared.fault.ItemFault.TheVariants as item
use Rattle.exchange_codec.specs.declared.fault.MessageFault.{MessageFault}
use Rattle.exchange_codec.specs.declared.fault.MessageFault.TheVariants as message
use Rattle.exchange_codec.specs.laws.Decoding.{AreExact, Decides, are_exact}
use Rattle.exchange_codec.specs.laws.Firsts.{IsFirst, one_first, some_inj, above_there, sorted_as}
use Rattle.exchange_codec.specs.laws.Fields.{IsBytes}
use Rattle.exchange_codec.specs.laws.Programs.{Readings}
use Rattle.exchange_codec.specs.Tables.{table_bytes, table_text, IsTableText, SpellsTable, IsTableFault}
use Rattle.exchange_codec.specs.laws.Tables.{rows_spelled}
use Rattle.exchange_codec.specs.Faults.{field_fault_number, item_fault_number, message_fault_number}
use Rattle.exchange_codec.specs.declared.fault.FieldFault.{FieldFault}
use Rattle.exchange_codec.specs.declared.fault.FieldFault.TheVariants as field
use Rattle.replica_codec.specs.declared.fault.ReplicaMessageFault.{ReplicaMessageFault}
use Rattle.replica_codec.specs.declared.fault.ReplicaMessageFault.TheVariants.{Message}
use Rattle.replica_codec.specs.Faults.{replica_message_fault_number}
use Rattle.replica_codec.specs.Frames.{snapshot_header, frame_bytes, no_head}
use Rattle.replica_codec.proofs.FrameLaws.{body_written, behind_head}
use Rattle.replica_codec.specs.Entries.{position_bytes}
use Rattle.replica_codec.specs.Snapshots.{latest_bytes, codes_bytes, SnapshotText, snapshot_text, snapshot_bytes, text_bytes, store_codes, AreStored, IsStoreOf, IsStoredFault, IsFirstStoredFault, SpellsSnapshot, IsSnapshotText, IsSnapshotFault, snapshot_from, is_id_above, behind}
use Rattle.replica_codec.specs.Stores.{FitsBehind, IsCodesFault, IsPartsFault, IsSnapshotOf}
use Rattle.replica_codec.proofs.SnapshotLaws.{text_spelled, text_read}
use Rattle.replica_codec.proofs.StoreLaws.{Entry, heads, code_text, same_entries, same_store}

abbrev Read : Type 0
Read = SnapshotText × List ℕ

-- ---- codes of a store have no fault

abbrev Each : List Entry → Type 0
Each es = AllByRecursion (λ (e : Entry). IsProgram e.0 e.1) es

-- the program at an index, and those before it
record IsPlaced (es : List Entry) (codes : List (List ℕ)) (at : ℕ) (code : List ℕ) : Type 0 where
  done : List Entry
  entry : Entry
  rest : List Entry
  parts : es ≡ done ++ entry ∷ rest
  told : take at codes ≡ map code_text done
  is : code ≡ code_text entry

placed_at : (es : List Entry) (codes : List (List ℕ)) (at : ℕ) (code : List ℕ) → codes ≡ map code_text es
    → slice_get codes at ≡ Some code → IsPlaced es codes at code
placed_at es [] at code is there = absurd cc
placed_at [] (c ∷ codes) at code is there = absurd cc
placed_at (e ∷ es) (c ∷ codes) zero code is there =
    record { done = []; entry = e; rest = es; parts = refl; told = refl; is = sym (some_inj c code there) ∙ (heads c (code_text e) codes (map code_text es) is).0 }
placed_at (e ∷ es) (c ∷ codes) (suc at) code is there =
    let parts = heads c (code_text e) codes (map code_text es) is in
    let p = placed_at es codes at code parts.1 there in
    record {
      done = e ∷ p.done;
      entry = p.entry;
      rest = p.rest;
      parts = ap (λ (xs : List Entry). e ∷ xs) p.parts;
      told = ap (λ (x : List ℕ). x ∷ take at codes) parts.0 ∙ ap (λ (xs : List (List ℕ)). code_text e ∷ xs) p.told;
      is = p.is;
    }

front_of : (ds rest : List Entry) → Each (ds ++ rest) → Each ds
front_of [] rest h = tt
front_of (d ∷ ds) rest h = (h.0, front_of ds rest h.1)

each_at : (ds : List Entry) (e : Entry) (rest : List Entry) → Each (ds ++ e ∷ rest) → IsProgram e.0 e.1
each_at [] e rest h = h.0
each_at (d ∷ ds) e rest h = each_at ds e rest h.1

not_both : true ≡ false → ⊥
not_both e = cc

module _ (known : Readings) where
  no_stored_fault : (store : Programs) (id : ProgramId) (program : List Insn) (code : List ℕ) (f : ItemFault) → IsProgram id program
      → code ≡ flat_map insn_bytes program → is_id_above (entries store) id ≡ true → IsStoredFault store code f → ⊥
  no_stored_fault store id program code (item.Program g) p is above h =
      let whole : p.bytes ≡ code = p.spelled.spelling ∙ sym is in
      known.accepted code program g (subst (λ (b : List ℕ). IsAccepted b program) whole p.accepted) h
  no_stored_fault store id program code item.NameOrder p is above h =
      let named : id ≡ id_of code = p.named ∙ ap id_of (p.spelled.spelling ∙ sym is) in
      not_both (sym above ∙ ap (is_id_above (entries store)) named ∙ h.2)
  no_stored_fault store id program code item.NameAgain p is above h = h
  no_stored_fault store id program code item.NoProgram p is above h = h
  no_stored_fault store id program code item.ProgramAgain p is above h = h

  abbrev First : List (List ℕ) → ItemFault → ℕ → Type 0
  First = IsFirst store_codes AreStored IsStoredFault

  -- codes of a store have none
  no_first : (store : Programs) → AreStored store → (codes : List (List ℕ)) → codes ≡ store_codes store → (f : ItemFault) (at : ℕ)
      → First codes f at → ⊥
  no_first store stored codes told f at first =
      let p = placed_at (entries store) codes at first.item told first.there in
      let all = subst Each p.parts stored in
      let same : entries first.built ≡ p.done =
      same_entries known (entries first.built) p.done first.kept (front_of p.done (p.entry ∷ p.rest) all) (sym first.before ∙ p.told) in
      let above = ap (λ (es : List Entry). is_id_above es p.entry.0) same
      ∙ above_there id_cmp p.done p.entry p.rest (sorted_as id_cmp (entries_sorted store) p.parts) in
      no_stored_fault first.built p.entry.0 p.entry.1 first.item f (each_at p.done p.entry p.rest all) p.is above first.has

  same_item : (store : Programs) (code : List ℕ) (f g : ItemFault) → IsStoredFault store code f → IsStoredFault store code g → f ≡ g
  same_item store code (item.Program f) (item.Program g) p q = ap item.Program (known.one_fault code f g p q)
  same_item store code (item.Program f) item.NameOrder p q = absurd (known.accepted code q.0 f q.1 p)
  same_item store code item.NameOrder (item.Program g) p q = absurd (known.accepted code p.0 g p.1 q)
  same_item store code item.NameOrder item.NameOrder p q = refl
  same_item store code item.NameAgain g p q = absurd p
  same_item store code item.NoProgram g p q = absurd p
  same_item store code item.ProgramAgain g p q = absurd p
  same_item store code f item.NameAgain p q = absurd q
  same_item store code f item.NoProgram p q = absurd q
  same_item store code f item.ProgramAgain p q = absurd q

  as_first : (codes : List (List ℕ)) (f : ItemFault) (at : ℕ) → IsFirstStoredFault codes f at → First codes f at
  as_first codes f at h =
      record { built = h.store; kept = h.stored; before = h.before; item = h.code; there = h.there; has = h.has }

  no_codes_fault : (store : Programs) (codes : List (List ℕ)) → IsStoreOf codes store → (f : ReplicaMessageFault)
      → IsCodesFault codes f → ⊥
  no_codes_fault store codes is f h = no_first store is.stored codes is.told h.0 h.1 (as_first codes h.0 h.1 h.3)

  one_codes_fault : (codes : List (List ℕ)) (f g : ReplicaMessageFault) → IsCodesFault codes f → IsCodesFault codes g → f ≡ g
  one_codes_fault codes f g p q =
      let same = one_first (same_store known) no_first same_item codes p.0 q.0 p.1 q.1
      (as_first codes p.0 p.1 p.3) (as_first codes q.0 q.1 q.3) in
      p.2 ∙ ap (λ (w : ItemFault). Message (message.Item w p.1)) same.0
      ∙ ap (λ (k : ℕ). Message (message.Item q.0 k)) same.1 ∙ sym q.2

-- ---- snapshots

table_there : (bytes : List ℕ) (s : Snapshot HalfState) → SpellsSnapshot bytes s → SpellsTable (table_bytes (table_text s.state.table)) s.state.table
table_there bytes s h = record { is_text = h.rows; kept = h.kept; spelling = refl }

abbrev read_text : Snapshot HalfState → Read
read_text s = (snapshot_text s, table_bytes (table_text s.state.table))

spelled_text : (bytes : List ℕ) (s : Snapshot HalfState) → SpellsSnapshot bytes s → snapshot_from bytes ≡ Ok (read_text s)
spelled_text bytes s h =
    ap snapshot_from h.spelling ∙ text_read (snapshot_text s) (table_bytes (table_text s.state.table)) h.is_text h.short

store_there : (bytes : List ℕ) (s : Snapshot HalfState) → SpellsSnapshot bytes s → IsStoreOf (store_codes s.state.store) s.state.store
store_there bytes s h = record { stored = h.stored; told = refl }

same_snapshot : (s t : Snapshot HalfState) → s.at ≡ t.at → s.state.store ≡ t.state.store → s.state.table ≡ t.state.table
    → s.state.limit ≡ t.state.limit → s.state.latest ≡ t.state.latest → s ≡ t
same_snapshot s t at store table limit latest i = record {
  at = at i;
  state = record { store = store i; table = table i; limit = limit i; latest = latest i };
}

-- what the theorem on tables states
abbrev Tables : Type 0
Tables = (bytes : List ℕ) → AreExact (SpellsTable bytes) (IsTableFault bytes)

pub tables : ((bytes : List ℕ) (s t : Table) → SpellsTable bytes s → SpellsTable bytes t → s ≡ t)
    → ((bytes : List ℕ) (t : Table) (f : MessageFault) → SpellsTable bytes t → IsTableFault bytes f → ⊥)
    → ((bytes : List ℕ) (f g : MessageFault) → IsTableFault bytes f → IsTableFault bytes g → f ≡ g) → Tables
tables one either one_fault bytes = record { one = one bytes; either = either bytes; one_fault = one_fault bytes }

module _ (known : Readings) (of_tables : Tables) (bytes : List ℕ) where
  abbrev IsReadFault : Read → ReplicaMessageFault → Type 0
  IsReadFault x = IsPartsFault x.0 x.1 (length bytes - 8 - length x.1)

  cause : (f : ReplicaMessageFault) → IsSnapshotFault bytes f
      → (snapshot_from bytes ≡ Err f) ⊎ ((x : Read) × (snapshot_from bytes ≡ Ok x) × IsReadFault x f)
  cause f (inl h) = inl h
  cause f (inr (inl h)) = inr (h.text, h.read, inl (h.what, h.at, h.is, h.first))
  cause f (inr (inr h)) = inr (h.text, h.read, inr (h.store, h.what, h.stored, h.is, h.table))

  no_parts_fault : (s : Snapshot HalfState) (f : ReplicaMessageFault) → SpellsSnapshot bytes s → IsReadFault (read_text s) f → ⊥
  no_parts_fault s f p (inl h) = no_codes_fault known s.state.store (store_codes s.state.store) (store_there bytes s p) f h
  no_parts_fault s f p (inr h) = (of_tables (table_bytes (table_text s.state.table))).either s.state.table h.1 (table_there bytes s p) h.4

  one_parts_fault : (x : Read) (f g : ReplicaMessageFault) → IsReadFault x f → IsReadFault x g → f ≡ g
  one_parts_fault x f g (inl p) (inl q) = one_codes_fault known x.0.codes f g p q
  one_parts_fault x f g (inl p) (inr q) = absurd (no_codes_fault known q.0 x.0.codes q.2 f p)
  one_parts_fault x f g (inr p) (inl q) = absurd (no_codes_fault known p.0 x.0.codes p.2 g q)
  one_parts_fault x f g (inr p) (inr q) =
      p.3 ∙ ap (λ (w : MessageFault). Message (behind (length bytes - 8 - length x.1) (length x.0.codes) w))
      ((of_tables x.1).one_fault p.1 q.1 p.4 q.4) ∙ sym q.3

  one : (s t : Snapshot HalfState) → SpellsSnapshot bytes s → SpellsSnapshot bytes t → read_text s ≡ read_text t → s ≡ t
  one s t p q same =
      same_snapshot s t (ap (λ (x : Read). x.0.at) same)
      (same_store known s.state.store t.state.store p.stored q.stored (ap (λ (x : Read). x.0.codes) same))
      ((of_tables (table_bytes (table_text t.state.table))).one s.state.table t.state.table
      (subst (λ (b : List ℕ). SpellsTable b s.state.table) (ap (λ (x : Read). x.1) same) (table_there bytes s p)) (table_there bytes t q))
      (ap (λ (x : Read). x.0.limit) same) (ap (λ (x : Read). x.0.latest) same)

  -- bytes spell one snapshot, or have one fault
  pub snapshots : AreExact (SpellsSnapshot bytes) (IsSnapshotFault bytes)
  snapshots =
      let by : Decides (snapshot_from bytes) read_text (SpellsSnapshot bytes) (IsSnapshotFault bytes) IsReadFault = record {
        reads = spelled_text bytes;
        cause = cause;
        one = one;
        either = no_parts_fault;
        one_fault = one_parts_fault;
      } in
      are_exact by

-- the snapshot that is built of the text and the table
pub is_spelled : (bytes : List ℕ) (x : SnapshotText × List ℕ) (r : Result (Snapshot HalfState) ReplicaMessageFault) → IsBytes bytes
    → snapshot_from bytes ≡ Ok x → IfOk r (IsSnapshotOf x.0 x.1) → IfOk r (SpellsSnapshot bytes)
is_spelled bytes x (Ok s) fits read h =
    let t = text_spelled bytes x fits read in
    let whole : text_bytes x.0 ++ x.1 ≡ snapshot_bytes s =
    ap (λ (y : SnapshotText). text_bytes y ++ x.1) h.told ∙ ap (λ (y : List ℕ). text_bytes (snapshot_text s) ++ y) h.table.spelling in
    record {
      is_text = subst IsSnapshotText h.told t.fits;
      stored = h.stored;
      rows = h.table.is_text;
      kept = h.table.kept;
      short = subst (λ (y : List ℕ). length y < 2 ^ 64) whole t.short;
      spelling = t.spelling ∙ ap (frame_bytes snapshot_header) whole;
    }
is_spelled bytes x (Err f) fits read h = tt

pub is_refused : (bytes : List ℕ) (x : SnapshotText × List ℕ) (place : ℕ) (r : Result (Snapshot HalfState) ReplicaMessageFault)
    → snapshot_from bytes ≡ Ok x → place ≡ length bytes - 8 - length x.1
    → IfErr r (HasCause replica_message_fault_number (IsPartsFault x.0 x.1 place))
    → IfErr r (HasCause replica_message_fault_number (IsSnapshotFault bytes))
is_refused bytes x place (Ok s) read is h = tt
is_refused bytes x place (Err f) read is (inl (inl h)) =
    inl (inr (inl (record { text = x; read = read; what = h.0; at = h.1; is = h.2; first = h.3 })))
is_refused bytes x place (Err f) read is (inl (inr h)) =
    inl (inr (inr (record {
      text = x;
      read = read;
      store = h.0;
      stored = h.2;
      what = h.1;
      is = h.3 ∙ ap (λ (k : ℕ). Message (behind k (length x.0.codes) h.1)) is;
      table = h.4;
    })))
is_refused bytes x place (Err f) read is (inr out) = inr out

-- the fault of a field
pub read_fault : (bytes : List ℕ) (f : ReplicaMessageFault)
    → (snapshot_from bytes ≡ Err f) ⊎ (replica_message_fault_number f ≡ out_of_memory)
    → HasCause replica_message_fault_number (IsSnapshotFault bytes) f
read_fault bytes f (inl h) = inl (inl h)
read_fault bytes f (inr out) = inr out

-- ---- the parts of a snapshot

at_within : {A : Type 0} (xs : List A) (k : ℕ) (x : A) → slice_get xs k ≡ Some x → k < length xs
at_within [] k x e = absurd cc
at_within (y ∷ xs) zero x e = omega arith
at_within (y ∷ xs) (suc k) x e = omega (arith, at_within xs k x e)

field_never : (what : FieldFault) → field_fault_number what ≡ out_of_memory → ⊥
field_never field.Cut e = omega (arith, e)
field_never field.Header e = omega (arith, e)
field_never field.Trailing e = omega (arith, e)
field_never field.Count e = omega (arith, e)
field_never field.Side e = omega (arith, e)
field_never field.Name e = omega (arith, e)
field_never field.Resolver e = omega (arith, e)
field_never field.Version e = omega (arith, e)

item_never : (what : ItemFault) → item_fault_number what ≡ out_of_memory → ⊥
item_never item.NameAgain e = omega (arith, e)
item_never item.NameOrder e = omega (arith, e)
item_never item.NoProgram e = omega (arith, e)
item_never item.ProgramAgain e = omega (arith, e)
item_never (item.Program f) e = omega (arith, e)

-- the place of a fault of the table fits into a number
pub fits_behind : (rest : List ℕ) (place items : ℕ) (f : MessageFault) → IsBytes rest → place + length rest < 2 ^ 64
    → items ≤ max_programs → HasCause message_fault_number (IsTableFault rest) f → FitsBehind place items f
fits_behind rest place items (message.Field what at) fits short few (inl h) = omega (arith, short, h.2)
fits_behind rest place items (message.Field what at) fits short few (inr out) = absurd (field_never what out)
fits_behind rest place items (message.Item what at) fits short few (inl h) =
    omega (arith, few, (rows_spelled rest h.0 fits h.1).0.few, at_within h.0 at h.2.text h.2.there)
fits_behind rest place items (message.Item what at) fits short few (inr out) = absurd (item_never what out)
fits_behind rest place items message.OutOfMemory fits short few h = tt

behind_number : (place items : ℕ) (f : MessageFault) → message_fault_number (behind place items f) ≡ message_fault_number f
behind_number place items (message.Field what at) = refl
behind_number place items (message.Item what at) = refl
behind_number place items message.OutOfMemory = refl

pub table_refused : (text : SnapshotText) (rest : List ℕ) (place items : ℕ) (store : Programs) (f r : MessageFault)
    → IsStoreOf text.codes store → items ≡ length text.codes → r ≡ behind place items f
    → HasCause message_fault_number (IsTableFault rest) f
    → HasCause replica_message_fault_number (IsPartsFault text rest place) (Message r)
table_refused text rest place items store f r stored size is (inl cause) =
    inl (inr (store, f, stored, ap Message (is ∙ ap (λ (k : ℕ). behind place k f) size), cause))
table_refused text rest place items store f r stored size is (inr out) =
    inr (ap message_fault_number is ∙ behind_number place items f ∙ out)

-- ---- snapshots that are written

pub is_limit : (n : ℕ) → 0 < n → n ≤ most_names → IsTrue (nat_lt 0 n && nat_le n most_names)
is_limit n some few = and_from (nat_lt 0 n) (nat_le n most_names) (lt-ltb 0 n some) (le-leb n most_names few)

pub encoded : {E : Type 0} (s : Snapshot HalfState) (a b c d e f : List ℕ) (r : Result (Vec ℕ Global) E) → a ≡ no_head
    → b ≡ a ++ position_bytes s.at → c ≡ b ++ to_le_bytes w32 s.state.limit → d ≡ c ++ latest_bytes s.state.latest
    → e ≡ d ++ codes_bytes (store_codes s.state.store) → f ≡ e ++ table_bytes (table_text s.state.table)
    → IsSnapshotText (snapshot_text s) → AreStored s.state.store → IsTableText (table_text s.state.table)
    → IsTable s.state.table → length f < 2 ^ 64
    → IfOk r (λ (v : Vec ℕ Global). v.items ≡ frame_bytes snapshot_header (drop 24 f))
    → IfOk r (λ (v : Vec ℕ Global). SpellsSnapshot v.items s)
encoded s a b c d e f (Ok v) none wrote_b wrote_c wrote_d wrote_e wrote_f text stored rows kept short h =
    let p = position_bytes s.at in
    let n = to_le_bytes w32 s.state.limit in
    let l = latest_bytes s.state.latest in
    let k = codes_bytes (store_codes s.state.store) in
    let t = table_bytes (table_text s.state.table) in
    let front : e ≡ no_head ++ text_bytes (snapshot_text s) =
    wrote_e ∙ ap (λ (x : List ℕ). x ++ k) (wrote_d ∙ ap (λ (x : List ℕ). x ++ l) (wrote_c
    ∙ ap (λ (x : List ℕ). x ++ n) (wrote_b ∙ ap (λ (x : List ℕ). x ++ p) none)))
    ∙ append_assoc ((no_head ++ p) ++ n) l k ∙ append_assoc (no_head ++ p) n (l ++ k) ∙ append_assoc no_head p (n ++ (l ++ k)) in
    let placed : f ≡ no_head ++ snapshot_bytes s =
    wrote_f ∙ ap (λ (x : List ℕ). x ++ t) front ∙ append_assoc no_head (text_bytes (snapshot_text s)) t in
    record {
      is_text = text;
      stored = stored;
      rows = rows;
      kept = kept;
      short = behind_head f (snapshot_bytes s) placed short;
      spelling = h ∙ ap (frame_bytes snapshot_header) (body_written f (snapshot_bytes s) placed);
    }
encoded s a b c d e f (Err x) none wrote_b wrote_c wrote_d wrote_e wrote_f text stored rows kept short h = tt
