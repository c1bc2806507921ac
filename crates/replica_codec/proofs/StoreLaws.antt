-- The programs of a store, in the order of their ids.
use Rattle.std.proofs.Common.{◌≡◌, ℕ, zero, suc, ◌+◌, ◌<◌, ◌≤◌, Bool, true, false, cond, List, [], ◌∷◌, ◌++◌, length, take, get_or, Option, Some, None, refl, sym, ap, subst, ◌∙◌, append_assoc, append-nil, arith, inl, inr, length-take}
use Rattle.std.specs.Prelude.{map, slice_get, IfSome}
use Rattle.std.specs.Option.{option_map}
use Rattle.std.specs.Int.{w32, to_le_bytes}
use Rattle.std.specs.List.{flat_map, AllByRecursion}
use Rattle.std.specs.declared.cmp.Ordering.{Ordering}
use Rattle.std.specs.declared.cmp.Ordering.TheVariants.{Less, Equal, Greater}
use Rattle.std.specs.Ordering.{is_lt, is_eq, eq_by_cmp, ordering_reverse}
use Rattle.std.specs.FinMap.{get, insert, empty, len, entries, entries_sorted, get-entries, len-empty, len-entries, entries-insert, same_entries_map}
use Rattle.std.specs.FinMap.Entries.{find, put, is_sorted, below_all}
use Rattle.std.proofs.lemmas.Bool.{and_parts}
use Rattle.std.proofs.lemmas.List.Concat.{flat_map-append}
use Rattle.std.specs.Borrow.{Bor}
use Rattle.std.proofs.lemmas.List.{nil_from_length, take_all}
use Rattle.replica_codec.specs.SnapshotsText.{codes_view}
use Rattle.refusals.specs.Answers.{HasCause}
use Rattle.instruction_set.specs.declared.insn.Insn.{Insn}
use Rattle.insn_codec.specs.Encoding.{insn_bytes}
use Rattle.clash_record.specs.declared.registrations.ProgramId.{ProgramId}
use Rattle.clash_record.specs.Orders.{id_cmp}
use Rattle.clash_record.specs.laws.Orders.{ids_total}
use Rattle.upload_store.specs.Programs.{Programs, IsProgram, id_of, mapped, max_programs}
use Rattle.exchange_codec.specs.Rows.{max_code}
use Rattle.exchange_codec.specs.laws.Firsts.{below_there, sorted_as}
use Rattle.exchange_codec.specs.laws.Programs.{Readings}
use Rattle.replica_codec.specs.Entries.{sized_code}
use Rattle.replica_codec.specs.Snapshots.{AreStored, IsStoreOf, codes_bytes, store_codes, is_id_above}
use Rattle.replica_codec.specs.declared.fault.ReplicaMessageFault.{ReplicaMessageFault}
use Rattle.replica_codec.specs.Faults.{replica_message_fault_number}
use Rattle.replica_codec.specs.Stores.{HasCode, IsStoresFault, IsCodesFault}

abbrev pub Entry : Type 0
Entry = ProgramId × List Insn

abbrev pub code_text : Entry → List ℕ
code_text e = flat_map insn_bytes e.1

-- ---- the program under an id

reversed : (o : Ordering) → is_lt o ≡ true → is_eq (ordering_reverse o) ≡ false
reversed Less e = refl
reversed Equal e = absurd cc
reversed Greater e = absurd cc

apart : (a b : ProgramId) → is_lt (id_cmp a b) ≡ true → eq_by_cmp id_cmp b a ≡ false
apart a b e = ap is_eq (ids_total.antisymm b a) ∙ reversed (id_cmp a b) e

itself : (o : Ordering) → o ≡ ordering_reverse o → is_eq o ≡ true
itself Less e = cc
itself Equal e = refl
itself Greater e = cc

same : (a : ProgramId) → eq_by_cmp id_cmp a a ≡ true
same a = itself (id_cmp a a) (ids_total.antisymm a a)

found_at : (ds : List Entry) (e : Entry) (rest : List Entry) → is_sorted id_cmp (ds ++ e ∷ rest) ≡ true
    → find id_cmp e.0 (ds ++ e ∷ rest) ≡ Some e.1
found_at [] e rest h = ap (λ (b : Bool). cond b (Some e.1) (find id_cmp e.0 rest)) (same e.0)
found_at (d ∷ ds) e rest h =
    let parts = and_parts (below_all id_cmp d.0 (ds ++ e ∷ rest)) (is_sorted id_cmp (ds ++ e ∷ rest)) h in
    ap (λ (b : Bool). cond b (Some d.1) (find id_cmp e.0 (ds ++ e ∷ rest)))
    (apart d.0 e.0 (below_there id_cmp d.0 ds e rest parts.0))
    ∙ found_at ds e rest parts.1

has_program : (store : Programs) (ds : List Entry) (e : Entry) (rest : List Entry) → entries store ≡ ds ++ e ∷ rest
    → get store e.0 ≡ Some e.1
has_program store ds e rest parts =
    get-entries store e.0 ∙ ap (find id_cmp e.0) parts ∙ found_at ds e rest (sorted_as id_cmp (entries_sorted store) parts)

-- ---- a program above those of a store

reversed_is : (o : Ordering) → is_lt o ≡ true → ordering_reverse o ≡ Greater
reversed_is Less e = refl
reversed_is Equal e = absurd cc
reversed_is Greater e = absurd cc

below : (a b : ProgramId) → is_lt (id_cmp a b) ≡ true → id_cmp b a ≡ Greater
below a b e = ids_total.antisymm b a ∙ reversed_is (id_cmp a b) e

not_found : (id : ProgramId) (es : List Entry) → is_id_above es id ≡ true → find id_cmp id es ≡ None
not_found id [] above = refl
not_found id (e ∷ es) above =
    let parts = and_parts (is_lt (id_cmp e.0 id)) (is_id_above es id) above in
    rw (below e.0 id parts.0, not_found id es parts.1) refl

put_last : (id : ProgramId) (code : List Insn) (es : List Entry) → is_id_above es id ≡ true
    → put id_cmp id code es ≡ es ++ (id, code) ∷ []
put_last id code [] above = refl
put_last id code (e ∷ es) above =
    let parts = and_parts (is_lt (id_cmp e.0 id)) (is_id_above es id) above in
    rw (below e.0 id parts.0, put_last id code es parts.1) refl

pub is_new : (store : Programs) (id : ProgramId) → is_id_above (entries store) id ≡ true → get store id ≡ None
is_new store id above = get-entries store id ∙ not_found id (entries store) above

pub kept_last : (old new : Programs) (id : ProgramId) (program : List Insn) → is_id_above (entries old) id ≡ true
    → new ≡ insert old id program → entries new ≡ entries old ++ (id, program) ∷ []
kept_last old new id program above is =
    ap entries is ∙ entries-insert ids_total old id program ∙ put_last id program (entries old) above

-- ---- the store of the codes so far

with_last : {A : Type 0} (P : A → Type 0) (xs : List A) (x : A) → AllByRecursion P xs → P x → AllByRecursion P (xs ++ x ∷ [])
with_last P [] x each p = (p, tt)
with_last P (y ∷ xs) x each p = (each.0, with_last P xs x each.1 p)

mapped_last : {A B : Type 0} (f : A → B) (xs : List A) (x : A) → map f (xs ++ x ∷ []) ≡ map f xs ++ f x ∷ []
mapped_last f [] x = refl
mapped_last f (y ∷ xs) x = ap (λ ys. f y ∷ ys) (mapped_last f xs x)

pub mapped_len : {A B : Type 0} (f : A → B) (xs : List A) → length (map f xs) ≡ length xs
mapped_len f [] = refl
mapped_len f (x ∷ xs) = ap suc (mapped_len f xs)

one_longer : (codes : List (List ℕ)) (k : ℕ) (code : List ℕ) → slice_get codes k ≡ Some code
    → take (suc k) codes ≡ take k codes ++ code ∷ []
one_longer [] k code e = absurd cc
one_longer (c ∷ codes) zero code e = let one : c ≡ code = cc in ap (λ (x : List ℕ). x ∷ []) one
one_longer (c ∷ codes) (suc k) code e = ap (λ (cs : List (List ℕ)). c ∷ cs) (one_longer codes k code e)

pub one_more : (codes : List (List ℕ)) (k : ℕ) (code : List ℕ) → slice_get codes k ≡ Some code
    → take (k + 1) codes ≡ take k codes ++ code ∷ []
one_more codes k code e =
    let next : k + 1 ≡ suc k = omega arith in
    ap (λ (n : ℕ). take n codes) next ∙ one_longer codes k code e

pub none_there : (store : Programs) → store ≡ empty → entries store ≡ []
none_there store e = nil_from_length (entries store) (sym (len-entries store) ∙ ap len e ∙ len-empty id_cmp (List Insn))

pub views_len : (codes : List (Bor (List ℕ))) → length (codes_view codes) ≡ length codes
views_len codes = mapped_len (λ (b : Bor (List ℕ)). b.now) codes

pub no_store : (store : Programs) (codes : List (List ℕ)) → entries store ≡ [] → IsStoreOf (take 0 codes) store
no_store store codes none = record {
  stored = subst (AllByRecursion (λ (e : Entry). IsProgram e.0 e.1)) (sym none) tt;
  told = ap (map code_text) (sym none);
}

pub more_store : (old new : Programs) (codes : List (List ℕ)) (k : ℕ) (code : List ℕ) → HasCode old code new
    → slice_get codes k ≡ Some code → IsStoreOf (take k codes) old → IsStoreOf (take (k + 1) codes) new
more_store old new codes k code has there so_far = record {
  stored = subst (AllByRecursion (λ (e : Entry). IsProgram e.0 e.1)) (sym has.last)
      (with_last (λ (e : Entry). IsProgram e.0 e.1) (entries old) (has.id, has.program) so_far.stored has.is_program);
  told = one_more codes k code there ∙ ap (λ (cs : List (List ℕ)). cs ++ code ∷ []) so_far.told
      ∙ ap (λ (c : List ℕ). store_codes old ++ c ∷ []) has.told
      ∙ sym (mapped_last code_text (entries old) (has.id, has.program))
      ∙ ap (map code_text) (sym has.last);
}

-- the code at an index
pub view_there : (codes : List (Bor (List ℕ))) (k : ℕ) (d : Bor (List ℕ)) → k < length codes
    → slice_get (codes_view codes) k ≡ Some (get_or codes k d).now
view_there [] k d h = absurd (omega (arith, h))
view_there (c ∷ codes) zero d h = refl
view_there (c ∷ codes) (suc k) d h = view_there codes k d (omega (arith, h))

pub whole_store : (store : Programs) (codes : List (List ℕ)) (k : ℕ) → length codes ≤ k → IsStoreOf (take k codes) store
    → IsStoreOf codes store
whole_store store codes k le so_far = subst (λ (cs : List (List ℕ)). IsStoreOf cs store) (take_all k codes le) so_far

-- the fault of code k is the first
pub store_fails : (store : Programs) (codes : List (List ℕ)) (k : ℕ) (code : List ℕ) (f : ReplicaMessageFault)
    → HasCause replica_message_fault_number (IsStoresFault store code k) f → slice_get codes k ≡ Some code
    → IsStoreOf (take k codes) store → HasCause replica_message_fault_number (IsCodesFault codes) f
store_fails store codes k code f (inl h) there so_far =
    inl (h.0, k, h.1, record { store = store; stored = so_far.stored; before = so_far.told; code = code; there = there; has = h.2 })
store_fails store codes k code f (inr out) there so_far = inr out

pub store_room : (store : Programs) (codes : List (List ℕ)) (k : ℕ) → k < length codes → length codes ≤ max_programs
    → IsStoreOf (take k codes) store → len store < max_programs
store_room store codes k lt few so_far =
    omega (arith, lt, few, len-entries store, mapped_len code_text (entries store), ap length so_far.told, length-take k codes)

-- ---- the codes of a store that are written

-- some of the codes are written, and these are left
pub record IsPushed {X : Type 0} (code_of : X → List Insn) (store : Programs) (out now : List ℕ)
    (left : List (ProgramId × X)) : Type 0 where
  pub done : List Entry
  pub rest : List Entry
  pub parts : entries store ≡ done ++ rest
  pub left_is : mapped code_of left ≡ rest
  pub written : now ≡ out ++ flat_map sized_code (map code_text done)
  pub fit : AllByRecursion (λ (code : List ℕ). length code ≤ max_code) (map code_text done)
  pub stored : AllByRecursion (λ (e : Entry). IsProgram e.0 e.1) done

pub heads : {A : Type 0} (x y : A) (xs ys : List A) → x ∷ xs ≡ y ∷ ys → (x ≡ y) × (xs ≡ ys)
heads x y xs ys e = (cc, cc)

got : {Y : Type 0} (o : Option Y) (f : Y → List Insn) (id : ProgramId) (code : List Insn) → option_map f o ≡ Some code
    → IfSome o (λ (y : Y). IsProgram id (f y)) → IsProgram id code
got None f id code e h = absurd cc
got (Some y) f id code e h = let one : f y ≡ code = cc in subst (IsProgram id) one h

module _ {X : Type 0} (code_of : X → List Insn) (store : Programs) (out : List ℕ) where
  pub none_pushed : (left : List (ProgramId × X)) → mapped code_of left ≡ entries store
      → IsPushed code_of store out out left
  none_pushed left is = record {
    done = [];
    rest = entries store;
    parts = refl;
    left_is = is;
    written = sym (append-nil out);
    fit = tt;
    stored = tt;
  }

  pub one_pushed : {Y : Type 0} (now after : List ℕ) (id : ProgramId) (x : X) (left : List (ProgramId × X))
      (o : Option Y) (f : Y → List Insn) → IsPushed code_of store out now ((id, x) ∷ left)
      → option_map f o ≡ get store id → IfSome o (λ (y : Y). IsProgram id (f y))
      → after ≡ now ++ sized_code (flat_map insn_bytes (code_of x)) → length (flat_map insn_bytes (code_of x)) ≤ max_code
      → IsPushed code_of store out after left
  one_pushed now after id x left o f p found is_program wrote few = by_rest p.rest p.parts p.left_is
    where
      by_rest : (rest : List Entry) → entries store ≡ p.done ++ rest → (id, code_of x) ∷ mapped code_of left ≡ rest
          → IsPushed code_of store out after left
      by_rest [] parts is = absurd cc
      by_rest (e ∷ rest) parts is =
          let first = heads (id, code_of x) e (mapped code_of left) rest is in
          let place : entries store ≡ p.done ++ (id, code_of x) ∷ rest =
          parts ∙ ap (λ (y : Entry). p.done ++ y ∷ rest) (sym first.0) in
          let text = flat_map insn_bytes (code_of x) in
          record {
            done = p.done ++ (id, code_of x) ∷ [];
            rest = rest;
            parts = place ∙ sym (append_assoc p.done ((id, code_of x) ∷ []) rest);
            left_is = first.1;
            written = wrote ∙ ap (λ (y : List ℕ). y ++ sized_code text) p.written
                ∙ append_assoc out (flat_map sized_code (map code_text p.done)) (sized_code text)
                ∙ ap (λ (y : List ℕ). out ++ y)
                (ap (λ (y : List ℕ). flat_map sized_code (map code_text p.done) ++ y) (sym (append-nil (sized_code text)))
                ∙ sym (flat_map-append sized_code (map code_text p.done) (text ∷ []))
                ∙ ap (flat_map sized_code) (sym (mapped_last code_text p.done (id, code_of x))));
            fit = subst (AllByRecursion (λ (code : List ℕ). length code ≤ max_code)) (sym (mapped_last code_text p.done (id, code_of x)))
                (with_last (λ (code : List ℕ). length code ≤ max_code) (map code_text p.done) text p.fit few);
            stored = with_last (λ (y : Entry). IsProgram y.0 y.1) p.done (id, code_of x) p.stored
                (got o f id (code_of x) (found ∙ has_program store p.done (id, code_of x) rest place) is_program);
          }

  -- all codes of the store
  pub record ArePushed (now : List ℕ) : Type 0 where
    pub written : now ≡ out ++ flat_map sized_code (store_codes store)
    pub fit : AllByRecursion (λ (code : List ℕ). length code ≤ max_code) (store_codes store)
    pub stored : AreStored store

  pub all_pushed : (now : List ℕ) → IsPushed code_of store out now [] → ArePushed now
  all_pushed now p = by_rest p.rest p.parts p.left_is
    where
      by_rest : (rest : List Entry) → entries store ≡ p.done ++ rest → [] ≡ rest → ArePushed now
      by_rest [] parts is =
          let all : p.done ≡ entries store = sym (append-nil p.done) ∙ sym parts in
          record {
            written = p.written ∙ ap (λ (es : List Entry). out ++ flat_map sized_code (map code_text es)) all;
            fit = subst (λ (es : List Entry). AllByRecursion (λ (code : List ℕ). length code ≤ max_code) (map code_text es)) all p.fit;
            stored = subst (AllByRecursion (λ (e : Entry). IsProgram e.0 e.1)) all p.stored;
          }
      by_rest (e ∷ rest) parts is = absurd cc

-- ---- one store for codes

module _ (known : Readings) where
  pub same_entries : (es fs : List Entry) → AllByRecursion (λ (e : Entry). IsProgram e.0 e.1) es
      → AllByRecursion (λ (e : Entry). IsProgram e.0 e.1) fs → map code_text es ≡ map code_text fs → es ≡ fs
  same_entries [] [] p q e = refl
  same_entries [] (g ∷ fs) p q e = absurd cc
  same_entries (d ∷ es) [] p q e = absurd cc
  same_entries (d ∷ es) (g ∷ fs) p q e =
      let parts = heads (code_text d) (code_text g) (map code_text es) (map code_text fs) e in
      let id : d.0 ≡ g.0 =
      p.0.named ∙ ap id_of (p.0.spelled.spelling ∙ parts.0 ∙ sym q.0.spelled.spelling) ∙ sym q.0.named in
      let code : d.1 ≡ g.1 = known.one_code (flat_map insn_bytes d.1) d.1 g.1
      (record { is_code = p.0.spelled.is_code; spelling = refl })
      (record { is_code = q.0.spelled.is_code; spelling = parts.0 }) in
      ap (λ (x : ProgramId). (x, d.1) ∷ es) id ∙ ap (λ (x : List Insn). (g.0, x) ∷ es) code
      ∙ ap (λ (xs : List Entry). g ∷ xs) (same_entries es fs p.1 q.1 parts.1)

  pub same_store : (s t : Programs) → AreStored s → AreStored t → store_codes s ≡ store_codes t → s ≡ t
  same_store s t p q e = same_entries_map s t (same_entries (entries s) (entries t) p q e)

-- ---- a store that is written

pub codes_len : (store : Programs) → length (store_codes store) ≡ len store
codes_len store = mapped_len code_text (entries store) ∙ sym (len-entries store)

pub codes_written : (store : Programs) (n : ℕ) (out counted done : List ℕ) → n ≡ len store
    → counted ≡ out ++ to_le_bytes w32 n → done ≡ counted ++ flat_map sized_code (store_codes store)
    → done ≡ out ++ codes_bytes (store_codes store)
codes_written store n out counted done count wrote_count wrote_codes =
    let codes = flat_map sized_code (store_codes store) in
    let many : n ≡ length (store_codes store) = count ∙ sym (codes_len store) in
    wrote_codes
    ∙ ap (λ (x : List ℕ). x ++ codes) (wrote_count ∙ ap (λ (k : ℕ). out ++ to_le_bytes w32 k) many)
    ∙ append_assoc out (to_le_bytes w32 (length (store_codes store))) codes
