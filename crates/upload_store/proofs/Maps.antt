-- A store's map and its entries.
use Rattle.std.proofs.Common.{◌≡◌, suc, ◌+◌, ◌-◌, ◌<◌, ◌≤◌, Bool, true, false, cond, if◌then◌else◌, Option, Some, None, is_some, IfSome, Result, Ok, Err, IfOk, OnOk, OnErr, Bor, List, [], ◌∷◌, length, refl, ap, sym, subst, ◌∙◌, arith}
use Rattle.std.specs.Option.{option_map, option_copied}
use Rattle.std.specs.Ordering.{eq_by_cmp}
use Rattle.std.specs.Cmp.{Equal-is}
use Rattle.std.specs.Map.{lookup}
use Rattle.std.specs.BTreeMap.{BTreeMap, is_at, Updates}
use Rattle.std.specs.List.{AllZip}
use Rattle.std.specs.FinMap.{from_entries, get, insert, remove, contains_key, len-empty, len, get-empty, get-insert, get-remove, len-insert, len-remove, same_map}
use Rattle.instruction_set.specs.declared.insn.Insn.{Insn}
use Rattle.clash_record.specs.declared.registrations.ProgramId.{ProgramId}
use Rattle.clash_record.specs.Orders.{id_cmp}
use Rattle.clash_record.specs.laws.Orders.{ids_total, ids_exact}
use Rattle.upload_store.specs.Programs.{Programs, mapped, programs_by, IsProgram, IsStore, max_programs}
use Rattle.upload_store.specs.laws.Mapped.{get-mapped, made_inserted, made_removed}
use Rattle.upload_store.specs.model.Keeping.{AreKept}

module _ {X : Type 0} (code_of : X → List Insn) where
  -- the map's code at an id is the code of the entry there
  pub get_code : (es : List (ProgramId × X)) (q : ProgramId)
      → get (programs_by code_of es) q ≡ option_map code_of (lookup (is_at (id_cmp q)) es)
  get_code es q = get-mapped ids_total code_of es q

  -- a look-up that lends what it finds, in entries that make this map
  pub get_lent : (m : Programs) (es : List (ProgramId × X)) → programs_by code_of es ≡ m
      → (id : ProgramId) (r : Option (Bor X)) → option_copied r ≡ lookup (is_at (id_cmp id)) es
      → get m id ≡ option_map (λ x. code_of x.now) r
  get_lent m es made id r h =
      ap (λ m. get m id) (sym made) ∙ get_code es id ∙ ap (option_map code_of) (sym h) ∙ sym (lent r)
    where
      lent : (r : Option (Bor X)) → option_map (λ x. code_of x.now) r ≡ option_map code_of (option_copied r)
      lent None = refl
      lent (Some x) = refl

  pub lent_program : (m : Programs) (id : ProgramId) (r : Option (Bor X)) → IsStore m
      → get m id ≡ option_map (λ x. code_of x.now) r → IfSome r (λ x. IsProgram id (code_of x.now))
  lent_program m id None store h = tt
  lent_program m id (Some x) store h = store.each id (code_of x.now) h

  pub none_kept : (es : List (ProgramId × X)) → es ≡ [] → AreKept code_of es
  none_kept [] e = record {
    store = record {
      few = omega (arith, len-empty id_cmp (List Insn));
      each = λ id code h. let both : None ≡ Some code = sym (get-empty id_cmp id) ∙ h in absurd (cc);
    };
    distinct = len-empty id_cmp (List Insn);
  }
  none_kept (x ∷ es) e = absurd (cc)

-- inserting code again changes nothing
pub insert_again : (m : Programs) (id : ProgramId) (code : List Insn) → get m id ≡ Some code → insert m id code ≡ m
insert_again m id code h =
    same_map ids_total ids_exact _ _ (λ q. get-insert ids_total m id code q ∙ by q (eq_by_cmp id_cmp q id) refl)
  where
    by : (q : ProgramId) (b : Bool) → eq_by_cmp id_cmp q id ≡ b → cond b (Some code) (get m q) ≡ get m q
    by q true e = sym h ∙ ap (get m) (sym (ids_exact q id ((Equal-is (id_cmp q id)).0 e)))
    by q false e = refl

-- a new program makes the map longer by one
len_one_more : (m : Programs) (id : ProgramId) (code : List Insn) → get m id ≡ None → len (insert m id code) ≡ len m + 1
len_one_more m id code none = len-insert ids_total m id code ∙ ap (λ b. cond b (len m) (len m + 1)) (ap is_some none)

-- a store holds one more program, if it has room
one_more : (m : Programs) (id : ProgramId) (code : List Insn) → IsStore m → IsProgram id code → get m id ≡ None
    → len m < max_programs → IsStore (insert m id code)
one_more m id code store program none room = record {
  few = omega (arith, len_one_more m id code none);
  each = λ q other h. by q other (eq_by_cmp id_cmp q id) refl (sym (get-insert ids_total m id code q) ∙ h);
}
  where
    by : (q : ProgramId) (other : List Insn) (b : Bool) → eq_by_cmp id_cmp q id ≡ b
        → cond b (Some code) (get m q) ≡ Some other → IsProgram q other
    by q other true e h =
        let ids : id ≡ q = sym (ids_exact q id ((Equal-is (id_cmp q id)).0 e)) in
        let codes : code ≡ other = cc in
        subst (IsProgram q) codes (subst (λ (i : ProgramId). IsProgram i code) ids program)
    by q other false e h = store.each q other h

module _ {X : Type 0} (code_of : X → List Insn) (m n : BTreeMap ProgramId X) (id : ProgramId) (x : X) where
  -- entries that differ at one id make maps that differ there
  pub map_inserted : Updates id_cmp m n id (Some x)
      → programs_by code_of n.entries ≡ insert (programs_by code_of m.entries) id (code_of x)
  map_inserted updates = made_inserted ids_total code_of ids_exact m.entries n.entries id x updates.0

  -- entries remain a store, even if a new program runs out of memory
  pub still_kept : {E : Type 0} → AreKept code_of m.entries → IsProgram id (code_of x)
      → get (programs_by code_of m.entries) id ≡ None → length m.entries < max_programs
      → (r : Result (Option X) E) → OnOk r (Updates id_cmp m n id (Some x))
      → IfOk r (λ old. length n.entries ≡ length m.entries + (if is_some old then 0 else 1))
      → IfOk r (λ old. old ≡ lookup (is_at (id_cmp id)) m.entries) → OnErr r (n.entries ≡ m.entries)
      → AreKept code_of n.entries
  still_kept kept program none room (Ok None) updates longer old same =
      let before = programs_by code_of m.entries in
      record {
        store =
            subst IsStore (sym (map_inserted updates))
            (one_more before id (code_of x) kept.store program none (omega (arith, kept.distinct)));
        distinct =
            ap len (map_inserted updates) ∙ len_one_more before id (code_of x) none
            ∙ ap (λ k. k + 1) kept.distinct ∙ sym longer;
      }
  still_kept kept program none room (Ok (Some y)) updates longer old same =
      let there : get (programs_by code_of m.entries) id ≡ option_map code_of (Some y) =
      get_code code_of m.entries id ∙ ap (option_map code_of) (sym old) in
      absurd (cc)
  still_kept kept program none room (Err e) updates longer old same = subst (AreKept code_of) (sym same) kept

-- a store that forgets a program
module _ {X : Type 0} (code_of : X → List Insn) (m n : BTreeMap ProgramId X) (id : ProgramId)
    (updates : Updates id_cmp m n id None) where
  pub map_removed : programs_by code_of n.entries ≡ remove (programs_by code_of m.entries) id
  map_removed = made_removed ids_total code_of ids_exact m.entries n.entries id updates.0

  one_less : IsStore (programs_by code_of m.entries) → IsStore (remove (programs_by code_of m.entries) id)
  one_less store = record {
    few = by_len (contains_key (programs_by code_of m.entries) id) (len-remove ids_total (programs_by code_of m.entries) id);
    each = λ q code h. by q code (eq_by_cmp id_cmp q id) (sym (get-remove ids_total (programs_by code_of m.entries) id q) ∙ h);
  }
    where
      by_len : (b : Bool) → len (remove (programs_by code_of m.entries) id)
          ≡ cond b (len (programs_by code_of m.entries) - 1) (len (programs_by code_of m.entries)) →
          len (remove (programs_by code_of m.entries) id) ≤ max_programs
      by_len true e = omega (arith, e, store.few)
      by_len false e = omega (arith, e, store.few)

      by : (q : ProgramId) (code : List Insn) (b : Bool) →
          cond b None (get (programs_by code_of m.entries) q) ≡ Some code → IsProgram q code
      by q code true h = cc
      by q code false h = store.each q code h

  pub less_kept : AreKept code_of m.entries → (r : Option X) → r ≡ lookup (is_at (id_cmp id)) m.entries →
      length n.entries + (if is_some r then 1 else 0) ≡ length m.entries → AreKept code_of n.entries
  less_kept kept r was shorter = record {
    store = subst IsStore (sym map_removed) (one_less kept.store);
    distinct =
        ap len map_removed ∙ len-remove ids_total (programs_by code_of m.entries) id
        ∙ ap (λ b. cond b (len (programs_by code_of m.entries) - 1) (len (programs_by code_of m.entries)))
        (ap is_some (get_code code_of m.entries id) ∙ has_code r was)
        ∙ by (is_some r) shorter;
  }
    where
      has_code : (r : Option X) → r ≡ lookup (is_at (id_cmp id)) m.entries →
          is_some (option_map code_of (lookup (is_at (id_cmp id)) m.entries)) ≡ is_some r
      has_code None h = ap (λ o. is_some (option_map code_of o)) (sym h)
      has_code (Some x) h = ap (λ o. is_some (option_map code_of o)) (sym h)

      by : (b : Bool) → length n.entries + (if b then 1 else 0) ≡ length m.entries →
          cond b (len (programs_by code_of m.entries) - 1) (len (programs_by code_of m.entries)) ≡ length n.entries
      by true h = let same = kept.distinct in omega (arith, same, h)
      by false h = let same = kept.distinct in omega (arith, same, h)

-- ---- clones

module _ {X : Type 0} (code_of : X → List Insn) where
  abbrev pub AreCloned : List (ProgramId × X) → List (ProgramId × X) → Type 0
  AreCloned = AllZip (λ p q. (q.0 ≡ p.0) × (code_of q.1 ≡ code_of p.1))

  abbrev coded_entries : List (ProgramId × X) → List (ProgramId × List Insn)
  coded_entries = mapped code_of

  same_codes : (es fs : List (ProgramId × X)) → AreCloned es fs
      → coded_entries fs ≡ coded_entries es
  same_codes [] [] h = refl
  same_codes [] (f ∷ fs) h = absurd h
  same_codes (e ∷ es) [] h = absurd h
  same_codes (e ∷ es) (f ∷ fs) h =
      ap (λ k. (k, code_of f.1) ∷ coded_entries fs) h.0.0
      ∙ ap (λ x. (e.0, x) ∷ coded_entries fs) h.0.1
      ∙ ap (λ xs. (e.0, code_of e.1) ∷ xs) (same_codes es fs h.1)

  as_long : (es fs : List (ProgramId × X)) → AreCloned es fs → length fs ≡ length es
  as_long [] [] h = refl
  as_long [] (f ∷ fs) h = absurd h
  as_long (e ∷ es) [] h = absurd h
  as_long (e ∷ es) (f ∷ fs) h = ap (λ n. suc n) (as_long es fs h.1)

  -- a clone of entries makes the same map
  pub cloned : (es fs : List (ProgramId × X)) → AreCloned es fs → programs_by code_of fs ≡ programs_by code_of es
  cloned es fs h = ap from_entries (same_codes es fs h)

  pub cloned_kept : (es fs : List (ProgramId × X)) → AreCloned es fs → AreKept code_of es → AreKept code_of fs
  cloned_kept es fs h kept = record {
    store = subst IsStore (sym (cloned es fs h)) kept.store;
    distinct = ap len (cloned es fs h) ∙ kept.distinct ∙ sym (as_long es fs h);
  }
