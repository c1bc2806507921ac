-- Programs under their ids.
use Rattle.std.proofs.Common.{◌≡◌, ◌⊎◌, ◌↔◌, ℕ, ◌+◌, ◌-◌, ◌<◌, ◌≤◌, Bool, true, false, nat_le, cond, if◌then◌else◌, Option, Some, None, is_some, Bor, List, [], ◌∷◌, refl, ap, sym, subst, ◌∙◌, inl, inr, arith}
use Rattle.std.proofs.lemmas.Bool.{leb-true, leb-false}
use Rattle.std.specs.Option.{option_map, option_map_or, option_copied, IsSome}
use Rattle.std.specs.Ordering.{is_eq}
use Rattle.std.specs.Cmp.{Equal-is}
use Rattle.std.specs.Bool.{IsTrue}
use Rattle.std.specs.List.{AllZip}
use Rattle.std.specs.Map.{lookup}
use Rattle.std.specs.BTreeMap.{BTreeMap, is_at, Updates, WritesThrough}
use Rattle.std.specs.FinMap.{get, insert, remove, from_entries}
use Rattle.std.specs.Cmp.Lexicographic.{pointwise}
use Rattle.instruction_set.specs.declared.insn.Insn.{Insn}
use Rattle.instruction_set.specs.contracts.insn.InsnPartialEq.TheImpl as insn_eq
use Rattle.instruction_set.specs.laws.SameInsn as insns
use Rattle.clash_record.specs.declared.registrations.ProgramId.{ProgramId}
use Rattle.clash_record.specs.declared.registrations.ResolverId.TheVariants.{Program}
use Rattle.clash_record.specs.Orders.{id_cmp}
use Rattle.clash_record.specs.laws.Orders.{ids_total, ids_exact}
use Rattle.upload_store.specs.Programs.{Programs, programs_by}
use Rattle.partition_table.specs.declared.programs.Kept.{Kept}
use Rattle.clash_record.specs.declared.registrations.Registration.{Registration}
use Rattle.clash_record.specs.Name.{Name}
use Rattle.partition_table.specs.model.Keeping.{IsHeld, IsKept, kept_code, rows_kept, rows_naming, is_of, last_of, without_code, has_room_for}
use Rattle.partition_table.specs.Views.{mapped, table_by}
use Rattle.upload_store.specs.laws.Mapped.{get-mapped, made_inserted, made_removed}
use Rattle.partition_table.proofs.Maps.{insert_again, remove_absent}

pub is_none_by : {X : Type 0} (o : Option X) → is_some o ≡ false → o ≡ None
is_none_by None h = refl
is_none_by (Some x) h = absurd (cc)

-- what is there already, and is the same, changes nothing
pub held_already : (programs : Programs) (id : ProgramId) (c : List Insn)
    → (get programs id ≡ None) ⊎ (get programs id ≡ Some c)
    → is_some (get programs id) ≡ true → programs ≡ insert programs id c
held_already programs id c (inl none) some = let both : false ≡ true = sym (ap is_some none) ∙ some in absurd (cc)
held_already programs id c (inr same) some = sym (insert_again ids_total ids_exact programs id c same)

module _ {P : Type 0} (code_of : P → List Insn) where
  pub get_code : (es : List (ProgramId × P)) (id : ProgramId)
      → get (programs_by code_of es) id ≡ option_map code_of (lookup (is_at (id_cmp id)) es)
  get_code es id = get-mapped ids_total code_of es id

  some_code : (o : Option P) → is_some (option_map code_of o) ≡ is_some o
  some_code None = refl
  some_code (Some p) = refl

  pub is_some_code : (es : List (ProgramId × P)) (id : ProgramId) (b : Bool)
      → is_some (lookup (is_at (id_cmp id)) es) ≡ b
      → is_some (get (programs_by code_of es) id) ≡ b
  is_some_code es id b h = ap is_some (get_code es id) ∙ some_code (lookup (is_at (id_cmp id)) es) ∙ h

  -- a look-up that lends the program
  pub code_lent : (es : List (ProgramId × P)) (id : ProgramId) (lent : Option (Bor P))
      → option_copied lent ≡ lookup (is_at (id_cmp id)) es → get (programs_by code_of es) id
      ≡ option_map (λ p. code_of p.now) lent
  code_lent es id lent h = get_code es id ∙ ap (option_map code_of) (sym h) ∙ by lent
    where
      by : (lent : Option (Bor P)) → option_map code_of (option_copied lent) ≡ option_map (λ p. code_of p.now) lent
      by None = refl
      by (Some p) = refl

-- there is room where nothing is held
pub room_at_none : (programs : Programs) (id : ProgramId) (c : List Insn) → get programs id ≡ None
    → IsTrue true ↔ has_room_for programs (Program id) (Some c)
room_at_none programs id c none = (λ _. inl none, λ _. refl)

-- there is room under an id where the code held is the same
pub room_at_some : (programs : Programs) (id : ProgramId) (held c : List Insn) (b : Bool)
    → b ≡ pointwise insn_eq.ghosts.eq held c
    → get programs id ≡ Some held → IsTrue b ↔ has_room_for programs (Program id) (Some c)
room_at_some programs id held c b tested there =
    (λ t. inr (there ∙ ap Some ((insns.same_code held c b tested).0 t)), by)
  where
    by : (get programs id ≡ None) ⊎ (get programs id ≡ Some c) → b ≡ true
    by (inl none) = let both : None ≡ Some held = sym none ∙ there in absurd (cc)
    by (inr same) = let both : Some held ≡ Some c = sym there ∙ same in let is : held ≡ c = cc in
        (insns.same_code held c b tested).1 is

-- a clone of entries is the same entries
pub same_clone : {K X : Type 0} (es fs : List (K × X)) → AllZip (λ p q. (q.0 ≡ p.0) × (q.1 ≡ p.1)) es fs → fs ≡ es
same_clone [] [] h = refl
same_clone [] (f ∷ fs) h = absurd h
same_clone (e ∷ es) [] h = absurd h
same_clone (e ∷ es) (f ∷ fs) h = ap (λ k. (k, f.1) ∷ fs) h.0.0 ∙ ap (λ x. (e.0, x) ∷ fs) h.0.1
    ∙ ap (λ xs. e ∷ xs) (same_clone es fs h.1)

-- and one that shares its values reads alike
pub shared_clone : {K X Y : Type 0} (f : X → Y) (es fs : List (K × X))
    → AllZip (λ p q. (q.0 ≡ p.0) × (f q.1 ≡ f p.1)) es fs
    → mapped f fs ≡ mapped f es
shared_clone f [] [] h = refl
shared_clone f [] (e ∷ fs) h = absurd h
shared_clone f (e ∷ es) [] h = absurd h
shared_clone f (e ∷ es) (g ∷ fs) h =
    ap (λ k. (k, f g.1) ∷ mapped f fs) h.0.0 ∙ ap (λ x. (e.0, x) ∷ mapped f fs) h.0.1
    ∙ ap (λ xs. (e.0, f e.1) ∷ xs) (shared_clone f es fs h.1)

-- ---- counts

-- the map n is m with another program under an id, or with none
module _ (m n : BTreeMap ProgramId Kept) (id : ProgramId) (w : Option Kept) (updates : Updates id_cmp m n id w) where
  -- the count changes there alone
  pub rows_changed : (f : ℕ → ℕ → ℕ) → ((x : ℕ) → f x 0 ≡ x)
      → option_map_or (λ kept. kept.rows) w 0 ≡ f (rows_kept m.entries id) 1
      → (q : ProgramId) → rows_kept n.entries q ≡ f (rows_kept m.entries q) (is_of (Program id) q)
  rows_changed f none h q =
      ap (λ o. option_map_or (λ (kept : Kept). kept.rows) o 0) (updates.0 q) ∙ by (is_eq (id_cmp id q)) refl
    where
      by : (b : Bool) → is_eq (id_cmp id q) ≡ b
          → option_map_or (λ (kept : Kept). kept.rows) (cond b w (lookup (is_at (id_cmp q)) m.entries)) 0
          ≡ f (rows_kept m.entries q) (if b then 1 else 0)
      by true e = h ∙ ap (λ i. f (rows_kept m.entries i) 1) (ids_exact id q ((Equal-is (id_cmp id q)).0 e))
      by false e = sym (none (rows_kept m.entries q))

-- the map n is m with another count of a program
module _ (m n : BTreeMap ProgramId Kept) (id : ProgramId) (kept w : Kept)
    (found : lookup (is_at (id_cmp id)) m.entries ≡ Some kept) (writes : WritesThrough id_cmp (id_cmp id) m w n) where
  abbrev updates : Updates id_cmp m n id (Some w)
  updates = writes.3 (subst IsSome (sym found) refl)

  pub rows_found : rows_kept m.entries id ≡ kept.rows
  rows_found = ap (λ o. option_map_or (λ (kept : Kept). kept.rows) o 0) found

  pub same_programs : kept_code w ≡ kept_code kept
      → programs_by kept_code n.entries ≡ programs_by kept_code m.entries
  same_programs same =
      made_inserted ids_total kept_code ids_exact m.entries n.entries id w updates.0
      ∙ insert_again ids_total ids_exact (programs_by kept_code m.entries) id (kept_code w)
      (get_code kept_code m.entries id ∙ ap (option_map kept_code) found ∙ ap Some (sym same))

  pub rows_written : (f : ℕ → ℕ → ℕ) → ((x : ℕ) → f x 0 ≡ x) → w.rows ≡ f kept.rows 1
      → (q : ProgramId) → rows_kept n.entries q ≡ f (rows_kept m.entries q) (is_of (Program id) q)
  rows_written f none h = rows_changed m n id (Some w) updates f none (h ∙ ap (λ x. f x 1) (sym rows_found))

-- where none is kept, taking it out changes nothing
pub none_kept : (m : BTreeMap ProgramId Kept) (id : ProgramId) → lookup (is_at (id_cmp id)) m.entries ≡ None
    → remove (programs_by kept_code m.entries) id ≡ programs_by kept_code m.entries
none_kept m id none =
    remove_absent ids_total ids_exact (programs_by kept_code m.entries) id
    (get_code kept_code m.entries id ∙ ap (option_map kept_code) none)

-- nor a count to lower
pub none_less : (m : BTreeMap ProgramId Kept) (id : ProgramId) → lookup (is_at (id_cmp id)) m.entries ≡ None
    → (q : ProgramId) → rows_kept m.entries q ≡ rows_kept m.entries q - is_of (Program id) q
none_less m id none q = by (is_eq (id_cmp id q)) refl
  where
    by : (b : Bool) → is_eq (id_cmp id q) ≡ b → rows_kept m.entries q ≡ rows_kept m.entries q - (if b then 1 else 0)
    by true e =
        let here : rows_kept m.entries q ≡ 0 =
        ap (rows_kept m.entries) (sym (ids_exact id q ((Equal-is (id_cmp id q)).0 e)))
        ∙ ap (λ o. option_map_or (λ (kept : Kept). kept.rows) o 0) none in
        omega (arith, here)
    by false e = omega arith

-- a program comes with its first row
module _ (m lent n : BTreeMap ProgramId Kept) (id : ProgramId) (w : Kept) (same : lent ≡ m)
    (none : lookup (is_at (id_cmp id)) m.entries ≡ None) (updates : Updates id_cmp lent n id (Some w)) where
  pub held_newly : (c : List Insn) → kept_code w ≡ c
      → programs_by kept_code n.entries ≡ insert (programs_by kept_code m.entries) id c
  held_newly c is =
      made_inserted ids_total kept_code ids_exact lent.entries n.entries id w updates.0
      ∙ ap (λ m. insert (programs_by kept_code m.entries) id (kept_code w)) same
      ∙ ap (insert (programs_by kept_code m.entries) id) is

  pub first_counted : w.rows ≡ 1 → (q : ProgramId)
      → rows_kept n.entries q ≡ rows_kept m.entries q + is_of (Program id) q
  first_counted one q =
      rows_changed lent n id (Some w) updates (λ x y. x + y) (λ x. omega arith)
      (one ∙ ap (λ x. x + 1) (sym (ap (λ m. rows_kept m.entries id) same
      ∙ ap (λ o. option_map_or (λ (kept : Kept). kept.rows) o 0) none))) q
      ∙ ap (λ m. rows_kept m.entries q + is_of (Program id) q) same

-- one of several rows goes
pub not_last : (entries : List (ProgramId × Kept)) (id : ProgramId) (programs : Programs) → 1 < rows_kept entries id
    → programs ≡ without_code (last_of entries (Program id)) programs
not_last entries id programs more = by (nat_le (rows_kept entries id) 1) refl
  where
    by : (b : Bool) → nat_le (rows_kept entries id) 1 ≡ b
        → programs ≡ without_code (if b then Some id else None) programs
    by true e = absurd (omega (arith, leb-true (rows_kept entries id) 1 e, more))
    by false e = refl

-- or the last
pub last : (entries : List (ProgramId × Kept)) (id : ProgramId) (programs : Programs) → rows_kept entries id ≤ 1
    → remove programs id ≡ without_code (last_of entries (Program id)) programs
last entries id programs one = by (nat_le (rows_kept entries id) 1) refl
  where
    by : (b : Bool) → nat_le (rows_kept entries id) 1 ≡ b
        → remove programs id ≡ without_code (if b then Some id else None) programs
    by true e = refl
    by false e = absurd (omega (arith, leb-false (rows_kept entries id) 1 e, one))

-- the program goes with its last row: the loan of the program leaves the map unchanged, and then the program is taken out
module _ (m lent n : BTreeMap ProgramId Kept) (id : ProgramId) (kept : Kept)
    (found : lookup (is_at (id_cmp id)) m.entries ≡ Some kept) (one : kept.rows ≤ 1)
    (writes : WritesThrough id_cmp (id_cmp id) m kept lent) (updates : Updates id_cmp lent n id None) where
  pub last_left : programs_by kept_code n.entries
      ≡ without_code (last_of m.entries (Program id)) (programs_by kept_code m.entries)
  last_left =
      made_removed ids_total kept_code ids_exact lent.entries n.entries id updates.0
      ∙ ap (λ programs. remove programs id) (same_programs m lent id kept kept found writes refl)
      ∙ last m.entries id (programs_by kept_code m.entries)
      (omega (arith, one, rows_found m lent id kept kept found writes))

  pub last_counted : (q : ProgramId) → rows_kept n.entries q ≡ rows_kept m.entries q - is_of (Program id) q
  last_counted q =
      let same = rows_written m lent id kept kept found writes (λ x y. x) (λ x. refl) refl in
      rows_changed lent n id None updates (λ x y. x - y) (λ x. omega arith)
      (omega (arith, one, rows_found m lent id kept kept found writes, same id)) q
      ∙ ap (λ x. x - is_of (Program id) q) (same q)

-- a clone of programs has their code and their counts
abbrev IsKeptClone : List (ProgramId × Kept) → List (ProgramId × Kept) → Type 0
IsKeptClone = AllZip (λ p q. (q.0 ≡ p.0) × ((kept_code q.1 ≡ kept_code p.1) × (q.1.rows ≡ p.1.rows)))

pub codes_cloned : (es fs : List (ProgramId × Kept)) → IsKeptClone es fs
    → AllZip (λ p q. (q.0 ≡ p.0) × (kept_code q.1 ≡ kept_code p.1)) es fs
codes_cloned [] [] h = h
codes_cloned [] (f ∷ fs) h = absurd h
codes_cloned (e ∷ es) [] h = absurd h
codes_cloned (e ∷ es) (f ∷ fs) h = ((h.0.0, h.0.1.0), codes_cloned es fs h.1)

pub rows_cloned : (es fs : List (ProgramId × Kept)) → IsKeptClone es fs → (id : ProgramId)
    → rows_kept fs id ≡ rows_kept es id
rows_cloned [] [] h id = refl
rows_cloned [] (f ∷ fs) h id = absurd h
rows_cloned (e ∷ es) [] h id = absurd h
rows_cloned (e ∷ es) (f ∷ fs) h id =
    ap (λ k. rows_kept ((k, f.1) ∷ fs) id) h.0.0 ∙ by (is_at (id_cmp id) e.0) (rows_cloned es fs h.1 id)
  where
    by : (b : Bool) → rows_kept fs id ≡ rows_kept es id
        → option_map_or (λ (kept : Kept). kept.rows) (cond b (Some f.1) (lookup (is_at (id_cmp id)) fs)) 0
        ≡ option_map_or (λ (kept : Kept). kept.rows) (cond b (Some e.1) (lookup (is_at (id_cmp id)) es)) 0
    by true rest = h.0.1.1
    by false rest = rest

-- copies of the programs and of the rows make the table again
module _ (es fs : List (ProgramId × Kept)) (cloned : IsKeptClone es fs) (rows copy : List (Name × Registration))
    (same : copy ≡ rows) where
  programs_cloned : programs_by kept_code fs ≡ programs_by kept_code es
  programs_cloned = ap from_entries (shared_clone kept_code es fs (codes_cloned es fs cloned))

  pub table_cloned : table_by (programs_by kept_code fs) copy ≡ table_by (programs_by kept_code es) rows
  table_cloned = ap (λ p. table_by p copy) programs_cloned ∙ ap (table_by (programs_by kept_code es)) same

  pub kept_cloned : IsKept es (table_by (programs_by kept_code es) rows)
      → IsKept fs (table_by (programs_by kept_code fs) copy)
  kept_cloned kept = record {
    held =
        subst (λ p. IsHeld p (table_by (programs_by kept_code fs) copy)) (sym programs_cloned)
        (subst (IsHeld (programs_by kept_code es)) (sym table_cloned) kept.held);
    counted = λ id.
        rows_cloned es fs cloned id ∙ kept.counted id ∙ ap (λ t. rows_naming t id) (sym table_cloned);
  }
