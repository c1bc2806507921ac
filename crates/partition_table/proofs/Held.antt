-- The parts that a table keeps.
use Rattle.std.proofs.Common.{◌≡◌, ◌⊎◌, Bool, true, false, not, ◌||◌, Option, Some, None, is_some, IfSome, Bor, List, [], ◌∷◌, length, map, refl, ap, sym, subst, ◌∙◌, inl, inr, arith}
use Rattle.std.specs.Option.{option_map, option_copied}
use Rattle.std.specs.Ordering.{is_eq}
use Rattle.std.specs.Cmp.{Equal-is, tied_itself}
use Rattle.std.specs.Map.{lookup, keys_of}
use Rattle.std.specs.List.Sorted.{IsStrictlySortedBy}
use Rattle.std.specs.BTreeMap.{is_at}
use Rattle.std.specs.FinMap.{get, len, contains_key, get-empty, len-empty}
use Rattle.instruction_set.specs.declared.insn.Insn.{Insn}
use Rattle.instruction_set.specs.laws.SameInsn as insns
use Rattle.clash_record.specs.declared.registrations.ProgramId.{ProgramId}
use Rattle.clash_record.specs.declared.registrations.ResolverId.{ResolverId}
use Rattle.clash_record.specs.declared.registrations.ResolverId.TheVariants.{Builtin, Program}
use Rattle.clash_record.specs.declared.registrations.Registration.{Registration}
use Rattle.clash_record.specs.Orders.{name_cmp, id_cmp}
use Rattle.clash_record.specs.laws.Orders.{names_total, names_exact, ids_total, ids_exact}
use Rattle.upload_store.specs.Programs.{Programs, programs_by}
use Rattle.clash_record.specs.Name.{Name}
use Rattle.partition_table.specs.Tables.{Row, Table, IsTable, IsCodeOf, program_of, code_for, row_for, rows_of, same_id, same_code, rows_agree, agrees_with}
use Rattle.partition_table.specs.model.Keeping.{IsHeld, has_room_for, IsKeptFor}
use Rattle.partition_table.specs.Views.{mapped, table_by}
use Rattle.upload_store.specs.laws.Mapped.{get-mapped, entries-mapped, len-mapped}
use Rattle.partition_table.proofs.Maps.{all_values_from, all_values_at}

-- each row has the code that the programs have under its id
abbrev pub IsLookedUp : Programs → Table → Type 0
IsLookedUp programs table = (q : Name) (row : Row) → get table q ≡ Some row → row ≡ row_for programs row.registration

module _ (programs : Programs) (rows : List (Name × Registration)) where
  pub get_row : (q : Name) → get (table_by programs rows) q ≡ option_map (row_for programs)
      (lookup (is_at (name_cmp q)) rows)
  get_row q = get-mapped names_total (row_for programs) rows q

  pub looked_up : IsLookedUp programs (table_by programs rows)
  looked_up q row h = by (lookup (is_at (name_cmp q)) rows) (sym h ∙ get_row q)
    where
      by : (r : Option Registration) → Some row ≡ option_map (row_for programs) r
          → row ≡ row_for programs row.registration
      by None e = absurd (cc)
      by (Some r) e = let is : row ≡ row_for programs r = cc in
          is ∙ ap (λ (x : Row). row_for programs x.registration) (sym is)

  -- a table has as many names as entries in order
  pub count_of : IsStrictlySortedBy name_cmp (keys_of rows) → len (table_by programs rows) ≡ length rows
  count_of ordered = len-mapped names_total (row_for programs) names_exact rows ordered

  back : (es : List (Name × Registration)) → map (λ e. (e.0, e.1.registration)) (mapped (row_for programs) es) ≡ es
  back [] = refl
  back (e ∷ es) = ap (λ xs. e ∷ xs) (back es)

  -- entries in order are the rows of the table
  pub rows_made : IsStrictlySortedBy name_cmp (keys_of rows) → rows ≡ rows_of (table_by programs rows)
  rows_made ordered =
      sym (back rows) ∙ ap (map (λ e. (e.0, e.1.registration)))
      (sym (entries-mapped names_total (row_for programs) names_exact rows ordered))

  -- what is held of a table that the entries make
  pub held_now : (table : Table) → table_by programs rows ≡ table → IsHeld programs (table_by programs rows)
      → IsHeld programs table × IsLookedUp programs table
  held_now table made held = (subst (IsHeld programs) made held, subst (IsLookedUp programs) made looked_up)

  -- a look-up that lends the registration
  pub registration_lent : (table : Table) → table_by programs rows ≡ table
      → (q : Name) (lent : Option (Bor Registration))
      → option_copied lent ≡ lookup (is_at (name_cmp q)) rows
      → option_map (λ r. r.now) lent ≡ option_map (λ row. row.registration) (get table q)
  registration_lent table made q lent h =
      by lent ∙ ap (λ o. option_map (λ (row : Row). row.registration) (option_map (row_for programs) o)) h
      ∙ ap (option_map (λ (row : Row). row.registration)) (sym (get_row q) ∙ ap (λ t. get t q) made)
    where
      by : (lent : Option (Bor Registration))
          → option_map (λ r. r.now) lent ≡ option_map (λ (row : Row). row.registration)
          (option_map (row_for programs) (option_copied lent))
      by None = refl
      by (Some r) = refl

  -- whether a name is there
  pub has_name : (table : Table) → table_by programs rows ≡ table → (q : Name)
      → is_some (lookup (is_at (name_cmp q)) rows) ≡ contains_key table q
  has_name table made q = by (lookup (is_at (name_cmp q)) rows) ∙ ap is_some (sym (get_row q) ∙ ap (λ t. get t q) made)
    where
      by : (o : Option Registration) → is_some o ≡ is_some (option_map (row_for programs) o)
      by None = refl
      by (Some r) = refl

-- nothing is held of an empty table
pub nothing_held : {P : Type 0} (code_of : P → List Insn) (programs : List (ProgramId × P)) (rows : List (Name
    × Registration))
    → programs ≡ [] → rows ≡ [] → IsHeld (programs_by code_of programs) (table_by (programs_by code_of programs) rows)
nothing_held code_of [] [] p r = record {
  few = omega (arith, len-empty name_cmp Row);
  coded = λ q row h. let both : None ≡ Some row = sym (get-empty name_cmp q) ∙ h in absurd (cc);
  named = λ id c h. let both : None ≡ Some c = sym (get-empty id_cmp id) ∙ h in absurd (cc);
}
nothing_held code_of (p ∷ programs) rows e r = absurd (cc)
nothing_held code_of [] (row ∷ rows) e r = absurd (cc)

-- ---- ids and code

pub same_id_is : (a b : Option ProgramId) → same_id a b ≡ true → (id : ProgramId) × (a ≡ Some id) × (b ≡ Some id)
same_id_is (Some p) (Some q) h = (p, refl, ap Some (sym (ids_exact p q ((Equal-is (id_cmp p q)).0 h))))
same_id_is (Some p) None h = absurd (cc)
same_id_is None b h = absurd (cc)

pub same_id_from : (id : ProgramId) → same_id (Some id) (Some id) ≡ true
same_id_from id = ap is_eq (tied_itself ids_total id)

pub same_code_from : (c d : Option (List Insn)) → c ≡ d → same_code c d ≡ true
same_code_from (Some c) (Some d) e = let is : c ≡ d = cc in (insns.same_code c d _ refl).1 is
same_code_from (Some c) None e = absurd (cc)
same_code_from None (Some d) e = absurd (cc)
same_code_from None None e = refl

pub same_code_is : (c d : Option (List Insn)) → same_code c d ≡ true → c ≡ d
same_code_is (Some c) (Some d) h = ap Some ((insns.same_code c d _ refl).0 h)
same_code_is (Some c) None h = absurd (cc)
same_code_is None (Some d) h = absurd (cc)
same_code_is None None h = refl

pub code_under : (programs : Programs) (r : ResolverId) (id : ProgramId) → program_of r ≡ Some id
    → code_for programs r ≡ get programs id
code_under programs (Builtin b) id h = absurd (cc)
code_under programs (Program p) id h = let is : p ≡ id = cc in ap (get programs) is

pub named_program : (r : ResolverId) (id : ProgramId) → program_of r ≡ Some id → r ≡ Program id
named_program (Builtin b) id h = absurd (cc)
named_program (Program p) id h = let is : p ≡ id = cc in ap Program is

-- rows agree where each id that both name has the same code
pub agree_from : (r s : Row)
    → ((id : ProgramId) → program_of r.registration.resolver ≡ Some id → program_of s.registration.resolver ≡ Some id
    → r.code ≡ s.code)
    → rows_agree r s ≡ true
agree_from r s h = by (same_id (program_of r.registration.resolver) (program_of s.registration.resolver)) refl
  where
    by : (b : Bool) → same_id (program_of r.registration.resolver) (program_of s.registration.resolver) ≡ b
        → (not b || same_code r.code s.code) ≡ true
    by true e =
        let both = same_id_is (program_of r.registration.resolver) (program_of s.registration.resolver) e in
        same_code_from r.code s.code (h both.0 both.1 both.2)
    by false e = refl

pub agree_at : (r s : Row) → rows_agree r s ≡ true → (id : ProgramId)
    → program_of r.registration.resolver ≡ Some id → program_of s.registration.resolver ≡ Some id → r.code ≡ s.code
agree_at r s h id p q =
    let same : same_id (program_of r.registration.resolver) (program_of s.registration.resolver) ≡ true =
    ap (λ o. same_id o (program_of s.registration.resolver)) p ∙ ap (same_id (Some id)) q ∙ same_id_from id in
    same_code_is r.code s.code (sym (ap (λ b. not b || same_code r.code s.code) same) ∙ h)

-- ---- what is held is a table

module _ (programs : Programs) (table : Table) (held : IsHeld programs table) (looked : IsLookedUp programs table) where
  -- a row that names a program has the code under its id
  pub code_at : (q : Name) (row : Row) → get table q ≡ Some row → (id : ProgramId)
      → program_of row.registration.resolver ≡ Some id → row.code ≡ get programs id
  code_at q row h id p =
      ap (λ (r : Row). r.code) (looked q row h) ∙ code_under programs row.registration.resolver id p

  -- a row has the code that the programs have for its resolver
  pub code_held : (q : Name) (row : Row) → get table q ≡ Some row → (r : ResolverId) → row.registration.resolver ≡ r
      → row.code ≡ code_for programs r
  code_held q row h r is = ap (λ (r : Row). r.code) (looked q row h) ∙ ap (code_for programs) is

  -- a program that is held is kept for some row
  pub kept_for : {P : Type 0} (code_of : P → List Insn) (r : ResolverId) (id : ProgramId) → r ≡ Program id
      → (lent : Option (Bor P))
      → get programs id ≡ option_map (λ p. code_of p.now) lent → IfSome lent (λ p. IsKeptFor table r (code_of p.now))
  kept_for code_of r id is None there = tt
  kept_for code_of r id is (Some p) there =
      let named = held.named id (code_of p.now) there in (
        named.0,
        named.1,
        named.2,
        named_program named.1.registration.resolver id named.3
            ∙ sym is,
        code_at named.0 named.1 named.2 id named.3 ∙ there,
      )

  pub is_table : IsTable table
  is_table = record {
    few = held.few;
    coded = held.coded;
    one_code = all_values_from names_total table (agrees_with table) (λ q r h.
        all_values_from names_total table (rows_agree r) (λ p s k.
        agree_from r s (λ id a b. code_at q r h id a ∙ sym (code_at p s k id b))));
  }

  -- there is room for code under an id just where no row has other code there
  pub agrees_from_room : (row : Row) → has_room_for programs row.registration.resolver row.code
      → agrees_with table row ≡ true
  agrees_from_room row room = all_values_from names_total table (rows_agree row) (λ q s h.
      agree_from row s (λ id a b. by q s h id a b (subst (λ r. has_room_for programs r row.code)
      (named_program row.registration.resolver id a) room)))
    where
      none_coded : (r : ResolverId) (id : ProgramId) → program_of r ≡ Some id → (c : Option (List Insn)) → IsCodeOf r c
          → c ≡ None → ⊥
      none_coded (Builtin b) id p c coded e = absurd (cc)
      none_coded (Program i) id p None coded e = coded
      none_coded (Program i) id p (Some c) coded e = absurd (cc)

      by : (q : Name) (s : Row) → get table q ≡ Some s → (id : ProgramId)
          → program_of row.registration.resolver ≡ Some id
          → program_of s.registration.resolver ≡ Some id
          → (get programs id ≡ None) ⊎ (get programs id ≡ row.code) → row.code ≡ s.code
      by q s h id a b (inl none) =
          absurd (none_coded s.registration.resolver id b s.code (held.coded q s h) (code_at q s h id b ∙ none))
      by q s h id a b (inr same) = sym same ∙ sym (code_at q s h id b)

  pub room_from_agrees : (row : Row) → agrees_with table row ≡ true
      → has_room_for programs row.registration.resolver row.code
  room_from_agrees row agrees = by row.registration.resolver refl
    where
      by_id : (id : ProgramId) → row.registration.resolver ≡ Program id → (c : Option (List Insn)) → get programs id ≡ c
          → (c ≡ None) ⊎ (c ≡ row.code)
      by_id id is None e = inl refl
      by_id id is (Some c) e =
          let some = held.named id c e in
          let same = agree_at row some.1 (all_values_at names_total table (rows_agree row) agrees some.0 some.1 some.2)
          id (ap program_of is) some.3 in
          inr (sym e ∙ sym (code_at some.0 some.1 some.2 id some.3) ∙ sym same)

      by : (r : ResolverId) → row.registration.resolver ≡ r → has_room_for programs r row.code
      by (Builtin b) is = tt
      by (Program id) is = by_id id is (get programs id) refl
