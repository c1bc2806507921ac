-- Two tables keep no program with two codes.
use Rattle.std.proofs.Common.{◌≡◌, ◌⊎◌, ◌↔◌, Bool, true, false, cond, Option, Some, None, List, [], ◌∷◌, refl, ap, sym, subst, ◌∙◌, inl, inr}
use Rattle.std.specs.Bool.{IsTrue}
use Rattle.std.specs.Option.{option_map}
use Rattle.std.specs.Ordering.{eq_by_cmp}
use Rattle.std.specs.Cmp.{Equal-is}
use Rattle.std.specs.Map.{lookup}
use Rattle.std.specs.BTreeMap.{is_at}
use Rattle.std.specs.FinMap.{get}
use Rattle.instruction_set.specs.declared.insn.Insn.{Insn}
use Rattle.clash_record.specs.declared.registrations.ProgramId.{ProgramId}
use Rattle.clash_record.specs.declared.registrations.ResolverId.{ResolverId}
use Rattle.clash_record.specs.declared.registrations.ResolverId.TheVariants.{Builtin, Program}
use Rattle.clash_record.specs.Orders.{id_cmp}
use Rattle.clash_record.specs.laws.Orders.{names_total, ids_exact}
use Rattle.upload_store.specs.Programs.{Programs, programs_by}
use Rattle.clash_record.specs.Name.{Name}
use Rattle.partition_table.specs.Tables.{Row, Table, IsCodeOf, program_of, agrees_with, tables_agree}
use Rattle.partition_table.specs.model.Keeping.{programs_agree, IsHeld, has_room_for}
use Rattle.partition_table.proofs.Maps.{all_values_from, all_values_at}
use Rattle.partition_table.proofs.Held.{IsLookedUp, code_at, named_program, agrees_from_room, room_from_agrees}
use Rattle.partition_table.proofs.Holding.{get_code}

pub same_bool : (b c : Bool) → (b ≡ true → c ≡ true) → (c ≡ true → b ≡ true) → b ≡ c
same_bool true c f g = sym (f refl)
same_bool false true f g = g refl
same_bool false false f g = refl

module _ {P : Type 0} (code_of : P → List Insn) (entries : List (ProgramId × P)) (other : Programs) where
  -- each program agrees, or is left
  abbrev pub AgreeSoFar : List (ProgramId × P) → Type 0
  AgreeSoFar left =
      (id : ProgramId) (p : P) → lookup (is_at (id_cmp id)) entries ≡ Some p
      → has_room_for other (Program id) (Some (code_of p)) ⊎ (lookup (is_at (id_cmp id)) left ≡ Some p)

  pub one_more_agrees : (left rest : List (ProgramId × P)) (k : ProgramId) (p : P) → AgreeSoFar left
      → left ≡ (k, p) ∷ rest
      → has_room_for other (Program k) (Some (code_of p)) → AgreeSoFar rest
  one_more_agrees left rest k p so_far is room = λ id x found. by id x (so_far id x found)
    where
      by_head : (id : ProgramId) (x : P) (b : Bool) → eq_by_cmp id_cmp id k ≡ b
          → cond b (Some p) (lookup (is_at (id_cmp id)) rest) ≡ Some x
          → has_room_for other (Program id) (Some (code_of x)) ⊎ (lookup (is_at (id_cmp id)) rest ≡ Some x)
      by_head id x true t e =
          let same : p ≡ x = cc in
          let ids : k ≡ id = sym (ids_exact id k ((Equal-is (id_cmp id k)).0 t)) in
          inl (subst (λ i. has_room_for other (Program i) (Some (code_of x))) ids
          (subst (λ x. has_room_for other (Program k) (Some (code_of x))) same room))
      by_head id x false t e = inr e

      by : (id : ProgramId) (x : P) → has_room_for other (Program id) (Some (code_of x))
          ⊎ (lookup (is_at (id_cmp id)) left ≡ Some x)
          → has_room_for other (Program id) (Some (code_of x)) ⊎ (lookup (is_at (id_cmp id)) rest ≡ Some x)
      by id x (inl room) = inl room
      by id x (inr found) = by_head id x (eq_by_cmp id_cmp id k) refl (sym (ap (lookup (is_at (id_cmp id))) is) ∙ found)

  held_by : (o : Option P) (c : List Insn) → option_map code_of o ≡ Some c → (p : P) × (o ≡ Some p) × (code_of p ≡ c)
  held_by None c e = absurd (cc)
  held_by (Some p) c e = (p, refl, (cc))

  pub all_agree : AgreeSoFar [] → programs_agree (programs_by code_of entries) other
  all_agree so_far id c found =
      let held = held_by (lookup (is_at (id_cmp id)) entries) c (sym (get_code code_of entries id) ∙ found) in
      subst (λ c. has_room_for other (Program id) (Some c)) held.2 (by held.0 (so_far id held.0 held.1))
    where
      by : (p : P) → has_room_for other (Program id) (Some (code_of p)) ⊎ (None ≡ Some p)
          → has_room_for other (Program id) (Some (code_of p))
      by p (inl room) = room
      by p (inr e) = absurd (cc)

  pub one_differs : (id : ProgramId) (p : P) → lookup (is_at (id_cmp id)) entries ≡ Some p
      → (has_room_for other (Program id) (Some (code_of p)) → ⊥) → programs_agree (programs_by code_of entries) other
      → ⊥
  one_differs id p found differs agree = differs (agree id (code_of p) (get_code code_of entries id
      ∙ ap (option_map code_of) found))

module _ (programs others : Programs) (table other : Table) (held : IsHeld programs table)
    (looked : IsLookedUp programs table)
    (held_other : IsHeld others other) (looked_other : IsLookedUp others other) where
  room_for_row : programs_agree programs others → (q : Name) (row : Row) → get table q ≡ Some row
      → has_room_for others row.registration.resolver row.code
  room_for_row agree q row there = by row.registration.resolver refl row.code refl (held.coded q row there)
    where
      by : (r : ResolverId) → row.registration.resolver ≡ r → (c : Option (List Insn)) → row.code ≡ c
          → IsCodeOf row.registration.resolver row.code
          → has_room_for others r c
      by (Builtin b) is c e coded = tt
      by (Program id) is None e coded =
          absurd (subst (λ r. IsCodeOf r None) is (subst (IsCodeOf row.registration.resolver) e coded))
      by (Program id) is (Some c) e coded =
          agree id c (sym (code_at programs table held looked q row there id (ap program_of is)) ∙ e)

  agree_from : programs_agree programs others → tables_agree table other ≡ true
  agree_from agree = all_values_from names_total table (agrees_with other) (λ q row there.
      agrees_from_room others other held_other looked_other row (room_for_row agree q row there))

  agree_back : tables_agree table other ≡ true → programs_agree programs others
  agree_back agree id c found =
      let named = held.named id c found in
      let row = named.1 in
      let room = room_from_agrees others other held_other looked_other row
      (all_values_at names_total table (agrees_with other) agree named.0 row named.2) in
      let code : row.code ≡ Some c = code_at programs table held looked named.0 row named.2 id named.3 ∙ found in
      subst (has_room_for others (Program id)) code (subst (λ r. has_room_for others r row.code)
      (named_program row.registration.resolver id named.3) room)

  -- the tables agree just where the programs do
  pub agree_is : (b : Bool) → IsTrue b ↔ programs_agree programs others → b ≡ tables_agree table other
  agree_is b tested = same_bool b (tables_agree table other) (λ t. agree_from (tested.0 t))
      (λ t. tested.1 (agree_back t))
