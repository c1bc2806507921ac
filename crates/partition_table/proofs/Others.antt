-- Programs whose ids another map lacks.
use Rattle.std.proofs.Common.{◌≡◌, ◌⊎◌, Bool, true, false, cond, Option, Some, None, is_some, List, [], ◌∷◌, refl, ap, sym, subst, ◌∙◌, inl, inr}
use Rattle.std.specs.Option.{option_map}
use Rattle.std.specs.Ordering.{is_eq, eq_by_cmp}
use Rattle.std.specs.Cmp.{Equal-is, tied_itself}
use Rattle.std.specs.Map.{lookup}
use Rattle.std.specs.BTreeMap.{is_at}
use Rattle.std.specs.FinMap.{get, insert, get-insert}
use Rattle.clash_record.specs.declared.registrations.ProgramId.{ProgramId}
use Rattle.clash_record.specs.declared.registrations.ResolverId.{ResolverId}
use Rattle.clash_record.specs.declared.registrations.ResolverId.TheVariants.{Builtin, Program}
use Rattle.clash_record.specs.Orders.{id_cmp}
use Rattle.clash_record.specs.laws.Orders.{ids_total, ids_exact}
use Rattle.upload_store.specs.Programs.{Programs, programs_by}
use Rattle.partition_table.specs.declared.programs.Kept.{Kept}
use Rattle.partition_table.specs.Tables.{Row, Table, IsCodeOf, code_for, tables_agree}
use Rattle.partition_table.specs.model.Coding.{HasCodesOf, HasCodesAmong, HasRoomForRows, AreKeptFor, AreOthersOf}
use Rattle.partition_table.specs.model.Keeping.{IsHeld, kept_code, has_room_for}
use Rattle.clash_record.specs.laws.Orders.{names_total}
use Rattle.partition_table.proofs.Maps.{all_values_at}
use Rattle.partition_table.proofs.Held.{IsLookedUp, room_from_agrees}
use Rattle.partition_table.proofs.Holding.{get_code}

-- a program is known, or is among the others
abbrev pub IsOther : List (ProgramId × Kept) → Programs → ProgramId → Kept → Type 0
IsOther known others id kept =
    (is_some (lookup (is_at (id_cmp id)) known) ≡ true) ⊎ (get others id ≡ Some (kept_code kept))

-- a program that is added is among the others
pub just_added : (known : List (ProgramId × Kept)) (k : ProgramId) (p : Kept) (others : Programs)
    → IsOther known (insert others k (kept_code p)) k p
just_added known k p others =
    inr (get-insert ids_total others k (kept_code p) k
    ∙ ap (λ b. cond b (Some (kept_code p)) (get others k)) (ap is_eq (tied_itself ids_total k)))

module _ (programs known : List (ProgramId × Kept)) where
  -- each program is known or among the others, or is left
  abbrev pub OthersSoFar : List (ProgramId × Kept) → Programs → Type 0
  OthersSoFar left others =
      (id : ProgramId) (kept : Kept) → lookup (is_at (id_cmp id)) programs ≡ Some kept
      → IsOther known others id kept ⊎ (lookup (is_at (id_cmp id)) left ≡ Some kept)

  -- with this program settled, and the earlier ones still, one less is left
  pub one_more_settled : (left rest : List (ProgramId × Kept)) (k : ProgramId) (p : Kept) (others more : Programs)
      → OthersSoFar left others → left ≡ (k, p) ∷ rest → IsOther known more k p
      → ((id : ProgramId) (kept : Kept) → lookup (is_at (id_cmp id)) programs ≡ Some kept
      → IsOther known others id kept → IsOther known more id kept)
      → OthersSoFar rest more
  one_more_settled left rest k p others more so_far is here keeps = λ id x found. by id x found (so_far id x found)
    where
      by_head : (id : ProgramId) (x : Kept) (b : Bool) → eq_by_cmp id_cmp id k ≡ b
          → cond b (Some p) (lookup (is_at (id_cmp id)) rest) ≡ Some x
          → IsOther known more id x ⊎ (lookup (is_at (id_cmp id)) rest ≡ Some x)
      by_head id x true t e =
          let same : p ≡ x = cc in
          let ids : k ≡ id = sym (ids_exact id k ((Equal-is (id_cmp id k)).0 t)) in
          inl (subst (λ i. IsOther known more i x) ids (subst (IsOther known more k) same here))
      by_head id x false t e = inr e

      by : (id : ProgramId) (x : Kept) → lookup (is_at (id_cmp id)) programs ≡ Some x
          → IsOther known others id x ⊎ (lookup (is_at (id_cmp id)) left ≡ Some x)
          → IsOther known more id x ⊎ (lookup (is_at (id_cmp id)) rest ≡ Some x)
      by id x found (inl settled) = inl (keeps id x found settled)
      by id x found (inr there) = by_head id x (eq_by_cmp id_cmp id k) refl (sym (ap (lookup (is_at (id_cmp id))) is) ∙ there)

  -- a program that is added leaves the earlier ones there
  pub still_other : (k : ProgramId) (p : Kept) (others : Programs) → lookup (is_at (id_cmp k)) programs ≡ Some p
      → (id : ProgramId) (kept : Kept) → lookup (is_at (id_cmp id)) programs ≡ Some kept
      → IsOther known others id kept → IsOther known (insert others k (kept_code p)) id kept
  still_other k p others there id kept found (inl old) = inl old
  still_other k p others there id kept found (inr e) =
      inr (get-insert ids_total others k (kept_code p) id ∙ by (eq_by_cmp id_cmp id k) refl)
    where
      by : (b : Bool) → eq_by_cmp id_cmp id k ≡ b → cond b (Some (kept_code p)) (get others id) ≡ Some (kept_code kept)
      by true t =
          let ids : id ≡ k = ids_exact id k ((Equal-is (id_cmp id k)).0 t) in
          let both : Some p ≡ Some kept = sym there ∙ ap (λ i. lookup (is_at (id_cmp i)) programs) (sym ids) ∙ found in
          ap (option_map kept_code) both
      by false t = e

  pub all_settled : (others : List (ProgramId × Kept)) → OthersSoFar [] (programs_by kept_code others)
      → AreOthersOf programs known others
  all_settled others so_far id kept found = by (so_far id kept found)
    where
      by : IsOther known (programs_by kept_code others) id kept ⊎ (None ≡ Some kept)
          → IsOther known (programs_by kept_code others) id kept
      by (inl settled) = settled
      by (inr e) = absurd (cc)

  -- the rows have their code among the others and the known ones
  pub codes_among : (others : List (ProgramId × Kept)) (table : Table) → IsHeld (programs_by kept_code programs) table
      → IsLookedUp (programs_by kept_code programs) table → HasRoomForRows (programs_by kept_code known) table
      → AreOthersOf programs known others
      → HasCodesAmong (programs_by kept_code others) (programs_by kept_code known) table
  codes_among others table held looked room are name row there =
      by row.registration.resolver refl (ap (λ (r : Row). r.code) (looked name row there))
    where
      Among : ResolverId → Type 0
      Among r = (row.code ≡ code_for (programs_by kept_code others) r)
          ⊎ (row.code ≡ code_for (programs_by kept_code known) r)

      by_kept : (id : ProgramId) → row.registration.resolver ≡ Program id → (o : Option Kept)
          → lookup (is_at (id_cmp id)) programs ≡ o → row.code ≡ option_map kept_code o → Among (Program id)
      by_kept id is None e code =
          absurd (subst (λ r. IsCodeOf r None) is (subst (IsCodeOf row.registration.resolver) code (held.coded name row there)))
      by_kept id is (Some kept) e code = settled (are id kept e)
        where
          in_room : (o : Option Kept) → lookup (is_at (id_cmp id)) known ≡ o → is_some o ≡ true
              → (get (programs_by kept_code known) id ≡ None) ⊎ (get (programs_by kept_code known) id ≡ row.code)
              → Among (Program id)
          in_room None k some h = absurd (cc)
          in_room (Some p) k some (inl none) =
              let both : Some (kept_code p) ≡ None = sym (get_code kept_code known id ∙ ap (option_map kept_code) k) ∙ none in
              absurd (cc)
          in_room (Some p) k some (inr same) = inr (sym same)

          settled : IsOther known (programs_by kept_code others) id kept → Among (Program id)
          settled (inl some) = in_room (lookup (is_at (id_cmp id)) known) refl some
              (subst (λ r. has_room_for (programs_by kept_code known) r row.code) is (room name row there))
          settled (inr e) = inl (code ∙ sym e)

      by : (r : ResolverId) → row.registration.resolver ≡ r
          → row.code ≡ code_for (programs_by kept_code programs) row.registration.resolver
          → Among row.registration.resolver
      by (Builtin b) is code =
          subst Among (sym is) (inl (code ∙ ap (code_for (programs_by kept_code programs)) is))
      by (Program id) is code =
          subst Among (sym is) (by_kept id is (lookup (is_at (id_cmp id)) programs) refl
          (code ∙ ap (code_for (programs_by kept_code programs)) is ∙ get_code kept_code programs id))

-- programs that are looked up have the codes of the rows
pub codes_looked_up : (programs : Programs) (table : Table) → IsLookedUp programs table → HasCodesOf programs table
codes_looked_up programs table looked name row there = ap (λ (r : Row). r.code) (looked name row there)

looked_up_codes : (programs : Programs) (table : Table) → HasCodesOf programs table → IsLookedUp programs table
looked_up_codes programs table codes name row there =
    ap (λ c. record { registration = row.registration; code = c }) (codes name row there)

-- no row of a table that agrees names a program with other code
pub room_for_rows : (programs : Programs) (a b : Table) → AreKeptFor programs b → tables_agree a b ≡ true
    → HasRoomForRows programs a
room_for_rows programs a b kept agree name row there =
    room_from_agrees programs b kept.0 (looked_up_codes programs b kept.1) row
    (all_values_at names_total a _ agree name row there)
