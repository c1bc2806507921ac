-- Rows of two tables that agree.
use Rattle.std.proofs.Common.{◌≡◌, Bool, true, false, ◌&&◌, ◌||◌, if◌then◌else◌, Option, Some, None, IfSome, Bor, List, refl, ap, sym, subst, ◌∙◌, inl, inr}
use Rattle.std.specs.Option.{option_map}
use Rattle.std.specs.FinMap.{get}
use Rattle.instruction_set.specs.declared.insn.Insn.{Insn}
use Rattle.clash_record.specs.declared.registrations.ProgramId.{ProgramId}
use Rattle.clash_record.specs.declared.registrations.ResolverId.{ResolverId}
use Rattle.clash_record.specs.declared.registrations.ResolverId.TheVariants.{Builtin, Program}
use Rattle.clash_record.specs.declared.registrations.Registration.{Registration}
use Rattle.clash_record.specs.laws.Orders.{names_total}
use Rattle.clash_record.specs.Name.{Name}
use Rattle.partition_table.specs.Tables.{Row, Table, IsTable, IsCodeOf, program_of, rows_agree, agrees_with, tables_agree, holds, unless_gone}
use Rattle.partition_table.specs.model.Keeping.{IsKeptFor}
use Rattle.partition_table.specs.model.Merging.{IsRowOf, holds_as}
use Rattle.partition_table.proofs.Maps.{all_values_from, all_values_at}
use Rattle.partition_table.proofs.Held.{agree_from, agree_at}

named_by_code : (r : ResolverId) (c : List Insn) → IsCodeOf r (Some c) → (id : ProgramId) × (program_of r ≡ Some id)
named_by_code (Builtin b) c coded = absurd coded
named_by_code (Program id) c coded = (id, refl)

module _ (a b : Table) (kept_a : IsTable a) (kept_b : IsTable b) (agree : tables_agree a b ≡ true) where
  -- rows that name one program have one code
  pub two_agree : (n m : Name) (r s : Row) → IsRowOf a b n r → IsRowOf a b m s → (id : ProgramId)
      → program_of r.registration.resolver ≡ Some id → program_of s.registration.resolver ≡ Some id → r.code ≡ s.code
  two_agree n m r s (inl h) (inl k) id p q =
      agree_at r s (all_values_at names_total a (rows_agree r)
      (all_values_at names_total a (agrees_with a) kept_a.one_code n r h) m s k) id p q
  two_agree n m r s (inl h) (inr k) id p q =
      agree_at r s (all_values_at names_total b (rows_agree r) (all_values_at names_total a (agrees_with b) agree n r h)
      m s k) id p q
  two_agree n m r s (inr h) (inl k) id p q =
      sym (agree_at s r (all_values_at names_total b (rows_agree s)
      (all_values_at names_total a (agrees_with b) agree m s k) n r h) id q p)
  two_agree n m r s (inr h) (inr k) id p q =
      agree_at r s (all_values_at names_total b (rows_agree r)
      (all_values_at names_total b (agrees_with b) kept_b.one_code n r h) m s k) id p q

  pub coded_row_of : (n : Name) (row : Row) → IsRowOf a b n row → IsCodeOf row.registration.resolver row.code
  coded_row_of n row (inl h) = kept_a.coded n row h
  coded_row_of n row (inr h) = kept_b.coded n row h

  kept_code : (m : Name) (s : Row) → IsRowOf a b m s → (r : ResolverId) → s.registration.resolver ≡ r → (c : List Insn)
      → s.code ≡ Some c
      → (n : Name) (row : Row) → IsRowOf a b n row → row.registration.resolver ≡ r → Some c ≡ row.code
  kept_code m s of_s r is c coded n row of_row same =
      let named = named_by_code s.registration.resolver c (subst (IsCodeOf s.registration.resolver) coded
      (coded_row_of m s of_s)) in
      sym coded ∙ two_agree m n s row of_s of_row named.0 named.1 (ap program_of (same ∙ sym is) ∙ named.1)

  -- a program that the first keeps is that of each row with its resolver
  pub kept_in_first : (r : ResolverId) (c : List Insn) → IsKeptFor a r c → (n : Name) (row : Row) → IsRowOf a b n row
      → row.registration.resolver ≡ r → Some c ≡ row.code
  kept_in_first r c k n row of_row same = kept_code k.0 k.1 (inl k.2) r k.3 c k.4 n row of_row same

  -- and so is what the second has, where the first has none
  pub kept_in_second : {P : Type 0} (code_of : P → List Insn) (r : ResolverId) (lent : Option (Bor P))
      → IfSome lent (λ p. IsKeptFor b r (code_of p.now)) → (n : Name) (row : Row)
      → (get a n ≡ Some row → None ≡ row.code) → (get b n ≡ Some row → option_map (λ p. code_of p.now) lent ≡ row.code)
      → row.registration.resolver ≡ r → IsRowOf a b n row → option_map (λ p. code_of p.now) lent ≡ row.code
  kept_in_second code_of r (Some p) k n row first second same of_row =
      kept_code k.0 k.1 (inr k.2) r k.3 (code_of p.now) k.4 n row of_row same
  kept_in_second code_of r None k n row first second same (inl h) = first h
  kept_in_second code_of r None k n row first second same (inr h) = second h

  -- a table of rows of the two agrees with each further one
  pub part_agrees : (part : Table) → ((n : Name) (row : Row) → get part n ≡ Some row → IsRowOf a b n row)
      → (n : Name) (row : Row) → IsRowOf a b n row → agrees_with part row ≡ true
  part_agrees part rows n row of_row = all_values_from names_total part (rows_agree row) (λ m s h.
      agree_from row s (λ id p q. two_agree n m row s of_row (rows m s h) id p q))

-- a side holds the row that is kept just where it holds its registration
pub holds_is : (r : Option Row) (row : Row) → holds r (Some row) ≡ holds_as r row.registration
holds_is (Some r) row = refl
holds_is None row = refl

pub stays_put : (r s : Option Row) (gone_r gone_s : Bool) (row : Row) (kept : Registration) → row.registration ≡ kept
    → (b : Bool)
    → b ≡ ((gone_r && holds_as r kept) || (gone_s && holds_as s kept))
    → unless_gone r s gone_r gone_s (Some row) ≡ (if b then None else Some row)
stays_put r s gone_r gone_s row kept is b tested =
    ap (λ x. if x then None else Some row)
    (ap (λ x. (gone_r && x) || (gone_s && holds s (Some row))) (holds_is r row ∙ ap (holds_as r) is)
    ∙ ap (λ x. (gone_r && holds_as r kept) || (gone_s && x)) (holds_is s row ∙ ap (holds_as s) is)
    ∙ sym tested)

-- where nothing is kept, nothing is withdrawn
pub none_gone : (r s : Option Row) (p q : Bool) → unless_gone r s p q None ≡ None
none_gone r s p q = by ((p && holds r None) || (q && holds s None)) None refl
  where
    by : (b : Bool) (o : Option Row) → o ≡ None → (if b then None else o) ≡ None
    by true o e = refl
    by false o e = e

pub row_with : (row : Option Row) (kept : Registration) → option_map (λ row. row.registration) row ≡ Some kept
    → (r : Row) × (row ≡ Some r) × (r.registration ≡ kept)
row_with None kept e = absurd (cc)
row_with (Some r) kept e = (r, refl, (cc))

-- a row by its parts
pub row_of_parts : (row : Row) (kept : Registration) (code : Option (List Insn)) → row.registration ≡ kept
    → code ≡ row.code
    → row ≡ record { registration = kept; code = code }
row_of_parts row kept code is coded =
    ap (λ (r : Registration). record { registration = r; code = row.code }) is
    ∙ ap (λ (c : Option (List Insn)). record { registration = kept; code = c }) (sym coded)
