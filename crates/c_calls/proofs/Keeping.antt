-- The ids of kept programs.
use Rattle.std.proofs.Common.{◌≡◌, List, [], ◌∷◌, ℕ, zero, suc, Option, Some, None, refl, sym, ap, inl, inr, ◌∙◌, slice_get}
use Rattle.std.specs.Prelude.{IfSome}
use Rattle.std.specs.Option.{option_map}
use Rattle.std.specs.FinMap as map
use Rattle.instruction_set.specs.declared.insn.Insn.{Insn}
use Rattle.clash_record.specs.Name.{Name}
use Rattle.clash_record.specs.declared.registrations.ProgramId.{ProgramId}
use Rattle.clash_record.specs.declared.registrations.ResolverId.TheVariants.{Program}
use Rattle.partition_table.specs.Tables.{Row}
use Rattle.partition_table.specs.model.Keeping.{IsKeptFor}
use Rattle.exchange_core.specs.Shown.{shown}
use Rattle.c_calls.specs.Halves.{SideAndStore}
use Rattle.c_calls.specs.Kept.{HasCodeUnder}
use Rattle.upload_store.specs.Programs.{mapped}

nth : {K X Y : Type 0} (f : X → Y) (xs : List (K × X)) (i : ℕ)
    → option_map (λ e. e.0) (slice_get (mapped f xs) i) ≡ option_map (λ e. e.0) (slice_get xs i)
nth f [] i = refl
nth f (x ∷ xs) zero = refl
nth f (x ∷ xs) (suc i) = nth f xs i

pub id_of_mapped : {K X Y : Type 0} (f : X → Y) (xs : List (K × X)) (ys : List (K × Y)) (i : ℕ) (found : Option K)
    → mapped f xs ≡ ys → found ≡ option_map (λ e. e.0) (slice_get xs i) → found ≡ option_map (λ e. e.0) (slice_get ys i)
id_of_mapped f xs ys i found same is = is ∙ sym (nth f xs i) ∙ ap (λ es. option_map (λ e. e.0) (slice_get es i)) same

-- the code of a kept program
pub stored : {P : Type 0} (code : P → List Insn) (id : ProgramId) (half : SideAndStore) (r : Option P) (p : P) → r ≡ Some p
    → option_map code r ≡ map.get half.store id → HasCodeUnder id half (code p)
stored code id half (Some q) p e is = let same : q ≡ p = cc in inl (sym is ∙ ap (λ x. Some (code x)) same)
stored code id half None p e is = absurd (cc)

-- of one that a row names
pub named : {P : Type 0} (code : P → List Insn) (id : ProgramId) (half : SideAndStore) (r : Option P)
    → IfSome r (λ p. IsKeptFor (shown half.side).table (Program id) (code p)) → IfSome r (λ p. HasCodeUnder id half (code p))
named code id half None k = k
named code id half (Some p) (name, row, there, by, has) =
    inr (record { name = name; row = row; there = there; by = by; has = has })

-- a program that is neither
pub neither : {P : Type 0} (code : P → List Insn) (id : ProgramId) (half : SideAndStore) (r s : Option P) → r ≡ None
    → option_map code r ≡ map.get half.store id
    → ((name : Name) (row : Row) → map.get (shown half.side).table name ≡ Some row → row.registration.resolver ≡ Program id
    → option_map code s ≡ row.code)
    → s ≡ None → (c : List Insn) → HasCodeUnder id half c → ⊥
neither code id half (Some q) s e is each none c has = cc
neither code id half None s e is each none c (inl kept) = cc
neither code id half None (Some q) e is each none c (inr n) = cc
neither code id half None None e is each none c (inr n) =
    let same = each n.name n.row n.there n.by in let has = n.has in cc
