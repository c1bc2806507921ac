-- A refusal that is due is returned, also when memory runs out.
use Rattle.std.specs.Prelude.{◌≡◌, ℕ, Option, Some, None, IfSome, Result, Err}
use Rattle.std.proofs.Common.{inl, inr}
use Rattle.refusals.specs.Answers.{IsAnswered, out_of_memory}

-- a refusal for another reason than memory is the one that is due
pub is_due : (A : Type 0) {F : Type 0} (number : F → ℕ) (due : Option F) (fault : F) → IsAnswered {A = A} number due (Err fault)
    → (number fault ≡ out_of_memory → ⊥) → IfSome due (λ other. ◌≡◌ {A = Result A F} (Err fault) (Err other))
is_due A number None fault (inl e) other = absurd (cc)
is_due A number (Some due) fault (inl e) other = cc
is_due A number due fault (inr e) other = absurd (other e)

-- no refusal is due
pub none_is_due : {F : Type 0} (due : Option F) (P : F → Type 0) → due ≡ None → IfSome due P
none_is_due None P e = tt
none_is_due (Some fault) P e = absurd (cc)
