use Rattle.std.proofs.Common.{◌≡◌, ℕ, zero, suc, ◌∙◌, ◌==◌, ◌<◌, cond, ap₂, arith, refl, false, List, [], ◌∷◌, get_or}
use Rattle.std.proofs.lemmas.Bool.Decides.{nat_tests}
use Rattle.std.specs.Prelude.{pos}
use Rattle.abstract_value.specs.States.{first_view, make_span}
use Rattle.abstract_value.specs.declared.states.RegState.{RegState}
use Rattle.abstract_value.specs.declared.states.Span.{Span}
use Rattle.abstract_value.specs.declared.states.RegState.TheVariants.{Record, Stack, Unreadable}
use Rattle.abstract_value.proofs.JoinPlaceByPlace.{view_ext}
use Rattle.abstract_value.proofs.states.State.entry.Goals as goal

-- the registers at the start, one by one
abbrev starting : {D : Type 0} → Span → Span → List (RegState D)
starting a b =
    Unreadable ∷ Record a ∷ Unreadable ∷ Unreadable ∷ Unreadable ∷ Unreadable ∷ Unreadable
    ∷ Unreadable ∷ Unreadable ∷ Unreadable ∷ Stack b ∷ []

later : {D : Type 0} (r : ℕ) (a b : Span) → 10 < r
    → (let x : RegState D = Unreadable in x) ≡ cond (r == 1) (Record a) (cond (r == 10) (Stack b) Unreadable)
later r a b h =
    let e : (r == 1) ≡ false = grind (arith, nat_tests) in
    let f : (r == 10) ≡ false = grind (arith, nat_tests) in
    rw (e, f) refl

at_start : {D : Type 0} (r : ℕ) (a b : Span)
    → get_or (starting {D = D} a b) r Unreadable ≡ cond (r == 1) (Record a) (cond (r == 10) (Stack b) Unreadable)
at_start zero a b = refl
at_start (suc zero) a b = refl
at_start (suc (suc zero)) a b = refl
at_start (suc (suc (suc zero))) a b = refl
at_start (suc (suc (suc (suc zero)))) a b = refl
at_start (suc (suc (suc (suc (suc zero))))) a b = refl
at_start (suc (suc (suc (suc (suc (suc zero)))))) a b = refl
at_start (suc (suc (suc (suc (suc (suc (suc zero))))))) a b = refl
at_start (suc (suc (suc (suc (suc (suc (suc (suc zero)))))))) a b = refl
at_start (suc (suc (suc (suc (suc (suc (suc (suc (suc zero))))))))) a b = refl
at_start (suc (suc (suc (suc (suc (suc (suc (suc (suc (suc zero)))))))))) a b = refl
at_start (suc (suc (suc (suc (suc (suc (suc (suc (suc (suc (suc r))))))))))) a b =
    later (suc (suc (suc (suc (suc (suc (suc (suc (suc (suc (suc r))))))))))) a b (omega arith)

pub returns : goal.returns
returns g c =
    view_ext _ first_view
    (λ r. ap₂ (λ (a b : Span). get_or (starting a b) r Unreadable) c.new.ensures c.new-2.ensures
    ∙ at_start r (make_span (pos 0) (pos 0)) (make_span (pos 0) (pos 0)))
    c.empty.ensures
