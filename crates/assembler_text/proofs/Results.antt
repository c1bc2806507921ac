-- Steps that may fail: what one of them gave, from what all gave.
use Rattle.std.proofs.Common.{◌≡◌, refl, ap, ◌∙◌, sym, Result, Ok, Err, inl, inr, ◌⊎◌}
use Rattle.refusals.specs.Answers.{◌>>=◌}

abbrev pub done : {E A : Type 0} → A → Result A E
done x = Ok x

abbrev pub failed : {E A : Type 0} → E → Result A E
failed e = Err e

pub ok_is : {E A : Type 0} (x y : A) → done {E = E} x ≡ done y → x ≡ y
ok_is x y h = cc

pub err_is : {E A : Type 0} (d e : E) → failed {A = A} d ≡ failed e → d ≡ e
err_is d e h = cc

pub not_err : {E A : Type 0} (e : E) (x : A) → failed e ≡ done x → ⊥
not_err e x h = cc

pub clash : {E A : Type 0} (x : A) (e : E) → done x ≡ failed e → ⊥
clash x e h = cc

pub bind_ok : {E A B : Type 0} (r : Result A E) (f : A → Result B E) (y : B) → (r >>= f) ≡ Ok y
    → (x : A) × (r ≡ Ok x) × (f x ≡ Ok y)
bind_ok (Ok x) f y h = (x, refl, h)
bind_ok (Err d) f y h = absurd cc

pub bind_err : {E A B : Type 0} (r : Result A E) (f : A → Result B E) (e : E) → (r >>= f) ≡ Err e
    → (r ≡ Err e) ⊎ ((x : A) × (r ≡ Ok x) × (f x ≡ Err e))
bind_err (Ok x) f e h = inr (x, refl, h)
bind_err {B = B} (Err d) f e h = inl (ap failed (err_is {A = B} d e h))

-- only the first of two steps can fail
pub only_first : {E A B : Type 0} (r : Result A E) (f : A → B) (e : E) → (r >>= λ x. Ok (f x)) ≡ Err e → r ≡ Err e
only_first (Ok x) f e h = absurd (not_err e (f x) (sym h))
only_first {B = B} (Err d) f e h = ap failed (err_is {A = B} d e h)

-- ---- what a result is, it is in one way

pub either_way : {E A : Type 0} (r : Result A E) → ((x : A) × (r ≡ Ok x)) ⊎ ((e : E) × (r ≡ Err e))
either_way (Ok x) = inl (x, refl)
either_way (Err e) = inr (e, refl)

pub one_ok : {E A : Type 0} (r : Result A E) (x y : A) → r ≡ Ok x → r ≡ Ok y → x ≡ y
one_ok r x y h k = ok_is x y (sym h ∙ k)

pub one_err : {E A : Type 0} (r : Result A E) (d e : E) → r ≡ Err d → r ≡ Err e → d ≡ e
one_err {A = A} r d e h k = err_is {A = A} d e (sym h ∙ k)

pub not_both : {E A : Type 0} (r : Result A E) (x : A) (e : E) → r ≡ Ok x → r ≡ Err e → ⊥
not_both r x e h k = not_err e x (sym k ∙ h)
