-- Text that is sent piece by piece.
use Rattle.std.proofs.Common.{◌≡◌, ℕ, ◌+◌, ◌<◌, List, [], ◌∷◌, ◌++◌, length, get_or, Option, refl, sym, ap, ◌∙◌, subst, take, append_assoc}
use Rattle.std.specs.List.{flat_map}
use Rattle.std.specs.declared.result.Result.{Result}
use Rattle.std.proofs.lemmas.Grind.{take_at_read}
use Rattle.device.specs.Sending.{Sends, SendsOn}

pub append_nil : {X : Type 0} (xs : List X) → xs ++ [] ≡ xs
append_nil [] = refl
append_nil (x ∷ xs) = ap (λ l. x ∷ l) (append_nil xs)

pub nothing_sent : {X F : Type 0} (sent : Result X F) (old : Option (List ℕ)) → SendsOn sent old old [] sent
nothing_sent sent old start before h =
    subst (λ (l : List ℕ). Sends start old l sent) (sym (append_nil before)) h

pub then_sent : {X F : Type 0} (first second third : Result X F) (old middle new : Option (List ℕ)) (a b : List ℕ) →
    SendsOn first old middle a second → SendsOn second middle new b third → SendsOn first old new (a ++ b) third
then_sent first second third old middle new a b h k start before sends =
    subst (λ (l : List ℕ). Sends start new l third) (append_assoc before a b)
    (k start (before ++ a) (h start before sends))

flat_map-append : {X : Type 0} (f : X → List ℕ) (xs ys : List X)
    → flat_map f (xs ++ ys) ≡ flat_map f xs ++ flat_map f ys
flat_map-append f [] ys = refl
flat_map-append f (x ∷ xs) ys =
    ap (λ (l : List ℕ). f x ++ l) (flat_map-append f xs ys) ∙ sym (append_assoc (f x) (flat_map f xs) (flat_map f ys))

-- the pieces so far, and one more
pub one_more : {X : Type 0} (f : X → List ℕ) (xs : List X) (i : ℕ) (x : X) → i < length xs → x ≡ get_or xs i x →
    flat_map f (take i xs) ++ f x ≡ flat_map f (take (i + 1) xs)
one_more f xs i x below is =
    ap (λ (l : List ℕ). flat_map f (take i xs) ++ l) (sym (append_nil (f x)))
    ∙ sym (flat_map-append f (take i xs) (x ∷ []))
    ∙ ap (λ y. flat_map f (take i xs ++ y ∷ [])) is
    ∙ ap (flat_map f) (sym (take_at_read xs i x below).1)
