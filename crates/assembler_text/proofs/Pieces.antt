-- The front of a text up to the first character that isn't of a class, and the rest.
use Rattle.std.proofs.Common.{◌≡◌, ℕ, suc, ◌+◌, Bool, true, false, cond, List, [], ◌∷◌, ◌++◌, take, drop, refl, sym, ap, ◌∙◌, arith, subst}
use Rattle.std.specs.List.{prefix_len}
use Rattle.std.proofs.lemmas.List.{take-append-drop}
use Rattle.assembler_text.specs.declared.lexer.Class.{Class}
use Rattle.assembler_text.specs.Words.{is_of_class, AreIn, StopsAt}
use Rattle.assembler_text.specs.model.Words.{front, rest}

-- a character of the class goes on with the front
len_in : (k : Class) (c : ℕ) (cs : List ℕ) → is_of_class k c ≡ true
    → prefix_len (is_of_class k) (c ∷ cs) ≡ suc (prefix_len (is_of_class k) cs)
len_in k c cs h = ap (λ b. cond b (1 + prefix_len (is_of_class k) cs) 0) h ∙ omega arith

len_out : (k : Class) (c : ℕ) (cs : List ℕ) → is_of_class k c ≡ false → prefix_len (is_of_class k) (c ∷ cs) ≡ 0
len_out k c cs h = ap (λ b. cond b (1 + prefix_len (is_of_class k) cs) 0) h

pub front_in : (k : Class) (c : ℕ) (cs : List ℕ) → is_of_class k c ≡ true → front k (c ∷ cs) ≡ c ∷ front k cs
front_in k c cs h = ap (λ n. take n (c ∷ cs)) (len_in k c cs h)

pub rest_in : (k : Class) (c : ℕ) (cs : List ℕ) → is_of_class k c ≡ true → rest k (c ∷ cs) ≡ rest k cs
rest_in k c cs h = ap (λ n. drop n (c ∷ cs)) (len_in k c cs h)

pub front_out : (k : Class) (c : ℕ) (cs : List ℕ) → is_of_class k c ≡ false → front k (c ∷ cs) ≡ []
front_out k c cs h = ap (λ n. take n (c ∷ cs)) (len_out k c cs h)

pub rest_out : (k : Class) (c : ℕ) (cs : List ℕ) → is_of_class k c ≡ false → rest k (c ∷ cs) ≡ c ∷ cs
rest_out k c cs h = ap (λ n. drop n (c ∷ cs)) (len_out k c cs h)

pub parts : (k : Class) (text : List ℕ) → text ≡ front k text ++ rest k text
parts k text = sym (take-append-drop (prefix_len (is_of_class k) text) text)

pub front_is : (k : Class) (a b : List ℕ) → AreIn k a → StopsAt k b → front k (a ++ b) ≡ a
front_is k [] [] h s = refl
front_is k [] (c ∷ cs) h s = front_out k c cs s
front_is k (c ∷ cs) b h s = front_in k c (cs ++ b) h.0 ∙ ap (λ (t : List ℕ). c ∷ t) (front_is k cs b h.1 s)

pub rest_is : (k : Class) (a b : List ℕ) → AreIn k a → StopsAt k b → rest k (a ++ b) ≡ b
rest_is k [] [] h s = refl
rest_is k [] (c ∷ cs) h s = rest_out k c cs s
rest_is k (c ∷ cs) b h s = rest_in k c (cs ++ b) h.0 ∙ rest_is k cs b h.1 s

pub by_test : {P : Type 0} (b : Bool) → (b ≡ true → P) → (b ≡ false → P) → P
by_test true p q = p refl
by_test false p q = q refl

pub front_among : (k : Class) (text : List ℕ) → AreIn k (front k text)
front_among k [] = tt
front_among k (c ∷ cs) = by_test (is_of_class k c)
    (λ h. subst (AreIn k) (sym (front_in k c cs h)) (h, front_among k cs))
    (λ h. subst (AreIn k) (sym (front_out k c cs h)) tt)

pub rest_stops : (k : Class) (text : List ℕ) → StopsAt k (rest k text)
rest_stops k [] = tt
rest_stops k (c ∷ cs) = by_test (is_of_class k c)
    (λ h. subst (StopsAt k) (sym (rest_in k c cs h)) (rest_stops k cs))
    (λ h. subst (StopsAt k) (sym (rest_out k c cs h)) h)
