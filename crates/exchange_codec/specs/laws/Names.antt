-- Names and sides that are read are spelled so, and what is spelled so is read.
use Rattle.std.proofs.Common.{◌≡◌, ℕ, zero, suc, ◌≤◌, Bool, true, false, cond, ltb, List, [], ◌∷◌, ◌++◌, length, take, drop, Result, Ok, Err, refl, sym, ap, subst, ◌∙◌, arith}
use Rattle.std.specs.Prelude.{IsTrue, not}
use Rattle.std.proofs.lemmas.Bool.{ltb-false, le-ltb}
use Rattle.std.proofs.lemmas.List.{take_at, drop_at, take-append-drop, length-append, length-take}
use Rattle.clash_record.specs.Name.{is_name}
use Rattle.clash_record.specs.Name.{Name}
use Rattle.clash_record.specs.declared.side_id.SideId.{SideId}
use Rattle.clash_record.specs.declared.side_id.SideId.TheVariants.{A, B}
use Rattle.exchange_codec.specs.declared.fault.Fault.{Fault}
use Rattle.exchange_codec.specs.declared.fault.FieldFault.TheVariants as wrongs
use Rattle.exchange_codec.specs.Names.{side_byte, name_bytes, side_id_at, name_at}
use Rattle.exchange_codec.specs.laws.Fields.{IsBytes, IsBytes-drop, IsBytes-rest, ok_is, Takes}

-- a test that did not fail, before another step
pub passed : {A : Type 0} (b : Bool) (d : Fault) (r : Result A Fault) (y : A) → cond b (Err d) r ≡ Ok y
    → (b ≡ false) × (r ≡ Ok y)
passed true d r y e = absurd cc
passed false d r y e = (refl, e)

not_false : (b : Bool) → not b ≡ false → b ≡ true
not_false true e = refl
not_false false e = absurd cc

not_true : (b : Bool) → b ≡ true → not b ≡ false
not_true true e = refl
not_true false e = absurd cc

pub side_takes : (bytes : List ℕ) (x : SideId × List ℕ) → IsBytes bytes → side_id_at bytes ≡ Ok x
    → Takes bytes (side_byte x.0 ∷ []) x.1
unfolding side_id_at
side_takes [] x fits e = absurd cc
side_takes (zero ∷ rest) x fits e =
    subst (λ (y : SideId × List ℕ). Takes (0 ∷ rest) (side_byte y.0 ∷ []) y.1) (ok_is (A, rest) x e)
    (record { parts = refl; rest_fits = IsBytes-rest 0 rest fits })
side_takes (suc zero ∷ rest) x fits e =
    subst (λ (y : SideId × List ℕ). Takes (1 ∷ rest) (side_byte y.0 ∷ []) y.1) (ok_is (B, rest) x e)
    (record { parts = refl; rest_fits = IsBytes-rest 1 rest fits })
side_takes (suc (suc n) ∷ rest) x fits e = absurd cc

pub side_again : (side : SideId) (rest : List ℕ) → side_id_at (side_byte side ∷ rest) ≡ Ok (side, rest)
unfolding side_id_at
side_again A rest = refl
side_again B rest = refl

pub name_takes : (bytes : List ℕ) (x : Name × List ℕ) → IsBytes bytes → name_at bytes ≡ Ok x
    → Takes bytes (name_bytes x.0) x.1 × IsTrue (is_name x.0)
unfolding name_at
name_takes [] x fits e = absurd cc
name_takes (len ∷ rest) x fits e =
    let a = passed (ltb (length rest) len) (record { what = wrongs.Cut; left = length (len ∷ rest) })
    (cond (not (is_name (take len rest))) (Err (record { what = wrongs.Name; left = length (len ∷ rest) })) (Ok (take len rest, drop len rest))) x e in
    let b = passed (not (is_name (take len rest))) (record { what = wrongs.Name; left = length (len ∷ rest) })
    (Ok (take len rest, drop len rest)) x a.1 in
    let long : len ≤ length rest = ltb-false _ _ a.0 in
    let same : length (take len rest) ≡ len = omega (arith, length-take len rest) in
    let parts : len ∷ rest ≡ name_bytes (take len rest) ++ drop len rest =
    ap (λ (r : List ℕ). len ∷ r) (sym (take-append-drop len rest))
    ∙ ap (λ (n : ℕ). n ∷ (take len rest ++ drop len rest)) (sym same) in
    subst (λ (y : Name × List ℕ). Takes (len ∷ rest) (name_bytes y.0) y.1 × IsTrue (is_name y.0))
    (ok_is (take len rest, drop len rest) x b.1)
    (record { parts = parts; rest_fits = IsBytes-drop len rest (IsBytes-rest len rest fits) }, not_false _ b.0)

pub name_again : (name : Name) (rest : List ℕ) → IsTrue (is_name name) → name_at (name_bytes name ++ rest) ≡ Ok (name, rest)
unfolding name_at
name_again name rest named =
    let long : ltb (length (name ++ rest)) (length name) ≡ false = le-ltb _ _ (omega (arith, length-append name rest)) in
    let fine : not (is_name name) ≡ false = not_true _ named in
    rw (long, take_at name rest (length name) refl, drop_at name rest (length name) refl, fine) refl
