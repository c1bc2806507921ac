-- What the tests of lives, views and positions mean.
use Rattle.std.proofs.Common.{◌≡◌, Bool, true, false, ◌&&◌, eqb-true, eq-eqb, ap}
use Rattle.std.proofs.lemmas.Bool.{and_parts}
use Rattle.replica_law.specs.Groups.{Life, View, Position, same_life, same_view, same_position}

pub same_life_is : (a b : Life) → same_life a b ≡ true → a ≡ b
same_life_is a b e =
    let parts = and_parts _ _ e in
    let nodes = eqb-true _ _ parts.0 in
    let counts = eqb-true _ _ parts.1 in
    λ i. record { node = nodes i; incarnation = counts i }

and_both : (p q : Bool) → p ≡ true → q ≡ true → (p && q) ≡ true
and_both true q e f = f
and_both false q e f = cc

pub same_life_passes : (a b : Life) → a ≡ b → same_life a b ≡ true
same_life_passes a b e =
    and_both _ _ (eq-eqb _ _ (ap (λ (l : Life). l.node) e)) (eq-eqb _ _ (ap (λ (l : Life). l.incarnation) e))

pub same_view_is : (v w : View) → same_view v w ≡ true → v ≡ w
same_view_is v w e =
    let parts = and_parts _ _ e in
    let lives = same_life_is _ _ parts.0 in
    let numbers = eqb-true _ _ parts.1 in
    λ i. record { primary = lives i; number = numbers i }

pub same_view_passes : (v w : View) → v ≡ w → same_view v w ≡ true
same_view_passes v w e = and_both _ _
    (same_life_passes _ _ (ap (λ (x : View). x.primary) e)) (eq-eqb _ _ (ap (λ (x : View). x.number) e))

pub same_position_is : (p q : Position) → same_position p q ≡ true → p ≡ q
same_position_is p q e =
    let parts = and_parts _ _ e in
    let views = same_view_is _ _ parts.0 in
    let ops = eqb-true _ _ parts.1 in
    λ i. record { view = views i; op = ops i }

pub same_position_passes : (p q : Position) → p ≡ q → same_position p q ≡ true
same_position_passes p q e = and_both _ _
    (same_view_passes _ _ (ap (λ (x : Position). x.view) e)) (eq-eqb _ _ (ap (λ (x : Position). x.op) e))
