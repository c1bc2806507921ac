-- The outcome of a word: a value with a fact, or a fault; a number out of range differs from any other fault.
use Rattle.std.proofs.Common.{◌≡◌, refl, subst, Bool, true, false, cond, Result, Ok, Err}
use Rattle.assembler_text.specs.declared.faults.Fault.{Fault}
use Rattle.assembler_text.specs.declared.faults.Fault.TheVariants as fault
use Rattle.refusals.specs.Answers.{◌>>=◌}

-- an invalid operand: a number out of range, where stated, or any other
pub data Kind (Q : Type 0) : Fault → Type 0 where
  other : Kind Q fault.Operand
  range : Q → Kind Q fault.NumberRange

kind_map : {Q R : Type 0} {f : Fault} → (Q → R) → Kind Q f → Kind R f
kind_map g other = other
kind_map g (range q) = range (g q)

-- of a value holds P, and of a fault Q
abbrev pub Outcome : {E A : Type 0} → (A → Type 0) → (E → Type 0) → Result A E → Type 0
Outcome P Q (Ok x) = P x
Outcome P Q (Err e) = Q e

pub of_ok : {E A : Type 0} (P : A → Type 0) (Q : E → Type 0) (r : Result A E) (x : A) → Outcome P Q r → r ≡ Ok x → P x
of_ok P Q r x h e = subst (Outcome P Q) e h

pub of_err : {E A : Type 0} (P : A → Type 0) (Q : E → Type 0) (r : Result A E) (f : E) → Outcome P Q r → r ≡ Err f → Q f
of_err P Q r f h e = subst (Outcome P Q) e h

-- ---- words

-- of a value that is read holds P, and of what is out of range Q
abbrev pub Gives : {A : Type 0} → (A → Type 0) → Type 0 → Result A Fault → Type 0
Gives P Q (Ok x) = P x
Gives P Q (Err f) = Kind Q f

pub gives_map : {A : Type 0} {P S : A → Type 0} {Q R : Type 0} (r : Result A Fault) → Gives P Q r
    → ((x : A) → P x → S x) → (Q → R) → Gives S R r
gives_map (Ok x) h f g = f x h
gives_map (Err e) h f g = kind_map g h

pub gives_then : {A B : Type 0} {P : A → Type 0} {Q R : Type 0} (S : B → Type 0) (r : Result A Fault) (next : A
    → Result B Fault)
    → Gives P Q r → ((x : A) → P x → Gives S R (next x)) → (Q → R) → Gives S R (r >>= next)
gives_then S (Ok x) next h f g = f x h
gives_then S (Err e) next h f g = kind_map g h

pub gives_if : {A : Type 0} (P : A → Type 0) (Q : Type 0) (b : Bool) (r s : Result A Fault)
    → (b ≡ true → Gives P Q r) → (b ≡ false → Gives P Q s) → Gives P Q (cond b r s)
gives_if P Q true r s h k = h refl
gives_if P Q false r s h k = k refl

pub given : {A : Type 0} (P : A → Type 0) (Q : Type 0) (r : Result A Fault) (x : A) → Gives P Q r → r ≡ Ok x → P x
given P Q r x h e = subst (Gives P Q) e h

pub refused : {A : Type 0} (P : A → Type 0) (Q : Type 0) (r : Result A Fault) (f : Fault) → Gives P Q r → r ≡ Err f
    → Kind Q f
refused P Q r f h e = subst (Gives P Q) e h
