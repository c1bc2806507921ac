-- The entry of an edit, which is written before the edit is made.
use Rattle.std.proofs.Common.{◌≡◌, ℕ, Bool, true, false, inl, refl, ap}
use Rattle.std.specs.Prelude.{not, if◌then◌else◌, Option, Some, None}
use Rattle.replica.specs.declared.fault.ReplicaFault.{ReplicaFault}
use Rattle.c_calls.specs.Answers.{allowed, GivesDueOrRunsOut, OnGiven, unless}

-- an edit that isn't refused has room in its view
pub has_room : (primary room : Bool) (f g : ReplicaFault) (rest : Option ReplicaFault)
    → (if not primary then Some f else (if not room then Some g else rest)) ≡ None → room ≡ true
has_room true true f g rest e = refl
has_room true false f g rest e = absurd (cc)
has_room false room f g rest e = absurd (cc)

-- nothing refused it, so it is done
pub made : {F X : Type 0} (number : F → ℕ) (due : Option F) (x : X) (D : X → Type 0) (S : Type 0) → due ≡ None → D x
    → GivesDueOrRunsOut (unless number due x) D S 0
made number None x D S e d = inl (refl, d)
made number (Some fault) x D S e d = absurd (cc)

-- a refusal that needs no memory
pub refused_early : {F : Type 0} (number : F → ℕ) (due : Option F) (fault : F) (C : Unit {0} → ℕ → Type 0) (S : Type 0)
    → due ≡ Some fault → S → OnGiven (allowed number due) C S (number fault)
refused_early number None fault C S e stays = absurd (cc)
refused_early number (Some f) fault C S e stays = let equal : fault ≡ f = cc in (ap number equal, stays)

-- no such refusal is due
pub goes_on : {F : Type 0} (number : F → ℕ) (due : Option F) (C : Unit {0} → ℕ → Type 0) (S : Type 0) (n : ℕ) → due ≡ None
    → C (tt {0}) n → OnGiven (allowed number due) C S n
goes_on number None C S n e done = done
goes_on number (Some fault) C S n e done = absurd (cc)
