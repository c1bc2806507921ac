-- The side of a replica.
use Rattle.std.proofs.Common.{◌≡◌, Bool, true, false, inl, refl, subst}
use Rattle.std.specs.Prelude.{ℕ, if◌then◌else◌, Some, None, Result, Ok, Err}
use Rattle.clash_record.specs.declared.side_id.SideId.{SideId}
use Rattle.replica.specs.declared.fault.ReplicaFault.{ReplicaFault}
use Rattle.c_calls.specs.Answers.{GivesDueFirst, and_then}

-- a side that was made is the one that is due
pub got : (due : Result SideId ℕ) (fits : Bool) (side : SideId) (fault : ReplicaFault) (D : SideId → Type 0) (S : Type 0)
    → Ok side ≡ due → (if fits then None else Some fault) ≡ None → D side
    → GivesDueFirst (and_then due (λ s. if fits then Ok s else Err 32)) D S 0
got (Ok s) true side fault D S e is d = let same : side ≡ s = cc in inl (refl, subst D same d)
got (Ok s) false side fault D S e is d = absurd (cc)
got (Err m) fits side fault D S e is d = absurd (cc)
