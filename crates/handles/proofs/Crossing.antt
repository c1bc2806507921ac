-- A handle goes to another thread as its value does.
use base.Fraction.{full_share}
use base.Shift.{Keyless}
use mir.Raw.{raw}
use denote.Exit.{Exit, unchanged, leaves, hidden, under}
use denote.Memory.{lone}
use denote.RattleType.{RattleType}
use denote.RawPtr.{Ptr, block_ptr, null_ptr, lies_at}
use denote.Param.Send.{IsSend, Quiet, part_keyless}
use Rattle.std.specs.Prelude.{Option, Some, None}
use Rattle.std.specs.Global.{Global}
use Rattle.std.proofs.Crossing as heap
use Rattle.handles.specs.Handles.{handle_owns}

lies : (R : RattleType) → IsSend R → (p : Ptr) (x : R.Denot) → Keyless (lies_at R full_share p x)
lies R s (block_ptr b o) x = part_keyless R s full_share x b o
lies R s null_ptr x = tt

-- what a handle owns may go to another thread
pub owned : (R : RattleType) → IsSend R → (a : Global) (p : Ptr) (c : Option R.Denot) → Keyless (handle_owns a R p c)
owned R s a p None = tt
owned R s a p (Some x) = (lies R s p x, heap.frees.frees a (raw (lone R.mir)) p)

pub quiet : {D X : Type 0} (to : D → X) (e : Exit X) → Quiet e → Quiet (hidden (under to e))
quiet to unchanged q = λ x w. tt
quiet to (leaves L l S s r₀) q = λ d. q (to d)
