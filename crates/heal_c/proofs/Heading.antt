-- The head that is written, by the result of reading it.
use Rattle.std.proofs.Common.{◌≡◌, refl, ap, ◌∙◌}
use Rattle.std.specs.Prelude.{Result, Ok, Err}
use Rattle.exchange_codec.specs.declared.fault.MessageFault.{MessageFault}
use Rattle.exchange_codec.specs.declared.head.MessageHead.{MessageHead}
use Rattle.exchange_codec.specs.Faults.{message_fault_number}
use Rattle.heal_c.specs.declared.head_exports.HealHead.{HealHead}
use Rattle.c_calls.specs.Answers.{GivesDue}
use Rattle.heal_c.specs.Heads.{head_code, head_in}

-- a head that was read is the one that is due
pub peeked_so : (due : Result MessageHead MessageFault) (found : MessageHead) (new : HealHead) (S : Type 0) → new ≡ head_code found
    → Ok found ≡ due → GivesDue (head_in due) (λ head. new ≡ head) S 0
peeked_so (Ok head) found new S written same = let equal : found ≡ head = cc in (refl, written ∙ ap head_code equal)
peeked_so (Err fault) found new S written wrong = absurd (cc)

-- a fault that was found is the one that is due
pub peeked_not : (due : Result MessageHead MessageFault) (fault : MessageFault) (D : HealHead → Type 0) (S : Type 0) → S
    → Err fault ≡ due → GivesDue (head_in due) D S (message_fault_number fault)
peeked_not (Ok head) fault D S stays wrong = absurd (cc)
peeked_not (Err due) fault D S stays same = let equal : fault ≡ due = cc in (ap message_fault_number equal, stays)
