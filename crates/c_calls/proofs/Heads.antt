-- Messages that are judged by their heads.
use Rattle.std.proofs.Common.{◌≡◌, ℕ, ap, ◌∙◌}
use Rattle.std.specs.Prelude.{Option, Some, None, Result, Ok, Err}
use Rattle.exchange_codec.specs.declared.fault.MessageFault.{MessageFault}
use Rattle.exchange_codec.specs.declared.head.MessageHead.{MessageHead}
use Rattle.exchange_codec.specs.Faults.{message_fault_number}
use Rattle.c_calls.specs.Halves.{SideAndStore}
use Rattle.c_calls.specs.Exchanges.{UnlessRefused, refusal_of}
use Rattle.c_calls.specs.Sides.{Stays}

-- a head that was read is the one that is due, and so is a fault
pub read : (half : SideAndStore) (due : Result MessageHead MessageFault) (head : MessageHead) (r : Option ℕ)
    → r ≡ refusal_of half (Ok head) → Ok head ≡ due → r ≡ refusal_of half due
read half due head r is same = is ∙ ap (refusal_of half) same

pub unread : (half : SideAndStore) (due : Result MessageHead MessageFault) (fault : MessageFault) → Err fault ≡ due
    → Some (message_fault_number fault) ≡ refusal_of half due
unread half due fault same = ap (refusal_of half) same

pub refused : (due : Option ℕ) (number : ℕ) (old new : SideAndStore) (X : Type 0) → Some number ≡ due → Stays old new
    → UnlessRefused due old new number X
refused (Some m) number old new X same stays = let equal : number ≡ m = cc in (equal, stays)
refused None number old new X same stays = absurd (cc)

pub passed : (due : Option ℕ) (old new : SideAndStore) (n : ℕ) (X : Type 0) → None ≡ due → X → UnlessRefused due old new n X
passed None old new n X same x = x
passed (Some m) old new n X same x = absurd (cc)
