-- Messages that are encoded before a call, and messages that are decoded.
use Rattle.std.proofs.Common.{◌≡◌, List, ℕ, length, inl, inr, ◌∙◌}
use Rattle.std.specs.Prelude.{Result, Ok, Err, IfOk, IsOkAnd}
use Rattle.refusals.specs.Answers.{ReturnsOrRunsOut, out_of_memory}
use Rattle.exchange_law.specs.Sides as sides
use Rattle.exchange_law.specs.Lists.{IsNameList}
use Rattle.exchange_codec.specs.declared.fault.MessageFault.{MessageFault}
use Rattle.exchange_codec.specs.Faults.{message_fault_number}
use Rattle.exchange_codec.specs.Offers.{SpellsOffer}
use Rattle.exchange_codec.specs.Withdrawals.{SpellsWithdrawals, list_due}
use Rattle.exchange_codec.specs.Withdrawals as lists
use Rattle.c_calls.specs.Halves.{SideAndStore}
use Rattle.c_calls.specs.Sides.{Stays}
use Rattle.c_calls.specs.Exchanges.{HearsOffer, HearsNames, HearsDue, HearsWholeList}
use Rattle.c_calls.specs.laws.Reading.{boxed_spelled, spent_answer}
use Rattle.c_calls.proofs.Repeating.{spent_other}

-- the message on the heap is the one that was encoded
pub offer_spelled : {V E : Type 0} (items : V → List ℕ) (spelled : Result V E) (message : List ℕ) (offer : sides.Offer)
    → IsOkAnd spelled (λ bytes. message ≡ items bytes) → IfOk spelled (λ bytes. SpellsOffer (items bytes) offer) → SpellsOffer message offer
offer_spelled items spelled message offer = boxed_spelled items (λ bytes. SpellsOffer bytes offer) spelled message

pub list_spelled : {V E : Type 0} (items : V → List ℕ) (spelled : Result V E) (message : List ℕ) (list : sides.Withdrawals)
    → IsOkAnd spelled (λ bytes. message ≡ items bytes) → IfOk spelled (λ bytes. IsNameList list.names → SpellsWithdrawals (items bytes) list)
    → IsNameList list.names → SpellsWithdrawals message list
list_spelled items (Ok v) message list e spells named = rw e (spells named)
list_spelled items (Err f) message list e spells named = absurd e

-- bytes that are no offer, or for which memory runs out
pub unheard : (offer : sides.Offer) (old new : SideAndStore) (n : ℕ) → Stays old new → n ≡ out_of_memory → HearsOffer offer old new n
unheard offer old new n stays e = spent_other _ _ _ _ _ e stays (spent_answer _ _ _ _ e stays)

-- bytes that are no list, or for which memory runs out
pub list_refused : (bytes : List ℕ) (old new : SideAndStore) (n : ℕ) (r : Result sides.Withdrawals MessageFault) (fault : MessageFault) → r ≡ Err fault
    → ((w : sides.Withdrawals) → SpellsWithdrawals bytes w → ReturnsOrRunsOut message_fault_number r (Ok w))
    → ReturnsOrRunsOut message_fault_number r (list_due (length bytes) (lists.whole_list bytes))
    → n ≡ message_fault_number fault → Stays old new → HearsWholeList bytes old new n
list_refused bytes old new n (Ok w) fault e taken exact is stays = absurd (cc)
list_refused bytes old new n (Err f) fault e taken exact is stays = record {
  taken = λ w spells. unheard w (taken w spells);
  exact = due (list_due (length bytes) (lists.whole_list bytes)) exact;
}
  where
    number_is : n ≡ message_fault_number f
    number_is = cc

    unheard : (w : sides.Withdrawals) → ReturnsOrRunsOut message_fault_number (Err f) (Ok w) → HearsNames w old new n
    unheard w (inl wrong) = absurd (cc)
    unheard w (inr out) = spent_other _ _ _ _ _ (number_is ∙ out) stays (spent_answer _ _ _ _ (number_is ∙ out) stays)

    due : (d : Result sides.Withdrawals MessageFault) → ReturnsOrRunsOut message_fault_number (Err f) d → HearsDue d old new n
    due (Ok w) r = unheard w r
    due (Err m) (inl same) = let equal : n ≡ message_fault_number m = cc in (inl equal, stays)
    due (Err m) (inr out) = (inr (number_is ∙ out), stays)
