-- The calls of a half in an exchange: what is due to each, and what it leaves.
use Rattle.std.specs.Prelude.{◌≡◌, ◌⊎◌, ℕ, Bool, true, false, List, length, Option, Some, None, IsSomeAnd, Result, Ok, Err}
use Rattle.std.specs.Option.{option_map}
use Rattle.refusals.specs.Answers.{out_of_memory}
use Rattle.clash_record.specs.Name.{Name}
use Rattle.exchange_law.specs.Sides as sides
use Rattle.exchange_law.specs.Calls.{Begin, Hear, Withdraw, Close_list, Hear_list, Finish, Abandon}
use Rattle.exchange_core.specs.Faults.{side_fault_number}
use Rattle.exchange_core.specs.Finished.{Finished, finished_from}
use Rattle.exchange_core.specs.Refusals as due
use Rattle.exchange_core.specs.Settling.{IsSettled, the_round}
use Rattle.exchange_core.specs.Shown.{shown, calls, limit_of, is_full, IsDone, IsUntouched}
use Rattle.exchange_core.specs.declared.side.Side.{Side}
use Rattle.exchange_law.specs.Worlds.{offer_of, list_of}
use Rattle.exchange_codec.specs.declared.fault.MessageFault.{MessageFault}
use Rattle.exchange_codec.specs.declared.head.MessageHead.{MessageHead}
use Rattle.exchange_codec.specs.Faults.{message_fault_number}
use Rattle.exchange_codec.specs.Peeking.{peeked}
use Rattle.exchange_codec.specs.Reading as reading
use Rattle.exchange_codec.specs.Offers.{SpellsOffer, IsOfferFault}
use Rattle.exchange_codec.specs.Withdrawals.{SpellsWithdrawals, list_due}
use Rattle.exchange_codec.specs.Withdrawals as lists
use Rattle.c_calls.specs.Halves.{SideAndStore}
use Rattle.c_calls.specs.declared.outcome.Outcome.{Outcome}
use Rattle.c_calls.specs.Answers.{allowed, unless, and_then, GivesDueOrRunsOut, GivesDueFirst, GivesDue, Rejects, TakesBytes}
use Rattle.c_calls.specs.Codes.{given_name}
use Rattle.c_calls.specs.Outcomes.{IsOutcome}
use Rattle.c_calls.specs.Sides.{Stays, CarriesOut}

-- ---- begin, and the list

abbrev pub BeginsExchange : ℕ → ℕ → ℕ → SideAndStore → SideAndStore → Option (List ℕ) → Option (List ℕ) → ℕ → Type 0
BeginsExchange number seed uptime old new offer offer' = GivesDueFirst
    (allowed side_fault_number (due.begin_fault (is_full old.side) (shown old.side) number))
    (λ _. CarriesOut (Begin number seed uptime) old new
    × IsSomeAnd offer' (λ bytes. SpellsOffer bytes (offer_of (shown old.side) number seed uptime)))
    (Stays old new × (offer' ≡ offer))

abbrev pub Closes : SideAndStore → SideAndStore → Option (List ℕ) → Option (List ℕ) → ℕ → Type 0
Closes old new list list' = GivesDueFirst
    (allowed side_fault_number (due.close_list_fault (is_full old.side) (shown old.side)))
    (λ _. CarriesOut Close_list old new × IsSomeAnd list' (λ bytes. SpellsWithdrawals bytes (list_of (shown old.side))))
    (Stays old new × (list' ≡ list))

-- ---- what the other side sent

-- a message with this refusal is refused; for one without a refusal this holds
abbrev pub UnlessRefused : Option ℕ → SideAndStore → SideAndStore → ℕ → Type 0 → Type 0
UnlessRefused (Some m) old new n heard = (n ≡ m) × Stays old new
UnlessRefused None old new n heard = heard

-- of the head of a message: its own fault, or the refusal of every message of its sender and number: 34, 40, 45 or 46
abbrev pub refusal_of : SideAndStore → Result MessageHead MessageFault → Option ℕ
refusal_of half (Err fault) = Some (message_fault_number fault)
refusal_of half (Ok head) =
    option_map side_fault_number (due.message_fault (is_full half.side) (shown half.side) head.side head.number)

abbrev pub head_refusal : SideAndStore → List ℕ → Option ℕ
head_refusal half bytes = refusal_of half (reading.due (length bytes) (peeked bytes))

-- another message of its number was heard, which is refused with 83 unless memory runs out
abbrev pub UnlessOther : Bool → SideAndStore → SideAndStore → ℕ → Type 0 → Type 0
UnlessOther true old new n heard = ((n ≡ 83) ⊎ (n ≡ out_of_memory)) × Stays old new
UnlessOther false old new n heard = heard

-- the side's answer to an offer
abbrev pub HearsFirst : sides.Offer → SideAndStore → SideAndStore → ℕ → Type 0
HearsFirst offer old new = GivesDueOrRunsOut
    (allowed side_fault_number (due.hear_fault (limit_of old.side) (is_full old.side) (shown old.side) offer))
    (λ _. CarriesOut (Hear offer) old new) (Stays old new)

abbrev pub HearsOffer : sides.Offer → SideAndStore → SideAndStore → ℕ → Type 0
HearsOffer offer old new n =
    UnlessOther (sides.heard_other_offer (shown old.side) offer) old new n (HearsFirst offer old new n)

-- what hearing bytes whose head isn't refused returns and leaves
abbrev pub HearsWhole : List ℕ → SideAndStore → SideAndStore → ℕ → Type 0
HearsWhole bytes old new n = TakesBytes sides.Offer MessageFault (SpellsOffer bytes) (IsOfferFault bytes)
    message_fault_number (λ offer. HearsOffer offer old new n) (Stays old new) n

-- what hearing bytes returns and leaves: their head is judged before the rest is read
abbrev pub Hears : List ℕ → SideAndStore → SideAndStore → ℕ → Type 0
Hears bytes old new n = UnlessRefused (head_refusal old bytes) old new n (HearsWhole bytes old new n)

-- the side's answer to a list
abbrev pub HearsFirstNames : sides.Withdrawals → SideAndStore → SideAndStore → ℕ → Type 0
HearsFirstNames sent old new = GivesDueOrRunsOut
    (allowed side_fault_number (due.hear_list_fault (is_full old.side) (shown old.side) sent))
    (λ _. CarriesOut (Hear_list sent) old new) (Stays old new)

abbrev pub HearsNames : sides.Withdrawals → SideAndStore → SideAndStore → ℕ → Type 0
HearsNames sent old new n =
    UnlessOther (sides.heard_other_list (shown old.side) sent) old new n (HearsFirstNames sent old new n)

-- the side's answer to bytes of which this is due: a list, or a fault
abbrev pub HearsDue : Result sides.Withdrawals MessageFault → SideAndStore → SideAndStore → ℕ → Type 0
HearsDue (Ok sent) old new n = HearsNames sent old new n
HearsDue (Err fault) old new n = Rejects message_fault_number fault (Stays old new) n

pub record HearsWholeList (bytes : List ℕ) (old new : SideAndStore) (n : ℕ) : Type 0 where
  -- the list that the bytes spell is heard
  pub taken : (sent : sides.Withdrawals) → SpellsWithdrawals bytes sent → HearsNames sent old new n
  -- the list or the fault of the bytes
  pub exact : HearsDue (list_due (length bytes) (lists.whole_list bytes)) old new n

abbrev pub HearsList : List ℕ → SideAndStore → SideAndStore → ℕ → Type 0
HearsList bytes old new n = UnlessRefused (head_refusal old bytes) old new n (HearsWholeList bytes old new n)

-- ---- the other calls

abbrev pub Settles : SideAndStore → SideAndStore → ℕ → Type 0
Settles old new = GivesDue
    (allowed side_fault_number (due.settle_fault (limit_of old.side) (length (calls old.side)) (shown old.side)))
    (λ _. IsSettled old.side the_round new.side × (new.store ≡ old.store)) (Stays old new)

abbrev pub withdrawing : List ℕ → SideAndStore → Result Name ℕ
withdrawing bytes half = and_then (given_name bytes) (λ name. unless side_fault_number
    (due.withdraw_fault (is_full half.side) (shown half.side) name) name)

abbrev pub Withdraws : List ℕ → SideAndStore → SideAndStore → ℕ → Type 0
Withdraws bytes old new =
    GivesDueFirst (withdrawing bytes old) (λ name. CarriesOut (Withdraw name) old new) (Stays old new)

-- what a finish leaves in the handle of the outcome
abbrev pub IsFinishedFrom : sides.Side → Outcome → Type 0
IsFinishedFrom side outcome = (f : Finished) × (finished_from side ≡ Some f) × IsOutcome f outcome

-- what a finish of a side returns and leaves
abbrev pub FinishesSide : Side → Side → Option Outcome → Option Outcome → ℕ → Type 0
FinishesSide old new outcome outcome' = GivesDueFirst
    (allowed side_fault_number (due.finish_fault (is_full old) (shown old)))
    (λ _. IsDone old Finish new × IsSomeAnd outcome' (IsFinishedFrom (shown old)))
    (IsUntouched old new × (outcome' ≡ outcome))

abbrev pub Finishes : SideAndStore → SideAndStore → Option Outcome → Option Outcome → ℕ → Type 0
Finishes old new outcome outcome' = GivesDueFirst
    (allowed side_fault_number (due.finish_fault (is_full old.side) (shown old.side)))
    (λ _. CarriesOut Finish old new × IsSomeAnd outcome' (IsFinishedFrom (shown old.side)))
    (Stays old new × (outcome' ≡ outcome))

abbrev pub Abandons : SideAndStore → SideAndStore → ℕ → Type 0
Abandons old new = GivesDue (allowed side_fault_number (due.abandon_fault (is_full old.side) (shown old.side)))
    (λ _. CarriesOut Abandon old new) (Stays old new)
