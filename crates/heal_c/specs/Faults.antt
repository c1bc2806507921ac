-- Faults of messages in full: the number, the place, and for a program its own refusal.
use Rattle.std.specs.Prelude.{◌≡◌, ◌⊎◌, ℕ, List, length, Result, Ok, Err}
use Rattle.refusals.specs.Answers.{out_of_memory}
use Rattle.verifier.specs.Programs.{program_fault_number, program_fault_place}
use Rattle.exchange_law.specs.Sides as sides
use Rattle.exchange_codec.specs.declared.fault.ItemFault.{ItemFault}
use Rattle.exchange_codec.specs.declared.fault.ItemFault.TheVariants as item
use Rattle.exchange_codec.specs.declared.fault.MessageFault.{MessageFault}
use Rattle.exchange_codec.specs.declared.fault.MessageFault.TheVariants as message
use Rattle.exchange_codec.specs.Faults.{field_fault_number, item_fault_number}
use Rattle.exchange_codec.specs.Offers.{SpellsOffer, IsOfferFault}
use Rattle.exchange_codec.specs.Withdrawals.{list_due}
use Rattle.exchange_codec.specs.Withdrawals as lists
use Rattle.heal_c.specs.declared.fault_exports.HealFault.{HealFault}
use Rattle.c_calls.specs.Answers.{refusal_slot}

-- a refusal without a place; 0 is none
abbrev pub bare_fault : ℕ → HealFault
bare_fault n = record { number = n; place = 0; at = 0; reason = 0; slot = 0; reserved = 0 }

-- a byte is 1, and a row or a name 2; code that the verifier rejects has its own refusal too
abbrev pub item_code : ItemFault → ℕ → HealFault
item_code (item.Program f) at = record {
  number = 81;
  place = 2;
  at = at;
  reason = program_fault_number f;
  slot = refusal_slot (program_fault_number f) (program_fault_place f);
  reserved = 0;
}
item_code fault at = record { number = item_fault_number fault; place = 2; at = at; reason = 0; slot = 0; reserved = 0 }

abbrev pub fault_code : MessageFault → HealFault
fault_code (message.Field what at) = record { number = field_fault_number what; place = 1; at = at; reason = 0; slot = 0; reserved = 0 }
fault_code (message.Item fault at) = item_code fault at
fault_code message.OutOfMemory = bare_fault out_of_memory

-- the message is whole, or this fault is the first
abbrev pub fault_in : {A : Type 0} → Result A MessageFault → HealFault
fault_in (Ok message) = bare_fault 0
fault_in (Err fault) = fault_code fault

-- this is found, unless memory runs out
abbrev pub IsFound : HealFault → HealFault → Type 0
IsFound due fault = (fault ≡ due) ⊎ (fault ≡ bare_fault out_of_memory)

-- what reading bytes as an offer finds
pub record IsOfferRead (bytes : List ℕ) (fault : HealFault) : Type 0 where
  -- the bytes spell an offer, or the fault is theirs, or memory ran out
  pub answer : ((offer : sides.Offer) × SpellsOffer bytes offer × (fault ≡ bare_fault 0))
      ⊎ ((m : MessageFault) × IsOfferFault bytes m × (fault ≡ fault_code m)) ⊎ (fault ≡ bare_fault out_of_memory)
  pub taken : (offer : sides.Offer) → SpellsOffer bytes offer → IsFound (bare_fault 0) fault
  pub reported : (m : MessageFault) → IsOfferFault bytes m → IsFound (fault_code m) fault

-- what reading bytes as a list finds
abbrev pub IsListRead : List ℕ → HealFault → Type 0
IsListRead bytes fault = IsFound (fault_in (list_due (length bytes) (lists.whole_list bytes))) fault
