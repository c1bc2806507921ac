-- The fault that is written, by the result of decoding.
use Rattle.std.proofs.Common.{◌≡◌, ◌⊎◌, List, ℕ, inl, inr, refl, ap, arith}
use Rattle.std.specs.Prelude.{Result, Ok, Err, IfOk, IfErr}
use Rattle.refusals.specs.Answers.{HasCause, ReturnsOrRunsOut, out_of_memory}
use Rattle.exchange_law.specs.Sides as sides
use Rattle.exchange_codec.specs.declared.fault.FieldFault.{FieldFault}
use Rattle.exchange_codec.specs.declared.fault.FieldFault.TheVariants as field
use Rattle.exchange_codec.specs.declared.fault.ItemFault.{ItemFault}
use Rattle.exchange_codec.specs.declared.fault.ItemFault.TheVariants as item
use Rattle.exchange_codec.specs.declared.fault.MessageFault.{MessageFault}
use Rattle.exchange_codec.specs.declared.fault.MessageFault.TheVariants as message
use Rattle.exchange_codec.specs.Faults.{field_fault_number, item_fault_number, message_fault_number}
use Rattle.exchange_codec.specs.Offers.{SpellsOffer, IsOfferFault}
use Rattle.heal_c.specs.Faults.{bare_fault, fault_code, fault_in, IsFound, IsOfferRead}

field_fits : (what : FieldFault) → field_fault_number what ≡ out_of_memory → ⊥
field_fits field.Cut e = omega arith
field_fits field.Header e = omega arith
field_fits field.Trailing e = omega arith
field_fits field.Count e = omega arith
field_fits field.Side e = omega arith
field_fits field.Name e = omega arith
field_fits field.Resolver e = omega arith
field_fits field.Version e = omega arith

item_fits : (fault : ItemFault) → item_fault_number fault ≡ out_of_memory → ⊥
item_fits item.NameAgain e = omega arith
item_fits item.NameOrder e = omega arith
item_fits item.NoProgram e = omega arith
item_fits item.ProgramAgain e = omega arith
item_fits (item.Program f) e = omega arith

-- running out of memory has no place
spent : (m : MessageFault) → message_fault_number m ≡ out_of_memory → fault_code m ≡ bare_fault out_of_memory
spent (message.Field what at) e = absurd (field_fits what e)
spent (message.Item fault at) e = absurd (item_fits fault e)
spent message.OutOfMemory e = refl

-- what is due is found, unless memory ran out
pub list_found : {A : Type 0} (r due : Result A MessageFault) → ReturnsOrRunsOut message_fault_number r due → IsFound (fault_in due) (fault_in r)
list_found r due (inl same) = inl (ap fault_in same)
list_found (Ok x) due (inr out) = absurd out
list_found (Err m) due (inr out) = inr (spent m out)

pub offer_found : (bytes : List ℕ) (r : Result sides.Offer MessageFault)
    → IfOk r (SpellsOffer bytes)
    → ((o : sides.Offer) → SpellsOffer bytes o → ReturnsOrRunsOut message_fault_number r (Ok o))
    → IfErr r (HasCause message_fault_number (IsOfferFault bytes))
    → ((fault : MessageFault) → IsOfferFault bytes fault → ReturnsOrRunsOut message_fault_number r (Err fault))
    → IsOfferRead bytes (fault_in r)
offer_found bytes (Ok o) spelled taken refused told = record {
  answer = inl (o, spelled, refl);
  taken = λ p spells. list_found (Ok o) (Ok p) (taken p spells);
  reported = λ m is. list_found (Ok o) (Err m) (told m is);
}
offer_found bytes (Err f) spelled taken refused told = record {
  answer = inr (by refused);
  taken = λ p spells. list_found (Err f) (Ok p) (taken p spells);
  reported = λ m is. list_found (Err f) (Err m) (told m is);
}
  where
    by : HasCause message_fault_number (IsOfferFault bytes) f
        → ((m : MessageFault) × IsOfferFault bytes m × (fault_code f ≡ fault_code m)) ⊎ (fault_code f ≡ bare_fault out_of_memory)
    by (inl cause) = inl (f, cause, refl)
    by (inr out) = inr (spent f out)
