-- The names of a list that is decoded.
use Rattle.std.proofs.Common.{◌≡◌, ℕ, ◌≤◌, [], length, Option, Some, None, Result, Ok, Err, refl, ap, ◌∙◌, arith, inl, inr}
use Rattle.std.proofs.lemmas.Bool.{le-ltb}
use Rattle.refusals.specs.Answers.{ReturnsOrRunsOut}
use Rattle.partition_table.specs.Tables.{most_names}
use Rattle.exchange_law.specs.Sides.{Withdrawals}
use Rattle.exchange_core.specs.Repeats.{list_fault_number, names_due}
use Rattle.exchange_core.specs.Repeats.{unless_again as unless}
use Rattle.exchange_core.specs.declared.withdrawn_names.ListFault.{ListFault}
use Rattle.exchange_core.specs.declared.withdrawn_names.ListFault.TheVariants as fault
use Rattle.exchange_codec.specs.declared.fault.MessageFault.{MessageFault}
use Rattle.exchange_codec.specs.declared.fault.MessageFault.TheVariants as message
use Rattle.exchange_codec.specs.declared.fault.ItemFault.TheVariants as item
use Rattle.exchange_codec.specs.Faults.{message_fault_number}
use Rattle.exchange_codec.specs.Withdrawals.{first_again, unless_name_again}

abbrev returned : Withdrawals → Result Withdrawals ListFault
returned v = Ok v

abbrev refused : ListFault → Result Withdrawals ListFault
refused f = Err f

few_due : (w : Withdrawals) → length w.names ≤ most_names → names_due w ≡ unless (first_again [] 0 w.names) w
few_due w few = rw (le-ltb _ _ few) refl

same_list : (o : Option ℕ) (w v : Withdrawals) → returned v ≡ unless o w → Ok v ≡ unless_name_again o w
same_list None w v e = let same : v ≡ w = cc in ap Ok same
same_list (Some k) w v e = absurd cc

same_again : (o : Option ℕ) (w : Withdrawals) (at : ℕ) → refused (fault.NameAgain at) ≡ unless o w
    → Err (message.Item item.NameAgain at) ≡ unless_name_again o w
same_again None w at e = absurd cc
same_again (Some k) w at e = let same : at ≡ k = cc in ap (λ (n : ℕ). Err (message.Item item.NameAgain n)) same

never_many : (o : Option ℕ) (w : Withdrawals) → refused fault.TooMany ≡ unless o w → ⊥
never_many None w e = cc
never_many (Some k) w e = cc

module _ (w : Withdrawals) (few : length w.names ≤ most_names) where
  pub is_listed : (v : Withdrawals) → ReturnsOrRunsOut list_fault_number (returned v) (names_due w)
      → ReturnsOrRunsOut {F = MessageFault} message_fault_number (Ok v) (unless_name_again (first_again [] 0 w.names) w)
  is_listed v (inl e) = inl (same_list (first_again [] 0 w.names) w v (e ∙ few_due w few))
  is_listed v (inr h) = absurd h

  pub is_again : (at : ℕ) → ReturnsOrRunsOut list_fault_number (refused (fault.NameAgain at)) (names_due w)
      → ReturnsOrRunsOut message_fault_number (Err (message.Item item.NameAgain at)) (unless_name_again (first_again [] 0 w.names) w)
  is_again at (inl e) = inl (same_again (first_again [] 0 w.names) w at (e ∙ few_due w few))
  is_again at (inr h) = absurd (omega (arith, h))

  pub is_few : ReturnsOrRunsOut list_fault_number (refused fault.TooMany) (names_due w) → ⊥
  is_few (inl e) = never_many (first_again [] 0 w.names) w (e ∙ few_due w few)
  is_few (inr h) = omega (arith, h)
