-- The edits of a primary: what is due to each, and what it leaves.
use Rattle.std.specs.Prelude.{◌≡◌, ◌⊎◌, ◌&&◌, ℕ, nat_lt, nat_le, false, List, Option, IsSomeAnd, Result, Ok}
use Rattle.partition_table.specs.declared.limit.NameLimit.{NameLimit}
use Rattle.partition_table.specs.Tables.{most_names}
use Rattle.replica.specs.Faults.{replica_fault_number}
use Rattle.replica.specs.declared.edit.Edit.{Edit}
use Rattle.replica.specs.declared.edit.Edit.TheVariants.{Register, Unregister, Limit}
use Rattle.replica_law.specs.Groups.{next}
use Rattle.replica.specs.declared.messages.Entry.{Entry}
use Rattle.replica.specs.Replicas.{Replica, Make, left_by, make_fault, early_make_fault}
use Rattle.replica_codec.specs.Entries.{SpellsEntry}
use Rattle.c_calls.specs.declared.codes.HealRegistration.{HealRegistration}
use Rattle.c_calls.specs.Answers.{allowed, and_then, GivesDueOrRunsOut, OnGiven}
use Rattle.c_calls.specs.Codes.{given_name, given_registration}

-- the entry of an edit that a replica makes
abbrev pub made_entry : Replica → Edit → Entry
made_entry replica edit = record { at = next replica.at; edit = edit }

-- the primary makes the edit, and the handle has the bytes of its entry; or both stay
abbrev pub MakesNow : Edit → Replica → Replica → Option (List ℕ) → Option (List ℕ) → ℕ → Type 0
MakesNow edit old new before after = GivesDueOrRunsOut (allowed replica_fault_number (make_fault old edit))
    (λ _. (new ≡ left_by old (Make edit)) × IsSomeAnd after (λ bytes. SpellsEntry bytes (made_entry old edit)))
    ((new ≡ old) × (after ≡ before))

-- the same; 95 and 99 come also when out of memory
abbrev pub Makes : Edit → Replica → Replica → Option (List ℕ) → Option (List ℕ) → ℕ → Type 0
Makes edit old new before after = OnGiven (allowed replica_fault_number (early_make_fault old))
    (λ _. MakesNow edit old new before after) ((new ≡ old) × (after ≡ before))

-- the edit that the arguments give is made, or their refusal is returned
abbrev pub MakesIf : Result Edit ℕ → Replica → Replica → Option (List ℕ) → Option (List ℕ) → ℕ → Type 0
MakesIf given old new before after =
    OnGiven given (λ edit. Makes edit old new before after) ((new ≡ old) × (after ≡ before))

-- 44 for an invalid name, then 76 for an unknown kind of resolver
abbrev pub register_edit : List ℕ → HealRegistration → Result Edit ℕ
register_edit bytes registration =
    and_then (given_name bytes) (λ name. and_then (given_registration registration) (λ r. Ok (Register name r)))

abbrev pub unregister_edit : List ℕ → Result Edit ℕ
unregister_edit bytes = and_then (given_name bytes) (λ name. Ok (Unregister name))

-- the limit of this number is set, or 92 is returned if there is none
abbrev pub MakesLimit : ℕ → Replica → Replica → Option (List ℕ) → Option (List ℕ) → ℕ → Type 0
MakesLimit names old new before after n =
    ((limit : NameLimit) × (limit.names ≡ names) × Makes (Limit limit) old new before after n)
    ⊎ (((nat_lt 0 names && nat_le names most_names) ≡ false) × (n ≡ 92) × (new ≡ old) × (after ≡ before))
