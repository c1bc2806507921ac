-- The calls of a half on its table and its programs: what is due to each, and what it leaves.
use Rattle.std.specs.Prelude.{◌≡◌, ◌≤◌, ◌+◌, ◌⊎◌, ◌&&◌, ℕ, nat_lt, nat_le, ◌==◌, if◌then◌else◌, List, [], length, Result, Ok, Err}
use Rattle.std.specs.Option.{option_map, ok_or}
use Rattle.std.specs.FinMap as map
use Rattle.refusals.specs.Answers.{out_of_memory}
use Rattle.clash_record.specs.Name.{Name}
use Rattle.clash_record.specs.declared.side_id.SideId.{SideId}
use Rattle.clash_record.specs.declared.side_id.SideId.TheVariants.{A, B}
use Rattle.clash_record.specs.declared.registrations.ProgramId.{ProgramId}
use Rattle.clash_record.specs.declared.registrations.Registration.{Registration}
use Rattle.upload_store.specs.declared.fault.UploadFault.{UploadFault}
use Rattle.upload_store.specs.Faults.{upload_fault_number, upload_fault_place}
use Rattle.upload_store.specs.Uploads.{Fits, IsKept, IsUploadFault}
use Rattle.partition_table.specs.Tables.{most_names, row_for}
use Rattle.exchange_law.specs.Calls.{Call, Register, Unregister}
use Rattle.exchange_core.specs.Faults.{side_fault_number}
use Rattle.exchange_core.specs.Refusals.{register_fault, unregister_fault, renew_fault}
use Rattle.exchange_core.specs.Shown.{shown, calls, limit_of, is_full, IsDone, IsUntouched}
use Rattle.exchange_law.specs.Sides.{new_side, rested, shown_table}
use Rattle.c_calls.specs.Halves.{SideAndStore}
use Rattle.c_calls.specs.declared.codes.HealRegistration.{HealRegistration}
use Rattle.c_calls.specs.declared.codes.HealRow.{HealRow}
use Rattle.c_calls.specs.Answers.{allowed, unless, and_then, IsNumbered, IsOutOfMemory, GivesDueFirst, GivesDue}
use Rattle.c_calls.specs.Codes.{given_name, given_entry, registration_code}
use Rattle.c_calls.specs.Rows.{row_in, row_in_after}

-- 0 is side A, and 1 is side B; or 74
abbrev pub side_id : ℕ → Result SideId ℕ
side_id id = if id == 0 then Ok A else (if id == 1 then Ok B else Err 74)

-- 1 to 1,048,576 names; or 92
abbrev pub limit_in : ℕ → Result ℕ ℕ
limit_in names = if nat_lt 0 names && nat_le names most_names then Ok names else Err 92

-- a side and a limit
abbrev pub side_within : ℕ → ℕ → Result (SideId × ℕ) ℕ
side_within id names = and_then (side_id id) (λ id. and_then (limit_in names) (λ limit. Ok (id, limit)))

-- an idle half of this limit without names and programs
pub record IsNewHalf (limit : ℕ) (id : SideId) (half : SideAndStore) : Type 0 where
  pub state : shown half.side ≡ new_side id
  pub journal : calls half.side ≡ []
  pub limit_is : limit_of half.side ≡ limit
  pub store : half.store ≡ map.empty

-- the programs stay, and neither the side's state nor its journal changed
pub record Stays (old new : SideAndStore) : Type 0 where
  pub side : IsUntouched old.side new.side
  pub store : new.store ≡ old.store

-- the side carried the call out, and the programs stay
pub record CarriesOut (call : Call) (old new : SideAndStore) : Type 0 where
  pub done : IsDone old.side call new.side
  pub store : new.store ≡ old.store

-- ---- registering

-- a valid name and its registration, or the refusal that is due
abbrev pub registering_entry : Name × Registration → SideAndStore → Result (Name × Registration) ℕ
registering_entry e half = unless side_fault_number
    (register_fault (limit_of half.side) (is_full half.side) (shown half.side) e.0 e.1 half.store) e

-- the name and its registration, or the refusal that is due
abbrev pub registering : List ℕ → HealRegistration → SideAndStore → Result (Name × Registration) ℕ
registering bytes r half = and_then (given_entry bytes r) (λ e. registering_entry e half)

abbrev pub RegistersEntry : Name × Registration → SideAndStore → SideAndStore → ℕ → Type 0
RegistersEntry e old new = GivesDueFirst (registering_entry e old)
    (λ e. CarriesOut (Register e.0 (row_for old.store e.1)) old new) (Stays old new)

abbrev pub Registers : List ℕ → HealRegistration → SideAndStore → SideAndStore → ℕ → Type 0
Registers bytes r old new = GivesDueFirst (registering bytes r old)
    (λ e. CarriesOut (Register e.0 (row_for old.store e.1)) old new) (Stays old new)

abbrev pub unregistering_name : Name → SideAndStore → Result Name ℕ
unregistering_name name half =
    unless side_fault_number (unregister_fault (is_full half.side) (shown half.side) name) name

abbrev pub unregistering : List ℕ → SideAndStore → Result Name ℕ
unregistering bytes half = and_then (given_name bytes) (λ name. unregistering_name name half)

abbrev pub UnregistersName : Name → SideAndStore → SideAndStore → ℕ → Type 0
UnregistersName name old new = GivesDue (unregistering_name name old)
    (λ name. CarriesOut (Unregister name) old new) (Stays old new)

abbrev pub Unregisters : List ℕ → SideAndStore → SideAndStore → ℕ → Type 0
Unregisters bytes old new = GivesDue (unregistering bytes old)
    (λ name. CarriesOut (Unregister name) old new) (Stays old new)

-- ---- looking up

-- the registration that the side shows, or 44 or 31
abbrev pub found_at : List ℕ → SideAndStore → Result HealRegistration ℕ
found_at bytes half = and_then (given_name bytes) (λ name. ok_or
    (option_map (λ row. registration_code row.registration) (map.get (shown_table (shown half.side)) name)) 31)

-- row i of the table, or 92
abbrev pub row_code_at : ℕ → SideAndStore → Result HealRow ℕ
row_code_at i half = row_in i (shown half.side).table

-- the first row of the table above this name, or the refusal that is due
abbrev pub row_after : List ℕ → SideAndStore → Result HealRow ℕ
row_after bytes half = row_in_after bytes (shown half.side).table

-- ---- renewing

-- the side is the same with a short journal, and the programs stay
pub record IsRenewedHalf (old new : SideAndStore) : Type 0 where
  pub same : shown new.side ≡ shown old.side
  pub same_limit : limit_of new.side ≡ limit_of old.side
  pub short : length (calls new.side) ≤ map.len (shown old.side).table + 2
  pub store : new.store ≡ old.store

abbrev pub Renews : SideAndStore → SideAndStore → ℕ → Type 0
Renews old new = GivesDue (allowed side_fault_number (renew_fault (shown old.side)))
    (λ _. IsRenewedHalf old new) (Stays old new)

-- ---- giving an exchange up

-- the side is idle without the names that it withdrew, its journal is short, and the programs stay
pub record GaveUp (old new : SideAndStore) : Type 0 where
  pub state : shown new.side ≡ rested (shown old.side)
  pub same_limit : limit_of new.side ≡ limit_of old.side
  pub short : length (calls new.side) ≤ map.len (shown new.side).table + 2
  pub store : new.store ≡ old.store

abbrev pub GivesUp : SideAndStore → SideAndStore → ℕ → Type 0
GivesUp old new n = (n ≡ 0) × GaveUp old new

-- ---- uploading

-- the program is kept under the id of its bytes, the side stays, and nothing is refused
pub record KeepsProgram (bytes : List ℕ) (old new : SideAndStore) (id : List ℕ) (n slot : ℕ) : Type 0 where
  pub kept : IsKept old.store bytes (record { 0 = id }) new.store
  pub side : new.side ≡ old.side
  pub no_refusal : n ≡ 0
  pub no_slot : slot ≡ 0

-- the id of a kept program, or this one
abbrev pub id_in : Result ProgramId UploadFault → List ℕ → List ℕ
id_in (Ok kept) id = kept.0
id_in (Err fault) id = id

-- everything stays, also the id
abbrev pub AllStays : SideAndStore → SideAndStore → List ℕ → List ℕ → Type 0
AllStays old new id id' = (new ≡ old) × (id' ≡ id)

-- what an upload returns and leaves
pub record IsUpload (bytes : List ℕ) (old new : SideAndStore) (id id' : List ℕ) (n slot : ℕ) : Type 0 where
  pub answer : KeepsProgram bytes old new id' n slot
      ⊎ ((((fault : UploadFault) × IsUploadFault old.store bytes fault
      × IsNumbered (upload_fault_number fault) (upload_fault_place fault) n slot)
      ⊎ IsOutOfMemory n slot) × AllStays old new id id')
  -- accepted code that has a place is kept, unless memory runs out
  pub taken : Fits old.store bytes →
      KeepsProgram bytes old new id' n slot ⊎ (IsOutOfMemory n slot × AllStays old new id id')
  -- a cause of a refusal is returned, unless memory runs out
  pub reported : (fault : UploadFault) → IsUploadFault old.store bytes fault →
      (IsNumbered (upload_fault_number fault) (upload_fault_place fault) n slot ⊎ IsOutOfMemory n slot)
      × AllStays old new id id'
