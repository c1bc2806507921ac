-- Two processes that use the library, each with its half.
use Rattle.std.specs.Prelude.{◌≡◌, ℕ, List, [], ◌∷◌, Option, Some, slice_get}
use Rattle.clash_record.specs.declared.side_id.SideId.{SideId}
use Rattle.clash_record.specs.declared.side_id.SideId.TheVariants.{A, B}
use Rattle.exchange_core.specs.Finished.{Finished, finished_from}
use Rattle.exchange_core.specs.Shown.{shown}
use Rattle.c_calls.specs.declared.codes.HealRegistration.{HealRegistration}
use Rattle.c_calls.specs.Halves.{SideAndStore}
use Rattle.c_calls.specs.declared.outcome.Outcome.{Outcome}
use Rattle.c_calls.specs.Exchanges.{BeginsExchange, Hears, Settles, Withdraws, Closes, HearsList, Finishes, Abandons}
use Rattle.c_calls.specs.Kept.{Forgets}
use Rattle.c_calls.specs.Sides.{IsNewHalf, IsUpload, Registers, Unregisters, Renews, GivesUp, Stays}

-- the halves; the bytes of all offers and lists that calls returned; and all outcomes. The latest stand first
pub record Processes : Type 0 where
  pub a : SideAndStore
  pub b : SideAndStore
  pub offers : List (List ℕ)
  pub lists : List (List ℕ)
  pub outcomes : List Finished

abbrev pub process_half : Processes → SideId → SideAndStore
process_half p A = p.a
process_half p B = p.b

abbrev pub with_half : Processes → SideId → SideAndStore → Processes
with_half p A half = record p { a = half }
with_half p B half = record p { b = half }

abbrev pub WasReturned : List (List ℕ) → List ℕ → Type 0
WasReturned all bytes = (which : ℕ) × (slice_get all which ≡ Some bytes)

-- one process made a call, as the contract of the call describes it: one that returned 0, or a refused one, which leaves
-- the state, the journal and the programs of the half. A message that a half hears is one that a call returned, at any
-- time and any number of times
pub data IsCall (p : Processes) (id : SideId) (after : Processes) : Type 0 where
  uploads : (new : SideAndStore) (code id' id'' : List ℕ) (slot : ℕ) →
      IsUpload code (process_half p id) new id' id'' 0 slot → after ≡ with_half p id new → IsCall p id after
  forgets : (new : SideAndStore) (program : List ℕ) → Forgets program (process_half p id) new 0 →
      after ≡ with_half p id new → IsCall p id after
  registers : (new : SideAndStore) (name : List ℕ) (registration : HealRegistration) →
      Registers name registration (process_half p id) new 0 → after ≡ with_half p id new → IsCall p id after
  unregisters : (new : SideAndStore) (name : List ℕ) → Unregisters name (process_half p id) new 0 →
      after ≡ with_half p id new → IsCall p id after
  begins : (new : SideAndStore) (number seed uptime : ℕ) (before : Option (List ℕ)) (bytes : List ℕ) →
      BeginsExchange number seed uptime (process_half p id) new before (Some bytes) 0 →
      after ≡ record (with_half p id new) { offers = bytes ∷ p.offers } → IsCall p id after
  hears : (new : SideAndStore) (bytes : List ℕ) → WasReturned p.offers bytes → Hears bytes (process_half p id) new 0 →
      after ≡ with_half p id new → IsCall p id after
  settles : (new : SideAndStore) → Settles (process_half p id) new 0 → after ≡ with_half p id new → IsCall p id after
  withdraws : (new : SideAndStore) (name : List ℕ) → Withdraws name (process_half p id) new 0 →
      after ≡ with_half p id new → IsCall p id after
  closes : (new : SideAndStore) (before : Option (List ℕ)) (bytes : List ℕ) →
      Closes (process_half p id) new before (Some bytes) 0 → after ≡ record (with_half p id new) { lists = bytes ∷ p.lists } → IsCall p id after
  hears_list : (new : SideAndStore) (bytes : List ℕ) → WasReturned p.lists bytes →
      HearsList bytes (process_half p id) new 0 → after ≡ with_half p id new → IsCall p id after
  finishes : (new : SideAndStore) (before : Option Outcome) (outcome : Outcome) (f : Finished) →
      Finishes (process_half p id) new before (Some outcome) 0 →
      finished_from (shown (process_half p id).side) ≡ Some f → after ≡ record (with_half p id new) { outcomes = f ∷ p.outcomes } → IsCall p id after
  abandons : (new : SideAndStore) → Abandons (process_half p id) new 0 → after ≡ with_half p id new → IsCall p id after
  renews : (new : SideAndStore) → Renews (process_half p id) new 0 → after ≡ with_half p id new → IsCall p id after
  gives_up : (new : SideAndStore) → GivesUp (process_half p id) new 0 → after ≡ with_half p id new → IsCall p id after
  refused : (new : SideAndStore) → Stays (process_half p id) new → after ≡ with_half p id new → IsCall p id after

-- two new halves, one of each side
pub record AreNew (p : Processes) : Type 0 where
  pub limit_a : ℕ
  pub limit_b : ℕ
  pub a : IsNewHalf limit_a A p.a
  pub b : IsNewHalf limit_b B p.b
  pub offers : p.offers ≡ []
  pub lists : p.lists ≡ []
  pub outcomes : p.outcomes ≡ []

-- what the processes were after each call, the latest first
abbrev pub IsHistory : List Processes → Type 0
IsHistory [] = ⊥
IsHistory (p ∷ []) = AreNew p
IsHistory (p ∷ q ∷ earlier) = ((id : SideId) × IsCall q id p) × IsHistory (q ∷ earlier)

abbrev pub HasOutcome : Processes → Finished → Type 0
HasOutcome p f = (which : ℕ) × (slice_get p.outcomes which ≡ Some f)
