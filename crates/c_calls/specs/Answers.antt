-- The numbers that calls return, and what each number means for a handle.
use Rattle.std.specs.Prelude.{◌≡◌, ◌⊎◌, ℕ, ◌==◌, if◌then◌else◌, Option, Some, None, Result, Ok, Err}
use Rattle.refusals.specs.Answers.{out_of_memory}
use Rattle.refusals.specs.declared.place.Place.{Place}
use Rattle.refusals.specs.declared.place.Place.TheVariants.{Slot}

-- ---- numbers of results

-- 0, or the number of the refusal
abbrev pub returned_number : {A F : Type 0} → (F → ℕ) → Result A F → ℕ
returned_number number (Ok x) = 0
returned_number number (Err fault) = number fault

-- the slot of a place, or 0
abbrev pub slot_at : Option Place → ℕ
slot_at (Some (Slot slot)) = slot
slot_at place = 0

-- the slot of a refusal with this number and place, or 0; running out of memory has none
abbrev pub refusal_slot : ℕ → Option Place → ℕ
refusal_slot number place = if number == out_of_memory then 0 else slot_at place

abbrev pub returned_slot : {A F : Type 0} → (F → ℕ) → (F → Option Place) → Result A F → ℕ
returned_slot number place (Ok x) = 0
returned_slot number place (Err fault) = refusal_slot (number fault) (place fault)

-- the number and the slot are those of a fault with this number and this place
abbrev pub IsNumbered : ℕ → Option Place → ℕ → ℕ → Type 0
IsNumbered number place n slot = (n ≡ number) × (slot ≡ refusal_slot number place)

-- a call ran out of memory, which has no slot
abbrev pub IsOutOfMemory : ℕ → ℕ → Type 0
IsOutOfMemory n slot = (n ≡ out_of_memory) × (slot ≡ 0)

-- ---- what is due to a call: a value, or the number of a refusal

-- the value, unless a fault is due
abbrev pub unless : {F X : Type 0} → (F → ℕ) → Option F → X → Result X ℕ
unless number None x = Ok x
unless number (Some fault) x = Err (number fault)

-- nothing, or the refusal that is due
abbrev pub allowed : {F : Type 0} → (F → ℕ) → Option F → Result (Unit {0}) ℕ
allowed number fault = unless number fault (tt {0})

abbrev pub and_then : {X Y : Type 0} → Result X ℕ → (X → Result Y ℕ) → Result Y ℕ
and_then (Ok x) f = f x
and_then (Err n) f = Err n

-- ---- answers

-- what a handle holds after a call that fills it: what was made, or what it held before if the call is refused
abbrev pub held_after : {A M : Type 0} → (M → A) → Option A → Result M ℕ → Option A
held_after value before (Ok made) = Some (value made)
held_after value before (Err n) = before

-- A call that may run out of memory: it returns 0 and is done, or returns its refusal or 90 and everything stays
abbrev pub GivesDueOrRunsOut : {X : Type 0} → Result X ℕ → (X → Type 0) → Type 0 → ℕ → Type 0
GivesDueOrRunsOut (Ok x) done stays n = ((n ≡ 0) × done x) ⊎ ((n ≡ out_of_memory) × stays)
GivesDueOrRunsOut (Err m) done stays n = ((n ≡ m) ⊎ (n ≡ out_of_memory)) × stays

-- A call whose refusals come also when out of memory: it returns its refusal, and everything stays; or it returns 0 and is done, or returns 90
-- and everything stays
abbrev pub GivesDueFirst : {X : Type 0} → Result X ℕ → (X → Type 0) → Type 0 → ℕ → Type 0
GivesDueFirst (Ok x) done stays n = ((n ≡ 0) × done x) ⊎ ((n ≡ out_of_memory) × stays)
GivesDueFirst (Err m) done stays n = (n ≡ m) × stays

-- A call that allocates nothing: it returns 0 and is done, or returns its refusal and everything stays
abbrev pub GivesDue : {X : Type 0} → Result X ℕ → (X → Type 0) → Type 0 → ℕ → Type 0
GivesDue (Ok x) done stays n = (n ≡ 0) × done x
GivesDue (Err m) done stays n = (n ≡ m) × stays

-- A call that first looks for a refusal: it returns that, and everything stays; or it goes on with the value
abbrev pub OnGiven : {X : Type 0} → Result X ℕ → (X → ℕ → Type 0) → Type 0 → ℕ → Type 0
OnGiven (Ok x) call stays n = call x n
OnGiven (Err m) call stays n = (n ≡ m) × stays

-- A call on a handle: an empty one stays empty, the call returns 91, and its results stay
abbrev pub OnHandle : {A : Type 0} → Option A → Option A → (A → A → ℕ → Type 0) → Type 0 → ℕ → Type 0
OnHandle None new call stays n = (new ≡ None) × (n ≡ 91) × stays
OnHandle (Some old) None call stays n = ⊥
OnHandle (Some old) (Some new) call stays n = call old new n

-- A call that only reads a handle
abbrev pub ReadsHandle : {A : Type 0} → Option A → Option A → (A → ℕ → Type 0) → Type 0 → ℕ → Type 0
ReadsHandle None new call stays n = (new ≡ None) × (n ≡ 91) × stays
ReadsHandle (Some held) new call stays n = (new ≡ Some held) × call held n

-- ---- bytes that a call reads

-- the number is that of a fault of the bytes, or of running out of memory, and everything stays
abbrev pub Rejects : {F : Type 0} → (F → ℕ) → F → Type 0 → ℕ → Type 0
Rejects number fault stays n = ((n ≡ number fault) ⊎ (n ≡ out_of_memory)) × stays

-- A call that reads bytes: it takes the value that they spell, or returns their fault, or runs out of memory
pub record TakesBytes (V F : Type 0) (Spells : V → Type 0) (IsFault : F → Type 0) (number : F → ℕ) (takes : V → Type 0)
    (stays : Type 0) (n : ℕ) : Type 0 where
  pub answer : ((value : V) × Spells value × takes value)
      ⊎ ((fault : F) × IsFault fault × Rejects number fault stays n)
      ⊎ ((n ≡ out_of_memory) × stays)
  -- the value that the bytes spell is taken
  pub taken : (value : V) → Spells value → takes value
  -- a fault of the bytes is returned
  pub reported : (fault : F) → IsFault fault → Rejects number fault stays n
