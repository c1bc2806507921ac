-- Assignments of abstract states to the instructions of code, and when they fulfil the rules.
use Rattle.std.specs.Prelude.{◌≡◌, ℕ, ◌+◌, ◌<◌, Option, Some, IsSome, List}
use Rattle.instruction_set.specs.Machine.{slots_of, insn_at, slot_count, record_len}
use Rattle.instruction_set.specs.declared.insn.Insn.{Insn}
use Rattle.abstract_value.specs.Domain.{Ops}
use Rattle.abstract_value.specs.States.{View, ViewBelow, first_view}
use Rattle.verifier.specs.declared.rule.Rule.{Rule}
use Rattle.verifier.specs.Structure.{leads_to, IsStructured}
use Rattle.verifier.specs.Rules.{PassesFor, FailsFirstFor, fall, jump}

-- a state for each instruction, by its first slot, or none
abbrev pub Assignment : Type 0 → Type 0
Assignment D = ℕ → Option (View D)

-- the slot has a state that is above this one
abbrev pub Carries : {D : Type 0} → Ops D → Assignment D → ℕ → View D → Type 0
Carries {D} o states slot s = (t : View D) × (states slot ≡ Some t) × ViewBelow o s t

-- the same of an edge, where there is one and a state goes along it
abbrev pub EdgeCarries : {D : Type 0} → Ops D → Assignment D → Option ℕ → Option (View D) → Type 0
EdgeCarries o states (Some slot) (Some s) = Carries o states slot s
EdgeCarries o states _ _ = Unit {0}

-- the instructions before a slot fulfil the rules, for records of len bytes
pub record FulfilsBeforeFor {D : Type 0} (len : ℕ) (o : Ops D) (code : List Insn) (end : ℕ)
    (states : Assignment D) : Type 0 where
  pub start : Carries o states 0 first_view
  pub inside : (slot : ℕ) (s : View D) → states slot ≡ Some s → IsSome (insn_at code slot)
  pub passes : (slot : ℕ) (i : Insn) (s : View D) → slot < end → insn_at code slot ≡ Some i → states slot ≡ Some s
      → PassesFor len o i s
  pub falls : (slot : ℕ) (i : Insn) (s : View D) → slot < end → insn_at code slot ≡ Some i → states slot ≡ Some s
      → EdgeCarries o states (Some (slot + slots_of i)) (fall o i s)
  pub jumps : (slot : ℕ) (i : Insn) (s : View D) → slot < end → insn_at code slot ≡ Some i → states slot ≡ Some s
      → EdgeCarries o states (leads_to slot i) (jump o i s)

-- some assignment fulfils the rules
abbrev pub IsTypableFor : {D : Type 0} → ℕ → Ops D → List Insn → Type 0
IsTypableFor {D} len o code = (states : Assignment D) × FulfilsBeforeFor len o code (slot_count code) states

-- the least assignment that fulfils the rules before a slot
pub record IsLeastFor {D : Type 0} (len : ℕ) (o : Ops D) (code : List Insn) (end : ℕ) (states : Assignment D)
    : Type 0 where
  pub fulfils : FulfilsBeforeFor len o code end states
  pub least : (others : Assignment D) → FulfilsBeforeFor len o code end others → (slot : ℕ) (s : View D)
      → states slot ≡ Some s → Carries o others slot s

-- the rules can be fulfilled before the slot, and in the least state there this rule is the first that fails
pub record FailsLeastFor {D : Type 0} (len : ℕ) (o : Ops D) (code : List Insn) (slot : ℕ) (rule : Rule) : Type 0 where
  pub structured : IsStructured code
  pub states : Assignment D
  pub least : IsLeastFor len o code slot states
  pub insn : Insn
  pub is_at : insn_at code slot ≡ Some insn
  pub state : View D
  pub is_state : states slot ≡ Some state
  pub fails : FailsFirstFor len o insn state rule

-- the same for the record of a clash
abbrev pub FulfilsBefore : {D : Type 0} → Ops D → List Insn → ℕ → Assignment D → Type 0
FulfilsBefore = FulfilsBeforeFor record_len

abbrev pub IsTypable : {D : Type 0} → Ops D → List Insn → Type 0
IsTypable = IsTypableFor record_len

abbrev pub IsLeast : {D : Type 0} → Ops D → List Insn → ℕ → Assignment D → Type 0
IsLeast = IsLeastFor record_len

abbrev pub FailsLeast : {D : Type 0} → Ops D → List Insn → ℕ → Rule → Type 0
FailsLeast = FailsLeastFor record_len
