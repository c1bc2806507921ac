-- The knowledge of one pass about the rules of structure.
use Rattle.std.specs.Prelude.{◌≡◌, ℕ, ◌+◌, ◌<◌, ◌⊎◌, Option, Some, None, List, Bool, true, false, if◌then◌else◌, slice_index_or, slice_set}
use Rattle.instruction_set.specs.Machine.{slots_of, insn_at, slot_count}
use Rattle.instruction_set.specs.declared.insn.Insn.{Insn}
use Rattle.verifier.specs.declared.rule.Rule.{Rule}
use Rattle.verifier.specs.Structure.{rule_number, goes_on, LeadsTo, HasEdge, MeetsStructure}

-- the instruction at a slot meets the rules of structure with numbers below one
abbrev pub MeetsBelow : List Insn → ℕ → Insn → ℕ → Type 0
MeetsBelow code slot i end = (rule : Rule) → rule_number rule < end → MeetsStructure code slot i rule

-- a rule of structure is the first that it fails
pub record FailsStructure (code : List Insn) (slot : ℕ) (i : Insn) (rule : Rule) : Type 0 where
  pub fails : MeetsStructure code slot i rule → ⊥
  pub first : MeetsBelow code slot i (rule_number rule)

-- the slot of the next instruction, if it may follow
abbrev pub falls_to : ℕ → Insn → Option ℕ
falls_to slot i = if goes_on i then Some (slot + slots_of i) else None

-- an instruction before a slot leads there
pub record HasEdgeBefore (code : List Insn) (end to : ℕ) : Type 0 where
  pub slot : ℕ
  pub is_before : slot < end
  pub insn : Insn
  pub is_at : insn_at code slot ≡ Some insn
  pub leads : LeadsTo slot insn to

-- a slot marked as reached, if there is one
abbrev pub mark : List Bool → Option ℕ → List Bool
mark reached None = reached
mark reached (Some to) = slice_set reached to true

-- the instructions before a slot meet the rules of structure, and the slots marked are those to which they lead
pub record IsSeen (code : List Insn) (end : ℕ) (reached : List Bool) : Type 0 where
  pub meets : (slot : ℕ) (i : Insn) (rule : Rule) → slot < end → insn_at code slot ≡ Some i
      → MeetsStructure code slot i rule
  pub sound : (to : ℕ) → slice_index_or reached to false ≡ true → (to ≡ 0) ⊎ HasEdge code to
  pub complete : (to : ℕ) → to < slot_count code → (to ≡ 0) ⊎ HasEdgeBefore code end to
      → slice_index_or reached to false ≡ true
