-- The rules of structure, 10 to 14: jump targets, the last instruction and reachability.
use Rattle.std.specs.Prelude.{◌≡◌, ℕ, ◌+◌, ◌<◌, ◌⊎◌, ℤ, pos, negsuc, Option, Some, None, IfSome, IsSome, List, Bool, true, false}
use Rattle.instruction_set.specs.Machine.{slots_of, insn_at, slot_count}
use Rattle.instruction_set.specs.declared.insn.Insn.{Insn}
use Rattle.instruction_set.specs.declared.insn.Insn.TheVariants.{Jump, JumpLong, JumpIf, Exit}
use Rattle.verifier.specs.declared.rule.Rule.{Rule}
use Rattle.verifier.specs.declared.rule.Rule.TheVariants.{Backward, Outside, IntoWide, FallsOff, NoEdge, Unreadable, WritesR10, PointerOperation, PointerRange, PointerCompared, PointerStored, OutsideRecord, WritesRecord, OutsideStack, UnwrittenStack, ScalarAddress, PointerResult}

abbrev pub rule_number : Rule → ℕ
rule_number Backward = 10
rule_number Outside = 11
rule_number IntoWide = 12
rule_number FallsOff = 13
rule_number NoEdge = 14
rule_number Unreadable = 15
rule_number WritesR10 = 16
rule_number PointerOperation = 17
rule_number PointerRange = 18
rule_number PointerCompared = 19
rule_number PointerStored = 20
rule_number OutsideRecord = 21
rule_number WritesRecord = 22
rule_number OutsideStack = 23
rule_number UnwrittenStack = 24
rule_number ScalarAddress = 25
rule_number PointerResult = 26

-- a jump's distance, counted from the slot after it
abbrev pub distance_of : Insn → Option ℤ
distance_of (Jump distance) = Some distance
distance_of (JumpLong distance) = Some distance
distance_of (JumpIf width test dst src distance) = Some distance
distance_of _ = None

-- whether the next instruction may follow
abbrev pub goes_on : Insn → Bool
goes_on (Jump distance) = false
goes_on (JumpLong distance) = false
goes_on Exit = false
goes_on _ = true

abbrev pub forward_target : ℕ → Option ℤ → Option ℕ
forward_target slot None = None
forward_target slot (Some (pos n)) = Some (slot + 1 + n)
forward_target slot (Some (negsuc n)) = None

-- the target of the jump at a slot, unless it is backward
abbrev pub leads_to : ℕ → Insn → Option ℕ
leads_to slot i = forward_target slot (distance_of i)

abbrev pub IsForward : Option ℤ → Type 0
IsForward None = Unit {0}
IsForward (Some (pos n)) = Unit {0}
IsForward (Some (negsuc n)) = ⊥

-- an instruction at a slot leads to another slot: to the next instruction, or by a jump
abbrev pub LeadsTo : ℕ → Insn → ℕ → Type 0
LeadsTo slot i to = ((goes_on i ≡ true) × (slot + slots_of i ≡ to)) ⊎ (leads_to slot i ≡ Some to)

-- some instruction of the code leads there
pub record HasEdge (code : List Insn) (to : ℕ) : Type 0 where
  pub slot : ℕ
  pub insn : Insn
  pub is_at : insn_at code slot ≡ Some insn
  pub leads : LeadsTo slot insn to

-- the instruction at a slot of the code meets a rule of structure
abbrev pub MeetsStructure : List Insn → ℕ → Insn → Rule → Type 0
MeetsStructure code slot i Backward = IsForward (distance_of i)
MeetsStructure code slot i Outside = IfSome (leads_to slot i) (λ to. to < slot_count code)
MeetsStructure code slot i IntoWide = IfSome (leads_to slot i) (λ to. to < slot_count code → IsSome (insn_at code to))
MeetsStructure code slot i FallsOff = goes_on i ≡ true → slot + slots_of i < slot_count code
MeetsStructure code slot i NoEdge = (slot ≡ 0) ⊎ HasEdge code slot
MeetsStructure code slot i _ = Unit {0}

-- the rules of structure hold of each instruction
pub record IsStructured (code : List Insn) : Type 0 where
  pub meets : (slot : ℕ) (i : Insn) (rule : Rule) → insn_at code slot ≡ Some i → MeetsStructure code slot i rule

-- a rule of structure fails at a slot, none of a lesser number fails there, and none fails before it
pub record IsIllStructured (code : List Insn) (slot : ℕ) (rule : Rule) : Type 0 where
  pub insn : Insn
  pub is_at : insn_at code slot ≡ Some insn
  pub fails : MeetsStructure code slot insn rule → ⊥
  pub first : (other : Rule) → rule_number other < rule_number rule → MeetsStructure code slot insn other
  pub before : (earlier : ℕ) (i : Insn) (other : Rule) → earlier < slot → insn_at code earlier ≡ Some i
      → MeetsStructure code earlier i other
