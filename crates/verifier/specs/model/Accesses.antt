-- The rules of an access to memory, 21 to 25, without its instruction.
use Rattle.std.specs.Prelude.{◌≡◌, ℕ, ◌<◌, Bool, true, false, not, IsTrue, Option, Some, None}
use Rattle.instruction_set.specs.declared.insn.Insn.{Insn}
use Rattle.abstract_value.specs.States.{View}
use Rattle.abstract_value.specs.declared.states.RegState.{RegState}
use Rattle.verifier.specs.declared.memory_access.Access.{Access as CodeAccess}
use Rattle.verifier.specs.declared.rule.Rule.{Rule}
use Rattle.verifier.specs.declared.rule.Rule.TheVariants.{OutsideRecord, WritesRecord, OutsideStack, UnwrittenStack, ScalarAddress}
use Rattle.verifier.specs.Structure.{rule_number}
use Rattle.verifier.specs.Rules.{Access, of_access, is_scalar, inside_record, spares_record, inside_stack, finds_written}

-- an access of the code, as the rules define accesses
abbrev pub as_access : CodeAccess → Access
as_access a = record { base = a.base.number; offset = a.offset; size = a.size; is_store = a.is_store }

abbrev pub as_accesses : Option CodeAccess → Option Access
as_accesses None = None
as_accesses (Some a) = Some (as_access a)

-- whether an access through a register meets a rule, for records of len bytes
abbrev pub access_meets : {D : Type 0} → ℕ → (ℕ → Bool) → RegState D → Access → Rule → Bool
access_meets len written base r OutsideRecord = inside_record len base r
access_meets len written base r WritesRecord = spares_record base r
access_meets len written base r OutsideStack = inside_stack base r
access_meets len written base r UnwrittenStack = finds_written written base r
access_meets len written base r ScalarAddress = not (is_scalar base)
access_meets len written base r _ = true

-- it meets each rule
abbrev pub AccessPasses : {D : Type 0} → ℕ → (ℕ → Bool) → RegState D → Access → Type 0
AccessPasses len written base r = (rule : Rule) → IsTrue (access_meets len written base r rule)

-- a rule is the first that it fails
pub record AccessFails {D : Type 0} (len : ℕ) (written : ℕ → Bool) (base : RegState D) (r : Access) (rule : Rule)
    : Type 0 where
  pub fails : access_meets len written base r rule ≡ false
  pub first : (other : Rule) → rule_number other < rule_number rule → IsTrue (access_meets len written base r other)

-- the same for the access of an instruction in a state; an instruction without an access meets it
abbrev pub insn_access_meets : {D : Type 0} → ℕ → Insn → View D → Rule → Bool
insn_access_meets len i s rule = of_access i s (λ base r. access_meets len s.written base r rule)

abbrev pub InsnAccessPasses : {D : Type 0} → ℕ → Insn → View D → Type 0
InsnAccessPasses len i s = (rule : Rule) → IsTrue (insn_access_meets len i s rule)

pub record InsnAccessFails {D : Type 0} (len : ℕ) (i : Insn) (s : View D) (rule : Rule) : Type 0 where
  pub fails : insn_access_meets len i s rule ≡ false
  pub first : (other : Rule) → rule_number other < rule_number rule → IsTrue (insn_access_meets len i s other)
