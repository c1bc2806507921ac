-- The places of refused uploads.
use Rattle.std.proofs.Common.{◌≡◌, None, refl, arith}
use Rattle.insn_codec.specs.Faults.{slot_fault_number}
use Rattle.insn_codec.specs.declared.fault.SlotFault.{SlotFault}
use Rattle.insn_codec.specs.declared.fault.SlotFault.TheVariants.{UnknownOpcode, BadRegister, FieldNotZero, CutWide}
use Rattle.insn_codec.specs.declared.fault.CodecFault.TheVariants as codec
use Rattle.verifier.specs.Structure.{rule_number}
use Rattle.verifier.specs.declared.rule.Rule.{Rule}
use Rattle.verifier.specs.declared.rule.Rule.TheVariants as rule
use Rattle.verifier.specs.declared.refusal.VerifyFault.TheVariants as verify
use Rattle.verifier.specs.declared.program_fault.ProgramFault.TheVariants.{Codec, Verify}
use Rattle.upload_store.specs.Faults.{upload_fault_number, upload_fault_place}
use Rattle.upload_store.specs.declared.fault.UploadFault.{UploadFault}
use Rattle.upload_store.specs.declared.fault.UploadFault.TheVariants.{Program, DigestClash, StoreFull, OutOfMemory}

slot_below : (fault : SlotFault) → slot_fault_number fault ≡ 90 → ⊥
slot_below UnknownOpcode h = omega (arith, h)
slot_below BadRegister h = omega (arith, h)
slot_below FieldNotZero h = omega (arith, h)
slot_below CutWide h = omega (arith, h)

rule_below : (r : Rule) → rule_number r ≡ 90 → ⊥
rule_below rule.Backward h = omega (arith, h)
rule_below rule.Outside h = omega (arith, h)
rule_below rule.IntoWide h = omega (arith, h)
rule_below rule.FallsOff h = omega (arith, h)
rule_below rule.NoEdge h = omega (arith, h)
rule_below rule.Unreadable h = omega (arith, h)
rule_below rule.WritesR10 h = omega (arith, h)
rule_below rule.PointerOperation h = omega (arith, h)
rule_below rule.PointerRange h = omega (arith, h)
rule_below rule.PointerCompared h = omega (arith, h)
rule_below rule.PointerStored h = omega (arith, h)
rule_below rule.OutsideRecord h = omega (arith, h)
rule_below rule.WritesRecord h = omega (arith, h)
rule_below rule.OutsideStack h = omega (arith, h)
rule_below rule.UnwrittenStack h = omega (arith, h)
rule_below rule.ScalarAddress h = omega (arith, h)
rule_below rule.PointerResult h = omega (arith, h)

-- running out of memory has no place
pub no_place : (fault : UploadFault) → upload_fault_number fault ≡ 90 → upload_fault_place fault ≡ None
no_place (Program (Codec (codec.Length fault))) h = refl
no_place (Program (Codec (codec.Slot fault slot))) h = absurd (slot_below fault h)
no_place (Program (Codec codec.OutOfMemory)) h = refl
no_place (Program (Verify (verify.Refused refusal))) h = absurd (rule_below refusal.rule h)
no_place (Program (Verify verify.OutOfMemory)) h = refl
no_place DigestClash h = refl
no_place StoreFull h = refl
no_place OutOfMemory h = refl
