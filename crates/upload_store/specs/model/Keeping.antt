-- The entries of a store, each of which holds its code in some way.
use Rattle.std.specs.Prelude.{◌≡◌, ◌≢◌, Some, None, List, length}
use Rattle.std.specs.FinMap as map
use Rattle.instruction_set.specs.declared.insn.Insn.{Insn}
use Rattle.clash_record.specs.declared.registrations.ProgramId.{ProgramId}
use Rattle.upload_store.specs.Programs.{Programs, programs_by, IsStore, max_programs}
use Rattle.upload_store.specs.declared.fault.UploadFault.{UploadFault}
use Rattle.upload_store.specs.declared.fault.UploadFault.TheVariants.{Program, DigestClash, StoreFull, OutOfMemory}

-- entries that are a store, no two of them under one id
pub record AreKept {X : Type 0} (code_of : X → List Insn) (entries : List (ProgramId × X)) : Type 0 where
  pub store : IsStore (programs_by code_of entries)
  pub distinct : map.len (programs_by code_of entries) ≡ length entries

-- code with this id can't be kept
abbrev pub IsKeepingFault : Programs → ProgramId → List Insn → UploadFault → Type 0
IsKeepingFault store id code (Program fault) = ⊥
IsKeepingFault store id code DigestClash = (other : List Insn) × (map.get store id ≡ Some other) × (other ≢ code)
IsKeepingFault store id code StoreFull = (map.get store id ≡ None) × (map.len store ≡ max_programs)
IsKeepingFault store id code OutOfMemory = ⊥
