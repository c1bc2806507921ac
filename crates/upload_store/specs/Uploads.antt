-- The results of uploads, and their effect on the store.
use Rattle.std.specs.Prelude.{◌≡◌, ◌≢◌, ℕ, ◌<◌, nat_lt, if◌then◌else◌, ◌⊎◌, Option, Some, None, List, length, Result, Err}
use Rattle.std.specs.Cmp.Lexicographic.{pointwise}
use Rattle.std.specs.FinMap as map
use Rattle.instruction_set.specs.contracts.insn.InsnPartialEq.TheImpl as insn_eq
use Rattle.refusals.specs.Answers.{RanOut}
use Rattle.instruction_set.specs.declared.insn.Insn.{Insn}
use Rattle.instruction_set.specs.Machine.{IsSafe}
use Rattle.insn_codec.specs.Encoding.{Spells}
use Rattle.verifier.specs.declared.refusal.Refusal.{Refusal}
use Rattle.verifier.specs.declared.refusal.VerifyFault.TheVariants.{Refused}
use Rattle.verifier.specs.Programs.{IsAccepted, IsProgramFault}
use Rattle.verifier.specs.declared.program_fault.ProgramFault.TheVariants.{Verify}
use Rattle.clash_record.specs.declared.registrations.ProgramId.{ProgramId}
use Rattle.upload_store.specs.declared.fault.UploadFault.{UploadFault}
use Rattle.upload_store.specs.declared.fault.UploadFault.TheVariants.{Program, DigestClash, StoreFull, OutOfMemory}
use Rattle.upload_store.specs.declared.store.Uploaded.{Uploaded}
use Rattle.upload_store.specs.Faults.{upload_fault_number}
use Rattle.upload_store.specs.Programs.{Programs, Upload, id_of, max_programs}

-- the bytes spell code that the verifier doesn't accept
pub record IsUnaccepted (bytes : List ℕ) : Type 0 where
  pub code : List Insn
  pub spelled : Spells bytes code
  pub unaccepted : IsAccepted bytes code → ⊥

-- the store has this code under the id already, or nothing and room for one more
abbrev pub HasPlace : Programs → ProgramId → List Insn → Type 0
HasPlace store id code = (map.get store id ≡ Some code) ⊎ ((map.get store id ≡ None) × (map.len store < max_programs))

-- the bytes are accepted, and the store has a place for them
pub record Fits (store : Programs) (bytes : List ℕ) : Type 0 where
  pub code : List Insn
  pub accepted : IsAccepted bytes code
  pub place : HasPlace store (id_of bytes) code

-- the bytes are accepted, and the store has other code under their id
pub record Clashes (store : Programs) (bytes : List ℕ) : Type 0 where
  pub code : List Insn
  pub accepted : IsAccepted bytes code
  pub other : List Insn
  pub held : map.get store (id_of bytes) ≡ Some other
  pub differs : other ≢ code

-- the bytes are accepted, their id is new, and the store is full
pub record Overflows (store : Programs) (bytes : List ℕ) : Type 0 where
  pub code : List Insn
  pub accepted : IsAccepted bytes code
  pub fresh : map.get store (id_of bytes) ≡ None
  pub full : map.len store ≡ max_programs

-- bytes can't be kept for this reason; running out of memory is no fault of the bytes
abbrev pub IsUploadFault : Programs → List ℕ → UploadFault → Type 0
IsUploadFault store bytes (Program fault) = IsProgramFault bytes fault
IsUploadFault store bytes DigestClash = Clashes store bytes
IsUploadFault store bytes StoreFull = Overflows store bytes
IsUploadFault store bytes OutOfMemory = ⊥

-- the bytes are kept: they spell accepted code, which is safe, the id is theirs, and the store then has the code under
-- the id and is otherwise unchanged
pub record IsKept (before : Programs) (bytes : List ℕ) (id : ProgramId) (after : Programs) : Type 0 where
  pub code : List Insn
  pub accepted : IsAccepted bytes code
  pub safe : IsSafe code
  pub named : id ≡ id_of bytes
  pub place : HasPlace before id code
  pub inserted : after ≡ map.insert before id code
  pub found : map.get after id ≡ Some code

-- ---- keeping an upload

-- of code, by what the store has under its id
abbrev pub keep_fault_by : ℕ → List Insn → Option (List Insn) → Option UploadFault
keep_fault_by len code (Some kept) = if pointwise insn_eq.ghosts.eq kept code then None else Some DigestClash
keep_fault_by len code None = if nat_lt len max_programs then None else Some StoreFull

-- the refusal that keeping an upload is due: other code has its id, or its id is new and the store is full
abbrev pub keep_fault : Programs → Upload → Option UploadFault
keep_fault store upload = keep_fault_by (map.len store) upload.code (map.get store upload.id)

-- ---- uploads with the number of instructions

-- the id and the number of instructions of code
abbrev pub uploaded_as : ProgramId → List Insn → Uploaded
uploaded_as id code = record { id = id; len = length code }

-- the bytes are kept, and the upload counts the instructions of their code
pub record IsUploaded (before : Programs) (bytes : List ℕ) (uploaded : Uploaded) (after : Programs) : Type 0 where
  pub kept : IsKept before bytes uploaded.id after
  pub counted : uploaded.len ≡ length kept.code

-- ---- rejections

-- the verifier rejects the bytes, or memory runs out
abbrev pub IsRejection : {A : Type 0} → Result A UploadFault → Type 0
IsRejection result =
    ((refusal : Refusal) × (result ≡ Err (Program (Verify (Refused refusal))))) ⊎ RanOut upload_fault_number result
