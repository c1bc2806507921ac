-- The entry of a text.
use Rattle.std.specs.Prelude.{◌≡◌, ℕ, ◌==◌, if◌then◌else◌, List}
use Rattle.std.specs.List.{flat_map}
use Rattle.refusals.specs.Answers.{out_of_memory}
use Rattle.insn_codec.specs.Encoding.{insn_bytes}
use Rattle.verifier.specs.declared.program_fault.ProgramFault.{ProgramFault}
use Rattle.verifier.specs.Programs.{IsProgramFault, program_fault_number}
use Rattle.upload_store.specs.Programs.{Upload, IsProgram}
use Rattle.exchange_codec.specs.declared.fault.ItemFault.TheVariants as item
use Rattle.exchange_codec.specs.declared.fault.MessageFault.TheVariants as message
use Rattle.replica.specs.declared.messages.Entry.{Entry}
use Rattle.replica_codec.specs.declared.fault.ReplicaMessageFault.{ReplicaMessageFault}
use Rattle.replica_codec.specs.declared.fault.ReplicaMessageFault.TheVariants.{Message}
use Rattle.replica_codec.specs.Entries.{EntryText, IsKeptEdit, entry_text}

-- the entry has this text
pub record IsEntryOf (text : EntryText) (entry : Entry) : Type 0 where
  pub told : text ≡ entry_text entry
  pub kept : IsKeptEdit entry.edit

-- the upload has this code, under its id
pub record IsUploadOf (code : List ℕ) (upload : Upload) : Type 0 where
  pub told : code ≡ flat_map insn_bytes upload.code
  pub kept : IsProgram upload.id upload.code

-- the fault of code that the verifier rejects, as the item at an index
abbrev pub code_fault : ℕ → ProgramFault → ReplicaMessageFault
code_fault at fault = Message (message.Item (item.Program fault) at)

abbrev pub IsUploadCodeFault : ℕ → List ℕ → ReplicaMessageFault → Type 0
IsUploadCodeFault at code fault = (program : ProgramFault) × (fault ≡ code_fault at program) × IsProgramFault code program

-- the same, or the fault of memory
abbrev pub program_fault_of : ℕ → ProgramFault → ReplicaMessageFault
program_fault_of at fault =
    if program_fault_number fault == out_of_memory then Message message.OutOfMemory else code_fault at fault
