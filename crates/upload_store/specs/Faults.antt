-- The numbers and the places of upload faults.
use Rattle.std.specs.Prelude.{ℕ, Option, None}
use Rattle.refusals.specs.Answers.{out_of_memory}
use Rattle.refusals.specs.declared.Place.{Place}
use Rattle.verifier.specs.Programs.{program_fault_number, program_fault_place}
use Rattle.upload_store.specs.declared.fault.UploadFault.{UploadFault}
use Rattle.upload_store.specs.declared.fault.UploadFault.TheVariants.{Program, DigestClash, StoreFull, OutOfMemory}

abbrev pub upload_fault_number : UploadFault → ℕ
upload_fault_number (Program fault) = program_fault_number fault
upload_fault_number DigestClash = 42
upload_fault_number StoreFull = 43
upload_fault_number OutOfMemory = out_of_memory

abbrev pub upload_fault_place : UploadFault → Option Place
upload_fault_place (Program fault) = program_fault_place fault
upload_fault_place _ = None
