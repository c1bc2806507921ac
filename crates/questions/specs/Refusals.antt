-- The refusals of questions, and running out of memory.
use Rattle.std.specs.Prelude.{ℕ, ◌==◌, if◌then◌else◌, ◌≡◌, Option, None}
use Rattle.refusals.specs.Answers.{out_of_memory}
use Rattle.refusals.specs.declared.Place.{Place}
use Rattle.refusals.specs.declared.NumberedRefusal.{NumberedRefusal}
use Rattle.questions.specs.declared.failures.Failure.{Failure}
use Rattle.questions.specs.declared.failures.Failure.TheVariants.{Refused, OutOfMemory}
use Rattle.questions.specs.declared.failures.InputFault.{InputFault}
use Rattle.questions.specs.declared.failures.InputFault.TheVariants.{HexText, RecordLength, NotText, FileTooLong}

abbrev pub refusal : ℕ → Option Place → NumberedRefusal
refusal number place = record { number = number; place = place }

-- the failure of a fault with this number and place
abbrev pub failure_by : ℕ → Option Place → Failure
failure_by number place = if number == out_of_memory then OutOfMemory else Refused (refusal number place)

abbrev pub input_fault_number : InputFault → ℕ
input_fault_number HexText = 50
input_fault_number RecordLength = 55
input_fault_number NotText = 56
input_fault_number FileTooLong = 57

abbrev pub input_fault_place : InputFault → Option Place
input_fault_place fault = None

-- a refusal has this property; running out of memory has none
abbrev pub OnRefusal : (NumberedRefusal → Type 0) → Failure → Type 0
OnRefusal P (Refused r) = P r
OnRefusal P OutOfMemory = Unit {0}

-- the refusal of an input with this fault
abbrev pub IsInput : InputFault → NumberedRefusal → Type 0
IsInput fault r = r ≡ refusal (input_fault_number fault) None
