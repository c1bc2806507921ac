-- Equality of the values of handles.
use Rattle.std.specs.Prelude.{Option}
use Rattle.std.specs.Coded.{Coded, coded_option}
use Rattle.upload_store.specs.Programs.{Upload}
use Rattle.upload_store.specs.contracts.accepted.Upload as program
use Rattle.c_calls.specs.Halves.{SideAndStore}
use Rattle.c_calls.specs.contracts.half.Half as half
use Rattle.c_calls.specs.declared.outcome.Outcome.{Outcome}
use Rattle.c_calls.specs.contracts.outcome.Outcome as outcome
use Rattle.verifier.specs.Stores.{CodeFor}
use Rattle.bpf.specs.contracts.sandbox.Sandbox as sandbox
use Rattle.replica.specs.Replicas.{Replica}
use Rattle.replica.specs.contracts.replica.Replica as replica

abbrev pub coded_held_program : Coded (Option Upload)
coded_held_program = coded_option (program.the_row).coded

abbrev pub coded_held_half : Coded (Option SideAndStore)
coded_held_half = coded_option (half.the_row).coded

abbrev pub coded_held_outcome : Coded (Option Outcome)
coded_held_outcome = coded_option (outcome.the_row).coded

abbrev pub coded_held_sandbox : Coded (Option CodeFor)
coded_held_sandbox = coded_option (sandbox.the_row).coded

abbrev pub coded_held_replica : Coded (Option Replica)
coded_held_replica = coded_option (replica.the_row).coded
