-- Handles with another value in them.
use Rattle.std.specs.Prelude.{ℕ, List, Some}
use Rattle.upload_store.specs.Programs.{Upload}
use Rattle.c_calls.specs.Halves.{SideAndStore}
use Rattle.c_calls.specs.declared.outcome.Outcome.{Outcome}
use Rattle.heal_c.specs.declared.program_handle.HealProgram.{HealProgram}
use Rattle.heal_c.specs.declared.side_handle.HealSide.{HealSide}
use Rattle.heal_c.specs.declared.message_handle.HealBytes.{HealBytes}
use Rattle.heal_c.specs.declared.outcome_handle.HealOutcome.{HealOutcome}
use Rattle.heal_c.specs.declared.replica_handle.HealReplica.{HealReplica}
use Rattle.heal_c.specs.declared.sandbox_handle.HealSandbox.{HealSandbox}
use Rattle.verifier.specs.Stores.{CodeFor}
use Rattle.replica.specs.Replicas.{Replica}

abbrev pub holding_half : HealSide → SideAndStore → HealSide
holding_half handle half = record handle { half = Some half }

abbrev pub holding_program : HealProgram → Upload → HealProgram
holding_program handle program = record handle { program = Some program }

abbrev pub holding_message : HealBytes → List ℕ → HealBytes
holding_message handle message = record handle { message = Some message }

abbrev pub holding_outcome : HealOutcome → Outcome → HealOutcome
holding_outcome handle outcome = record handle { outcome = Some outcome }

abbrev pub holding_sandbox : HealSandbox → CodeFor → HealSandbox
holding_sandbox handle program = record handle { sandbox = Some program }

abbrev pub holding_replica : HealReplica → Replica → HealReplica
holding_replica handle replica = record handle { replica = Some replica }
