-- Views, snapshots and entries: what is due to each call, and what it leaves.
use Rattle.std.specs.Prelude.{◌≡◌, ◌⊎◌, ℕ, List, Option, IsSomeAnd}
use Rattle.refusals.specs.Answers.{out_of_memory}
use Rattle.replica_law.specs.Groups.{Snapshot}
use Rattle.replica.specs.declared.messages.Entry.{Entry}
use Rattle.replica.specs.Messages.{entry_seen}
use Rattle.replica.specs.Halves.{HalfState}
use Rattle.replica.specs.Faults.{replica_fault_number}
use Rattle.replica.specs.Replicas.{Replica, Lead, Follow, Apply, left_by, lead_fault, follow_fault, apply_fault, snapshot_of}
use Rattle.replica_codec.specs.Entries.{SpellsEntry, IsEntryFault}
use Rattle.replica_codec.specs.Snapshots.{SpellsSnapshot, IsSnapshotFault}
use Rattle.replica_codec.specs.Faults.{replica_message_fault_number}
use Rattle.replica_codec.specs.declared.fault.ReplicaMessageFault.{ReplicaMessageFault}
use Rattle.c_calls.specs.Answers.{allowed, GivesDue, GivesDueOrRunsOut, TakesBytes}

abbrev pub Leads : Replica → Replica → ℕ → Type 0
Leads old new = GivesDue (allowed replica_fault_number (lead_fault old)) (λ _. new ≡ left_by old Lead) (new ≡ old)

-- the handle has the bytes of a snapshot, or memory ran out
abbrev pub Shows : Replica → Option (List ℕ) → Option (List ℕ) → ℕ → Type 0
Shows replica before after n =
    ((n ≡ 0) × IsSomeAnd after (λ bytes. SpellsSnapshot bytes (snapshot_of replica)))
    ⊎ ((n ≡ out_of_memory) × (after ≡ before))

-- the replica takes the snapshot, or its refusal is returned
abbrev pub FollowsSnapshot : Snapshot HalfState → Replica → Replica → ℕ → Type 0
FollowsSnapshot snapshot old new =
    GivesDueOrRunsOut (allowed replica_fault_number (follow_fault old snapshot))
    (λ _. new ≡ left_by old (Follow snapshot)) (new ≡ old)

-- the replica takes the snapshot that the bytes spell, or their fault is returned
abbrev pub FollowsBytes : List ℕ → Replica → Replica → ℕ → Type 0
FollowsBytes bytes old new n =
    TakesBytes (Snapshot HalfState) ReplicaMessageFault (SpellsSnapshot bytes) (IsSnapshotFault bytes)
    replica_message_fault_number
    (λ snapshot. FollowsSnapshot snapshot old new n) (new ≡ old) n

-- the replica applies the entry, or its refusal is returned
abbrev pub AppliesEntry : Entry → Replica → Replica → ℕ → Type 0
AppliesEntry entry old new = GivesDueOrRunsOut (allowed replica_fault_number (apply_fault old (entry_seen entry)))
    (λ _. new ≡ left_by old (Apply (entry_seen entry))) (new ≡ old)

-- the replica applies the entry that the bytes spell, or their fault is returned
abbrev pub AppliesBytes : List ℕ → Replica → Replica → ℕ → Type 0
AppliesBytes bytes old new n = TakesBytes Entry ReplicaMessageFault (SpellsEntry bytes) (IsEntryFault bytes)
    replica_message_fault_number
    (λ entry. AppliesEntry entry old new n) (new ≡ old) n
