-- The words of the contracts, passed on so that a caller names this crate alone.
pub use Rattle.refusals.specs.Answers
pub use Rattle.refusals.specs.Texts as RefusalTexts
pub use Rattle.clash_record.specs.Name
pub use Rattle.clash_record.specs.Orders
pub use Rattle.clash_record.specs.Record
pub use Rattle.clash_record.specs.Texts as NameTexts
pub use Rattle.builtin_resolvers.specs.Telling as Notifying
pub use Rattle.builtin_resolvers.specs.Texts as NoticeTexts
pub use Rattle.builtin_resolvers.specs.Verdicts
pub use Rattle.upload_store.specs.Faults as UploadFaults
pub use Rattle.upload_store.specs.Programs as Store
pub use Rattle.upload_store.specs.Uploads
pub use Rattle.partition_table.specs.Faults as TableFaults
pub use Rattle.partition_table.specs.Judged
pub use Rattle.partition_table.specs.Rulings
pub use Rattle.partition_table.specs.Tables
pub use Rattle.exchange_law.specs.Calls
pub use Rattle.exchange_core.specs.Faults as SideFaults
pub use Rattle.exchange_core.specs.Finished
pub use Rattle.exchange_core.specs.Halves
pub use Rattle.exchange_law.specs.History
pub use Rattle.exchange_core.specs.Journal
pub use Rattle.exchange_core.specs.Limits
pub use Rattle.exchange_law.specs.Lists
pub use Rattle.exchange_core.specs.Refusals as SideRefusals
pub use Rattle.exchange_core.specs.Repeats
pub use Rattle.exchange_core.specs.Rows
pub use Rattle.exchange_core.specs.Settling
pub use Rattle.exchange_core.specs.Shown
pub use Rattle.exchange_law.specs.Sides
pub use Rattle.exchange_law.specs.Steps
pub use Rattle.exchange_law.specs.Worlds
pub use Rattle.exchange_codec.specs.Faults as MessageFaults
pub use Rattle.exchange_codec.specs.Offers as OfferMessages
pub use Rattle.exchange_codec.specs.Peeking
pub use Rattle.exchange_codec.specs.Reading as MessageFields
pub use Rattle.exchange_codec.specs.Rows as RowMessages
pub use Rattle.exchange_codec.specs.Tables as TableMessages
pub use Rattle.exchange_codec.specs.Withdrawals as ListMessages
pub use Rattle.cluster.specs.Causes
pub use Rattle.cluster.specs.Clusters
pub use Rattle.cluster.specs.Faults as HealFaults
pub use Rattle.cluster.specs.Healing
pub use Rattle.cluster.specs.Healings
-- those of `programs`
pub use Rattle.instruction_set.specs.Machine
pub use Rattle.instruction_set.specs.Slots
pub use Rattle.insn_codec.specs.Encoding
pub use Rattle.insn_codec.specs.Faults as CodecFaults
pub use Rattle.verifier.specs.Refusals as VerifyFaults
pub use Rattle.verifier.specs.Stores
pub use Rattle.verifier.specs.Structure
pub use Rattle.verifier.specs.Programs
pub use Rattle.assembler_text.specs.Faults as LineFaults
pub use Rattle.assembler_text.specs.Grammar
pub use Rattle.assembler_text.specs.Refusals as TextRefusals
pub use Rattle.assembler_text.specs.Text
-- those of `boards`
pub use Rattle.verdict_board.specs.Boards
pub use Rattle.verdict_board.specs.Draws
pub use Rattle.judge_pool.specs.Work
pub use Rattle.registry_lock.specs.Faults as MeetFaults
pub use Rattle.registry_lock.specs.Meeting
pub use Rattle.registry_lock.specs.Telling
-- those of `replicas`
pub use Rattle.replica_law.specs.Groups as ReplicaMessages
pub use Rattle.replica.specs.Faults as ReplicaFaults
pub use Rattle.replica.specs.Halves as ReplicaHalves
pub use Rattle.replica.specs.Histories as ReplicaHistories
pub use Rattle.replica.specs.Replicas
pub use Rattle.replica_codec.specs.Entries as EntryMessages
pub use Rattle.replica_codec.specs.Faults as ReplicaMessageFaults
pub use Rattle.replica_codec.specs.Frames as MessageFrames
pub use Rattle.replica_codec.specs.Logs
pub use Rattle.replica_codec.specs.Snapshots as SnapshotMessages
