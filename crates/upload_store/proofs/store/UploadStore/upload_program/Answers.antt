use Rattle.std.proofs.Common.{◌≡◌, ap, ℕ, List}
use Rattle.upload_store.specs.Programs.{id_of}
use Rattle.upload_store.proofs.Outcomes.{unread_refused, unread_accepted, unread_told, unread_rejected}
use Rattle.upload_store.proofs.Outcomes.{kept_from, refused_from, accepted_taken, accepted_told, accepted_rejected}
use Rattle.upload_store.proofs.store.UploadStore.upload_program.Goals.{After-keep}
use Rattle.upload_store.proofs.store.UploadStore.upload_program.Goals as goal

pub returns-in_err-program-clause-taken : goal.returns-in_err-program-clause-taken
returns-in_err-program-clause-taken c = λ h.
    unread_accepted c.args.self.now c.args.bytes.now c.in_err-program.field-0.0 c.from_residual.result
    c.from_residual.ensures c.in_err-program.ensures.taken h.code h.accepted

pub returns-in_err-program-clause-refused : goal.returns-in_err-program-clause-refused
returns-in_err-program-clause-refused c =
    unread_refused c.args.self.now c.args.bytes.now c.in_err-program.field-0.0 c.from_residual.result
    c.from_residual.ensures c.in_err-program.ensures.refused

pub returns-in_err-program-clause-reported : goal.returns-in_err-program-clause-reported
returns-in_err-program-clause-reported c =
    unread_told c.args.self.now c.args.bytes.now c.in_err-program.field-0.0 c.from_residual.result
    c.from_residual.ensures c.in_err-program.ensures.taken c.in_err-program.ensures.reported

pub returns-in_err-program-clause-rejected : goal.returns-in_err-program-clause-rejected
returns-in_err-program-clause-rejected c =
    unread_rejected c.args.self.now c.args.bytes.now c.in_err-program.field-0.0 c.from_residual.result
    c.from_residual.ensures (c.one_reading_theorem.ensures.either c.args.bytes.now) c.in_err-program.ensures.refused

-- the id that is made of the bytes' digest is theirs
named : (c : After-keep) → record { 0 = c.digest.result } ≡ id_of c.args.bytes.now
named c = ap (λ (bytes : List ℕ). record { 0 = bytes }) c.digest.ensures

pub returns-clause-kept : goal.returns-clause-kept
returns-clause-kept c =
    kept_from c.args.self.now c.args.bytes.now c.in_ok-program.program (record { 0 = c.digest.result })
    c.in_ok-program.ensures.accepted (named c) c.in_ok-program.ensures.safe c.keep.new.self c.keep.result
    c.keep.ensures.answer c.keep.ensures.place c.keep.ensures.kept

pub returns-clause-taken : goal.returns-clause-taken
returns-clause-taken c =
    accepted_taken c.args.self.now c.args.bytes.now c.in_ok-program.program (record { 0 = c.digest.result })
    c.in_ok-program.ensures.accepted (named c) c.in_ok-program.ensures.taken c.keep.result
    c.keep.ensures.answer c.keep.ensures.refused

pub returns-clause-refused : goal.returns-clause-refused
returns-clause-refused c =
    refused_from c.args.self.now c.args.bytes.now c.in_ok-program.program (record { 0 = c.digest.result })
    c.in_ok-program.ensures.accepted (named c) c.keep.result c.keep.ensures.refused

pub returns-clause-reported : goal.returns-clause-reported
returns-clause-reported c =
    accepted_told c.args.self.now c.args.bytes.now c.in_ok-program.program (record { 0 = c.digest.result })
    c.in_ok-program.ensures.accepted (named c) c.in_ok-program.ensures.taken c.in_ok-program.ensures.reported c.keep.result
    c.keep.ensures.place c.keep.ensures.refused

pub returns-clause-rejected : goal.returns-clause-rejected
returns-clause-rejected c =
    accepted_rejected c.args.self.now c.args.bytes.now c.in_ok-program.program (record { 0 = c.digest.result })
    c.in_ok-program.ensures.accepted (named c) (c.one_reading_theorem.ensures.one_code c.args.bytes.now) c.keep.result
