use Rattle.std.proofs.Common.{◌≡◌, Err, ap}
use Rattle.upload_store.specs.Programs.{id_of}
use Rattle.upload_store.specs.Uploads.{uploaded_as}
use Rattle.upload_store.proofs.Outcomes.{converted, fault_passed, rejection_passed, id_passed, no_fault, no_rejection}
use Rattle.upload_store.proofs.store.UploadStore.upload.Goals as goal

pub returns-in_err-uploaded-clause-taken : goal.returns-in_err-uploaded-clause-taken
returns-in_err-uploaded-clause-taken c = λ fits.
    let fault = c.in_err-uploaded.field-0.0 in
    fault_passed fault c.from_residual.result (converted c.from_residual.result fault c.from_residual.ensures)
    (λ e. absurd (cc)) (c.in_err-uploaded.ensures.taken fits)

pub returns-in_err-uploaded-clause-reported : goal.returns-in_err-uploaded-clause-reported
returns-in_err-uploaded-clause-reported c = λ other h.
    let fault = c.in_err-uploaded.field-0.0 in
    fault_passed fault c.from_residual.result (converted c.from_residual.result fault c.from_residual.ensures)
    (λ e. let same : fault ≡ other = cc in ap Err same) (c.in_err-uploaded.ensures.reported other h)

pub returns-in_err-uploaded-clause-rejected : goal.returns-in_err-uploaded-clause-rejected
returns-in_err-uploaded-clause-rejected c = λ u.
    let fault = c.in_err-uploaded.field-0.0 in
    rejection_passed fault c.from_residual.result (converted c.from_residual.result fault c.from_residual.ensures)
    (c.in_err-uploaded.ensures.rejected u)

pub returns-clause-taken : goal.returns-clause-taken
returns-clause-taken c = λ fits.
    id_passed c.in_ok-uploaded.uploaded (uploaded_as (id_of c.args.bytes.now) fits.code)
    (c.in_ok-uploaded.ensures.taken fits)

pub returns-clause-reported : goal.returns-clause-reported
returns-clause-reported c = λ other h.
    no_fault c.in_ok-uploaded.uploaded other (c.in_ok-uploaded.ensures.reported other h)

pub returns-clause-rejected : goal.returns-clause-rejected
returns-clause-rejected c = λ u. no_rejection c.in_ok-uploaded.uploaded (c.in_ok-uploaded.ensures.rejected u)
