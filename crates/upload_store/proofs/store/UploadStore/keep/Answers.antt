use Rattle.std.proofs.Common.{◌≤◌, IfErr, subst}
use Rattle.std.specs.Arc.{arc_value}
use Rattle.std.specs.FinMap as map
use Rattle.refusals.specs.Answers.{HasCause}
use Rattle.upload_store.specs.Faults.{upload_fault_number}
use Rattle.upload_store.specs.Programs.{max_programs}
use Rattle.upload_store.specs.Uploads.{HasPlace}
use Rattle.upload_store.specs.model.Keeping.{IsKeepingFault}
use Rattle.upload_store.proofs.Keeping.{has_place, refused_by}
use Rattle.upload_store.proofs.Outcomes.{converted}
use Rattle.upload_store.proofs.store.UploadStore.keep.Goals as goal

pub returns-in_err-keep_upload-clause-refused : goal.returns-in_err-keep_upload-clause-refused
returns-in_err-keep_upload-clause-refused c =
    let fault = c.in_err-keep_upload.field-0.0 in
    subst (λ code. IfErr c.from_residual.result (HasCause upload_fault_number (IsKeepingFault c.args.self.now c.args.id code)))
    c.in-Ok.ensures.ok
    (refused_by c.args.self.now (record { id = c.args.id; code = arc_value c.in-Ok.program }) c.from_residual.result fault
    (subst (λ m. map.len m ≤ max_programs) c.self.view_is c.self.invariant.store.few)
    (converted c.from_residual.result fault c.from_residual.ensures) c.in_err-keep_upload.ensures.answer)

pub returns-clause-place : goal.returns-clause-place
returns-clause-place c =
    subst (HasPlace c.args.self.now c.args.id) c.in-Ok.ensures.ok
    (has_place c.args.self.now (record { id = c.args.id; code = arc_value c.in-Ok.program })
    c.in_ok-keep_upload.ensures.answer)
