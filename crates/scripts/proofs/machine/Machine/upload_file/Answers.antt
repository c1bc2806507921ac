use Rattle.std.proofs.Common.{◌≡◌, true, refl, List, subst}
use Rattle.scripts.specs.declared.labels.Label.{Label}
use Rattle.scripts.specs.Machines.{machine_of}
use Rattle.scripts.specs.Steps.{is_free}
use Rattle.scripts.proofs.Uploads.{file_refused, file_uploaded, free_if}
use Rattle.scripts.proofs.machine.Machine.upload_file.Goals as goal

pub returns-in-Ok : goal.returns-in-Ok
returns-in-Ok g c =
    let label = c.args.label.now in
    let found = free_if _ label c.in-Some.label c.free_label.result c.free_label.ensures c.in-Some.is in
    let free = subst (λ (labels : List Label). is_free labels label ≡ true) c.deref.ensures.value found.0 in
    file_uploaded (machine_of c.args.self.now) (machine_of c.keep_file.new.self) label c.deref-in-Ok.result.now
    c.keep_file.result free c.keep_file.ensures.bytes (rw c.deref-in-Ok.ensures.value c.in-Ok.ensures.code)
    (rw found.1 at c.keep_file.ensures.kept)

pub returns-in-Err : goal.returns-in-Err
returns-in-Err g c =
    let label = c.args.label.now in
    let found = free_if _ label c.in-Some.label c.free_label.result c.free_label.ensures c.in-Some.is in
    let free = subst (λ (labels : List Label). is_free labels label ≡ true) c.deref.ensures.value found.0 in
    file_refused (machine_of c.args.self.now) _ label c.in-Err.fault c.refused-in-Err.result free
    c.in-Err.ensures.refused c.refused-in-Err.ensures refl
