use Rattle.c_calls.specs.Halves.{side_and_store}
use Rattle.c_calls.proofs.Uploading.{upload_done}
use Rattle.c_calls.proofs.half.Half.upload.Goals as goal

pub returns : goal.returns
returns c =
    let u = c.upload-uploaded in
    rw (← c.self.view_is) (rw c.id_in-bytes.ensures (rw c.number_of.ensures (rw c.slot_in.ensures
    (upload_done c.args.code.now (side_and_store c.self.inside.side c.self.inside.store) u.new.self c.args.id.now u.result u.ensures.kept
    u.ensures.taken u.ensures.refused u.ensures.unchanged u.ensures.reported))))
