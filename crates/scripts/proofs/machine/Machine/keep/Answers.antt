use Rattle.std.proofs.Common.{inl, refl, ap}
use Rattle.scripts.specs.declared.reply.Reply.TheVariants.{Uploaded}
use Rattle.scripts.specs.Machines.{machine_of}
use Rattle.scripts.proofs.Uploads.{upload_refused}
use Rattle.scripts.proofs.machine.Machine.keep.Goals as goal

pub returns-in-Ok : goal.returns-in-Ok
returns-in-Ok c =
    let is = c.in-Ok.ensures.kept in
    inl (inl (record {
      id = c.in-Ok.uploaded.id;
      kept = is.kept;
      said = ap (Uploaded c.args.label) is.counted;
      labels = c.push_reserved.ensures.items;
      cluster = refl;
      latest = refl;
    }))

pub returns-in-Err : goal.returns-in-Err
returns-in-Err c =
    let old = machine_of c.args.self.now in
    upload_refused old _ c.args.label c.args.bytes.now c.in-Err.fault c.refused.result c.in-Err.ensures.refused
    c.refused.ensures (ap (λ programs. record old { programs = programs }) c.in-Err.ensures.unchanged)
