use Rattle.std.proofs.Common.{◌≡◌, true, ap, sym, ◌∙◌}
use Rattle.std.specs.FinMap.{entries}
use Rattle.replica_codec.specs.Snapshots.{is_id_above}
use Rattle.replica_codec.proofs.StoreLaws.{kept_last}
use Rattle.replica_codec.proofs.stores.add_code.Goals as goal

pub returns-in-Ok-keep_upload-clause-added : goal.returns-in-Ok-keep_upload-clause-added
returns-in-Ok-keep_upload-clause-added c =
    let above : is_id_above (entries c.args.store.now) c.in-Ok.upload.id ≡ true =
    ap (is_id_above (entries c.args.store.now)) (sym c.id.ensures.id) ∙ sym c.is_above.ensures ∙ c.if-not-is_above.false in
    record {
      id = c.in-Ok.upload.id;
      program = c.in-Ok.upload.code;
      is_program = c.in-Ok.ensures.accepted.kept;
      told = c.in-Ok.ensures.accepted.told;
      last = kept_last c.args.store.now c.keep_upload.new.self c.in-Ok.upload.id c.in-Ok.upload.code above c.in-Ok-keep_upload.ensures.kept;
    }
