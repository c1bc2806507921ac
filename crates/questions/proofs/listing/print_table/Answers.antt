use Rattle.std.proofs.Common.{◌∙◌, inl, inr, refl, subst}
use Rattle.std.specs.Io.KnownBytes.{Appends}
use Rattle.device.specs.Sending.{AppendsFront}
use Rattle.questions.proofs.listing.print_table.Goals as goal

pub returns-in-Ok-deliver : goal.returns-in-Ok-deliver
returns-in-Ok-deliver g c =
    let old = g.W.Write.contents c.args.writer.now in
    let new = g.W.Write.contents c.deliver.new.writer in
    inl (inl (subst (Appends old new) (c.as_bytes.ensures.value ∙ c.in-Ok.ensures) c.in-Ok-deliver.ensures.all, refl))

pub returns-in-Ok : goal.returns-in-Ok
returns-in-Ok g c =
    let old = g.W.Write.contents c.args.writer.now in
    let new = g.W.Write.contents c.deliver.new.writer in
    inl (inr (subst (AppendsFront old new) (c.as_bytes.ensures.value ∙ c.in-Ok.ensures) c.in-Err-deliver.ensures.front, refl))
