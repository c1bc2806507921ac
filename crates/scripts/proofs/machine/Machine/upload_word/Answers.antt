use Rattle.std.proofs.Common.{◌∙◌, ap, sym}
use Rattle.std.specs.Prelude.{option_map}
use Rattle.scripts.specs.Machines.{machine_of}
use Rattle.scripts.proofs.Uploads.{file_for_word}
use Rattle.scripts.proofs.machine.Machine.upload_word.Goals as goal

pub returns-in-Some : goal.returns-in-Some
returns-in-Some g c =
    file_for_word (machine_of c.args.self.now) _ c.args.label.now c.args.word.now c.in-Some.file.now
    c.upload_file.result (sym c.file_named.ensures ∙ ap (option_map (λ file. file.now)) c.in-Some.is)
    c.upload_file.ensures
