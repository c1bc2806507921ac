use Rattle.std.proofs.Common.{◌++◌, ◌∙◌, ap}
use Rattle.std.proofs.lemmas.Result.{IfOk-weaker}
use Rattle.questions.specs.Details.{no_clash, of_clash, ruling_text}
use Rattle.questions.proofs.details.seen_clash.Goals as goal

pub returns-in_ok-fields-in-Ok : goal.returns-in_ok-fields-in-Ok
returns-in_ok-fields-in-Ok c =
    IfOk-weaker c.format.result _ _ (λ text e. of_clash c.in-Ok.record c.in-Ok.ensures.ok
    (e ∙ ap (λ fields. fields ++ ruling_text c.args.answer c.args.steps) c.in_ok-fields-in-Ok.ensures))
    c.format.ensures.ok

pub returns-in-Err-Refused : goal.returns-in-Err-Refused
returns-in-Err-Refused c =
    no_clash c.in-Err-Refused.field-0-0 (rw c.in-Err-Refused.field-0-is at c.in-Err-Refused.ensures.err)
    c.new.ensures.bytes
