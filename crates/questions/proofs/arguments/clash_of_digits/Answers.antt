use Rattle.std.proofs.Common.{◌∙◌, inl, inr, refl}
use Rattle.questions.specs.Judging.{wrong_length}
use Rattle.questions.proofs.arguments.clash_of_digits.Goals as goal

pub returns-then-len-ne-SHORTER_RECORD_LEN-clause-err : goal.returns-then-len-ne-SHORTER_RECORD_LEN-clause-err
returns-then-len-ne-SHORTER_RECORD_LEN-clause-err c =
    rw c.failure_of.ensures (wrong_length c.in_ok-bytes.bytes.items c.in_ok-bytes.ensures.ok (λ long. elim long [
      | inl e ↦ c.if-len-ne-RECORD_LEN.true (c.len.ensures ∙ c.in_ok-bytes.bytes.ok.0 ∙ e)
      | inr e ↦ c.if-len-ne-SHORTER_RECORD_LEN.true (c.len-then-len-ne-RECORD_LEN.ensures ∙ c.in_ok-bytes.bytes.ok.0
          ∙ e)
    ]) refl)
