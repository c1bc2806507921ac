use Rattle.std.proofs.Common.{[]}
use Rattle.clash_record.specs.declared.side_id.SideId.TheVariants.{A, B}
use Rattle.cluster.specs.model.Stages.{no_ruling}
use Rattle.cluster.proofs.Causes.{if_converted, as_heal, answered_cause, hear_cause, heard_unlisted}
use Rattle.cluster.proofs.Trying.{both_hear}
use Rattle.cluster.proofs.halves.Halves.hear.Goals as goal

pub returns-in_err-both-clause-heard : goal.returns-in_err-both-clause-heard
returns-in_err-both-clause-heard c =
    both_hear c.hear.result c.hear-2.result c.args.of_a.now c.args.of_b.now _ _ _ _ c.hear.ensures.done
    c.hear.ensures.untouched c.hear-2.ensures.done c.hear-2.ensures.untouched

pub returns-clause-heard : goal.returns-clause-heard
returns-clause-heard c =
    both_hear c.hear.result c.hear-2.result c.args.of_a.now c.args.of_b.now _ _ _ _ c.hear.ensures.done
    c.hear.ensures.untouched c.hear-2.ensures.done c.hear-2.ensures.untouched

pub returns-in_err-both-clause-unlisted : goal.returns-in_err-both-clause-unlisted
returns-in_err-both-clause-unlisted c = λ unlisted. record {
  a = heard_unlisted c.hear.result _ _ _ c.hear.ensures.done c.hear.ensures.untouched unlisted.a;
  b = heard_unlisted c.hear-2.result _ _ _ c.hear-2.ensures.done c.hear-2.ensures.untouched unlisted.b;
}

pub returns-clause-unlisted : goal.returns-clause-unlisted
returns-clause-unlisted c = λ unlisted. record {
  a = heard_unlisted c.hear.result _ _ _ c.hear.ensures.done c.hear.ensures.untouched unlisted.a;
  b = heard_unlisted c.hear-2.result _ _ _ c.hear-2.ensures.done c.hear-2.ensures.untouched unlisted.b;
}

pub returns-in_err-both-clause-cause : goal.returns-in_err-both-clause-cause
returns-in_err-both-clause-cause c =
    if_converted _ c.from_residual.result c.in_err-both.field-0.0 c.from_residual.ensures
    (λ plan was offers trying.
    as_heal plan was c.hear.result c.hear-2.result c.in_err-both.field-0.0 c.in_err-both.ensures.refused
    (answered_cause plan was c.hear.result _ c.hear.ensures.answer
    (hear_cause plan was no_ruling A [] _ _ trying.a _ trying.grown.a.same_limit c.args.of_b.now offers.b))
    (answered_cause plan was c.hear-2.result _ c.hear-2.ensures.answer
    (hear_cause plan was no_ruling B [] _ _ trying.b _ trying.grown.b.same_limit c.args.of_a.now offers.a)))
