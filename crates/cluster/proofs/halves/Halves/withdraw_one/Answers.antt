use Rattle.clash_record.specs.declared.side_id.SideId.TheVariants.{A, B}
use Rattle.cluster.specs.Healing.{gone_of_side}
use Rattle.cluster.proofs.Causes.{if_err, withdrawn_cause, next_of_a, next_of_b}
use Rattle.cluster.proofs.Trying.{withdrawn_of_a, withdrawn_of_b}
use Rattle.cluster.proofs.halves.Halves.withdraw_one.Goals as goal

pub returns-in-A-clause-withdrawn : goal.returns-in-A-clause-withdrawn
returns-in-A-clause-withdrawn c =
    withdrawn_of_a c.withdraw.result c.args.withdrawal.now c.args.self.now.a c.withdraw.new.self c.args.self.now.b
    c.in-A.is c.withdraw.ensures.done

pub returns-in-B-clause-withdrawn : goal.returns-in-B-clause-withdrawn
returns-in-B-clause-withdrawn c =
    withdrawn_of_b c.withdraw-in-B.result c.args.withdrawal.now c.args.self.now.a c.args.self.now.b
    c.withdraw-in-B.new.self c.in-B.is c.withdraw-in-B.ensures.done

pub returns-in-A-clause-cause : goal.returns-in-A-clause-cause
returns-in-A-clause-cause c = if_err c.withdraw.result (λ fault h plan was gone rest trying unlisted next.
    h plan was A (gone_of_side A gone) (gone_of_side A rest) trying.a unlisted.a
    (next_of_a gone rest plan.gone c.args.withdrawal.now c.in-A.is next))
    (withdrawn_cause c.withdraw.result _ _ _ c.withdraw.ensures.answer)

pub returns-in-B-clause-cause : goal.returns-in-B-clause-cause
returns-in-B-clause-cause c = if_err c.withdraw-in-B.result (λ fault h plan was gone rest trying unlisted next.
    h plan was B (gone_of_side B gone) (gone_of_side B rest) trying.b unlisted.b
    (next_of_b gone rest plan.gone c.args.withdrawal.now c.in-B.is next))
    (withdrawn_cause c.withdraw-in-B.result _ _ _ c.withdraw-in-B.ensures.answer)
