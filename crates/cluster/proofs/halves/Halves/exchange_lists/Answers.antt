use Rattle.std.proofs.Common.{◌≡◌}
use Rattle.clash_record.specs.declared.side_id.SideId.TheVariants.{A, B}
use Rattle.exchange_core.specs.Shown.{shown}
use Rattle.exchange_law.specs.Worlds.{list_of}
use Rattle.cluster.specs.Healing.{gone_of_side}
use Rattle.cluster.specs.model.Stages.{no_ruling}
use Rattle.cluster.proofs.Answered.{ok_has}
use Rattle.cluster.proofs.Causes.{if_converted, as_heal, answered_cause, close_cause, hear_list_cause, list_of_half}
use Rattle.cluster.proofs.Trying.{both_close}
use Rattle.cluster.proofs.Listed.{both_lists}
use Rattle.cluster.proofs.halves.Halves.exchange_lists.Goals as goal

pub returns-in_err-of_a-clause-listed : goal.returns-in_err-of_a-clause-listed
returns-in_err-of_a-clause-listed c =
    both_close c.close_list.result c.close_list-2.result _ _ _ _ c.close_list.ensures.done
    c.close_list.ensures.untouched c.close_list-2.ensures.done c.close_list-2.ensures.untouched

pub returns-in_err-of_a-clause-cause : goal.returns-in_err-of_a-clause-cause
returns-in_err-of_a-clause-cause c =
    if_converted _ c.from_residual.result c.in_err-of_a.field-0.0 c.from_residual.ensures (λ plan was trying unlisted.
    let a = c.close_list in
    let b = c.close_list-2 in
    as_heal plan was a.result b.result c.in_err-of_a.field-0.0 c.in_err-of_a.ensures.refused
    (answered_cause plan was a.result _ a.ensures.answer
    (close_cause plan was no_ruling A (gone_of_side A plan.gone) _ _ trying.a
    (unlisted.a trying.a.exchange trying.a.opened)))
    (answered_cause plan was b.result _ b.ensures.answer
    (close_cause plan was no_ruling B (gone_of_side B plan.gone) _ _ trying.b
    (unlisted.b trying.b.exchange trying.b.opened))))

pub returns-in_err-both-clause-listed : goal.returns-in_err-both-clause-listed
returns-in_err-both-clause-listed c =
    let a = c.close_list in
    let b = c.close_list-2 in
    let oks = c.in_ok-of_a.ensures.both in
    both_lists a.result b.result c.hear_list.result c.hear_list-2.result c.in_ok-of_a.of_a c.in_ok-of_a.of_b _ _ _ _ _ _
    oks.0 oks.1 a.ensures.list b.ensures.list a.ensures.done a.ensures.untouched b.ensures.done b.ensures.untouched
    c.hear_list.ensures.done c.hear_list.ensures.untouched c.hear_list-2.ensures.done c.hear_list-2.ensures.untouched

pub returns-in_err-both-clause-cause : goal.returns-in_err-both-clause-cause
returns-in_err-both-clause-cause c =
    if_converted _ c.from_residual-in_err-both.result c.in_err-both.field-0.0 c.from_residual-in_err-both.ensures
    (λ plan was trying unlisted.
    let a = c.close_list in
    let b = c.close_list-2 in
    let oks = c.in_ok-of_a.ensures.both in
    let mid = both_close a.result b.result _ _ _ _ a.ensures.done a.ensures.untouched b.ensures.done b.ensures.untouched
    plan was trying in
    let of_a = list_of_half plan was no_ruling A (gone_of_side A plan.gone) (shown c.args.self.now.a) c.in_ok-of_a.of_a
    trying.a (ok_has (λ l. l ≡ list_of (shown c.args.self.now.a)) a.result c.in_ok-of_a.of_a oks.0 a.ensures.list) in
    let of_b = list_of_half plan was no_ruling B (gone_of_side B plan.gone) (shown c.args.self.now.b) c.in_ok-of_a.of_b
    trying.b (ok_has (λ l. l ≡ list_of (shown c.args.self.now.b)) b.result c.in_ok-of_a.of_b oks.1 b.ensures.list) in
    as_heal plan was c.hear_list.result c.hear_list-2.result c.in_err-both.field-0.0 c.in_err-both.ensures.refused
    (answered_cause plan was c.hear_list.result _ c.hear_list.ensures.answer
    (hear_list_cause plan was no_ruling A (gone_of_side A plan.gone) _ _ mid.a c.in_ok-of_a.of_b of_b.0 of_b.1))
    (answered_cause plan was c.hear_list-2.result _ c.hear_list-2.ensures.answer
    (hear_list_cause plan was no_ruling B (gone_of_side B plan.gone) _ _ mid.b c.in_ok-of_a.of_a of_a.0 of_a.1)))

pub returns-clause-listed : goal.returns-clause-listed
returns-clause-listed c =
    let a = c.close_list in
    let b = c.close_list-2 in
    let oks = c.in_ok-of_a.ensures.both in
    both_lists a.result b.result c.hear_list.result c.hear_list-2.result c.in_ok-of_a.of_a c.in_ok-of_a.of_b _ _ _ _ _ _
    oks.0 oks.1 a.ensures.list b.ensures.list a.ensures.done a.ensures.untouched b.ensures.done b.ensures.untouched
    c.hear_list.ensures.done c.hear_list.ensures.untouched c.hear_list-2.ensures.done c.hear_list-2.ensures.untouched
