use Rattle.std.proofs.Common.{sym, ◌∙◌}
use Rattle.verdict_board.proofs.Looking.{looked, from_none, from_some}
use Rattle.verdict_board.proofs.pass.Pass.offer.Goals as goal

pub returns-in_default-clause-seen : goal.returns-in_default-clause-seen
returns-in_default-clause-seen c =
    let v = c.in_default.ensures.value in
    let known = from_none _ _ v.0 in
    let step =
    looked _ _ _ _ _ _ _ _ c.self.view_is c.requires.inside c.index_mut.ensures.value
    c.get_or_try_init_as.ensures.cell known in
    sym (step.1 ∙ v.1)

pub returns-in_default-clause-looks : goal.returns-in_default-clause-looks
returns-in_default-clause-looks c =
    let v = c.in_default.ensures.value in
    let known = from_none _ _ v.0 in
    let step =
    looked _ _ _ _ _ _ _ _ c.self.view_is c.requires.inside c.index_mut.ensures.value
    c.get_or_try_init_as.ensures.cell known in
    step.0

pub returns-clause-seen : goal.returns-clause-seen
returns-clause-seen c =
    let v = c.in-Ok.ensures.value in
    let known = from_some _ _ _ v.0 v.1 in
    let step =
    looked _ _ _ _ _ _ _ _ c.self.view_is c.requires.inside c.index_mut.ensures.value
    c.get_or_try_init_as.ensures.cell known in
    sym (step.1 ∙ v.0)

pub returns-clause-looks : goal.returns-clause-looks
returns-clause-looks c =
    let v = c.in-Ok.ensures.value in
    let known = from_some _ _ _ v.0 v.1 in
    let step =
    looked _ _ _ _ _ _ _ _ c.self.view_is c.requires.inside c.index_mut.ensures.value
    c.get_or_try_init_as.ensures.cell known in
    step.0
