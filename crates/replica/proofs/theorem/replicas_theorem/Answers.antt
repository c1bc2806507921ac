use Rattle.replica.proofs.Agreement.{have_one_half, edits_lead, entries_agree, snapshots_agree, next_entries_apply, hold_the_merge}
use Rattle.replica.proofs.Calls.{are_calls, refusals_change_nothing, lives_start, node_calls_happen}
use Rattle.replica.proofs.Logs.{logs_restore}
use Rattle.replica.proofs.theorem.replicas_theorem.Goals as goal

pub returns-clause-one_half : goal.returns-clause-one_half
returns-clause-one_half c =
    let law = c.agreement_theorem.ensures in
    have_one_half law.view_tells law.edits law.follows law.applies law.lasting

pub returns-clause-edits : goal.returns-clause-edits
returns-clause-edits c =
    let law = c.agreement_theorem.ensures in
    edits_lead law.view_tells law.edits law.follows law.applies law.lead

pub returns-clause-one_edit : goal.returns-clause-one_edit
returns-clause-one_edit c =
    let law = c.agreement_theorem.ensures in
    entries_agree law.view_tells law.edits law.follows law.applies law.one_edit

pub returns-clause-snapshots : goal.returns-clause-snapshots
returns-clause-snapshots c =
    let law = c.agreement_theorem.ensures in
    snapshots_agree law.view_tells law.edits law.follows law.applies law.snapshots

pub returns-clause-takes : goal.returns-clause-takes
returns-clause-takes c =
    let law = c.agreement_theorem.ensures in
    next_entries_apply law.view_tells law.edits law.follows law.applies law.takes

pub returns-clause-calls : goal.returns-clause-calls
returns-clause-calls c = are_calls

pub returns-clause-refusals : goal.returns-clause-refusals
returns-clause-refusals c = refusals_change_nothing

pub returns-clause-starts : goal.returns-clause-starts
returns-clause-starts c = lives_start

pub returns-clause-happen : goal.returns-clause-happen
returns-clause-happen c = node_calls_happen

pub returns-clause-merge : goal.returns-clause-merge
returns-clause-merge c =
    let law = c.agreement_theorem.ensures in
    hold_the_merge law.view_tells law.edits law.follows law.applies law.lead c.history_theorem.ensures.merge

pub returns-clause-logs : goal.returns-clause-logs
returns-clause-logs c =
    let law = c.agreement_theorem.ensures in
    logs_restore (have_one_half law.view_tells law.edits law.follows law.applies law.lasting)
    (next_entries_apply law.view_tells law.edits law.follows law.applies law.takes)
