use Rattle.replica_law.proofs.law.agreement_theorem.Goals as goal
use Rattle.replica_law.proofs.Theorem.{one_state, one_edit, one_snapshot, holds_snapshots, takes_entries}
use Rattle.replica_law.proofs.Lasting.{one_state_ever, entries_lead}
use Rattle.replica_law.proofs.Happens.{edits_happen, follows_happen, applies_happen}
use Rattle.replica_law.proofs.Serves.{view_serves}
use Rattle.replica_law.proofs.Exact.{exact}
use Rattle.replica_law.proofs.Careful.{view_tells, lead_tells}

pub returns-clause-one_state : goal.returns-clause-one_state
returns-clause-one_state g c = one_state g.M.Replicated.machine

pub returns-clause-lasting : goal.returns-clause-lasting
returns-clause-lasting g c = one_state_ever g.M.Replicated.machine

pub returns-clause-lead : goal.returns-clause-lead
returns-clause-lead g c = entries_lead g.M.Replicated.machine

pub returns-clause-one_edit : goal.returns-clause-one_edit
returns-clause-one_edit g c = one_edit g.M.Replicated.machine

pub returns-clause-snapshots : goal.returns-clause-snapshots
returns-clause-snapshots g c = holds_snapshots g.M.Replicated.machine

pub returns-clause-takes : goal.returns-clause-takes
returns-clause-takes g c = takes_entries g.M.Replicated.machine

pub returns-clause-one_snapshot : goal.returns-clause-one_snapshot
returns-clause-one_snapshot g c = one_snapshot g.M.Replicated.machine

pub returns-clause-exact : goal.returns-clause-exact
returns-clause-exact g c = exact g.M.Replicated.machine

pub returns-clause-view_tells : goal.returns-clause-view_tells
returns-clause-view_tells g c = view_tells g.M.Replicated.machine

pub returns-clause-lead_tells : goal.returns-clause-lead_tells
returns-clause-lead_tells g c = lead_tells g.M.Replicated.machine

pub returns-clause-edits : goal.returns-clause-edits
returns-clause-edits g c = edits_happen g.M.Replicated.machine

pub returns-clause-follows : goal.returns-clause-follows
returns-clause-follows g c = follows_happen g.M.Replicated.machine

pub returns-clause-applies : goal.returns-clause-applies
returns-clause-applies g c = applies_happen g.M.Replicated.machine

pub returns-clause-view_serves : goal.returns-clause-view_serves
returns-clause-view_serves g c = view_serves g.M.Replicated.machine
