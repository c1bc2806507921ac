use Rattle.replica_law.proofs.law.lax_rules_theorem.Goals as goal
use Rattle.replica_law.proofs.Lax.{own_latest, own, all, in_place, again}

pub returns-clause-own_latest : goal.returns-clause-own_latest
returns-clause-own_latest c = own_latest

pub returns-clause-own : goal.returns-clause-own
returns-clause-own c = own

pub returns-clause-all : goal.returns-clause-all
returns-clause-all c = all

pub returns-clause-in_place : goal.returns-clause-in_place
returns-clause-in_place c = in_place

pub returns-clause-again : goal.returns-clause-again
returns-clause-again c = again
