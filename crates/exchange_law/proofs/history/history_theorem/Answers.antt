use Rattle.exchange_law.proofs.history.history_theorem.Goals as goal
use Rattle.exchange_law.proofs.OneTable.{one_table, is_lawful_merge}

pub returns-clause-one_table : goal.returns-clause-one_table
returns-clause-one_table c = one_table

pub returns-clause-merge : goal.returns-clause-merge
returns-clause-merge c = is_lawful_merge
