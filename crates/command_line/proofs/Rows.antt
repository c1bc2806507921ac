-- From a getter to the rows of a parse.
use Rattle.clap.proofs.WalkLemmas.{first_value-rows}

pub ruleset rows = first_value-rows
