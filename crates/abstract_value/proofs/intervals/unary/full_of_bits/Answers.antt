use Rattle.std.proofs.Common.{◌∙◌, ap}
use Rattle.abstract_value.specs.Ranges.{make}
use Rattle.abstract_value.proofs.Shifts.{ones_left}
use Rattle.abstract_value.proofs.intervals.unary.full_of_bits.Goals as goal

pub returns : goal.returns
returns c = c.between.ensures ∙ ap (λ hi. make 0 hi) (ones_left c.args.bits c.requires.word)
