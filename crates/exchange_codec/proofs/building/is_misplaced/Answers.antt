use Rattle.std.proofs.Common.{sym, ap, ◌∙◌}
use Rattle.std.specs.Prelude.{not}
use Rattle.std.specs.Ordering.{is_lt}
use Rattle.exchange_codec.proofs.RebuildingLaws.{above_last}
use Rattle.exchange_codec.proofs.building.is_misplaced.Goals as goal

pub returns-in-Some : goal.returns-in-Some
returns-in-Some c = λ table is_last.
    ap not (c.is_lt.ensures ∙ ap is_lt c.cmp.ensures ∙ sym (above_last table c.args.name.now c.in-Some.last (rw c.in-Some.is at is_last)))
