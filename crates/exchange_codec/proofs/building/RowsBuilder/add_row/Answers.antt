use Rattle.std.proofs.Common.{ap, sym}
use Rattle.std.proofs.lemmas.Result.{on_ok_weaker}
use Rattle.exchange_codec.specs.RowsText.{resolver_view}
use Rattle.exchange_codec.proofs.BuildingLaws.{can_builtin, can_named, has_builtin, has_named}
use Rattle.exchange_codec.proofs.building.RowsBuilder.add_row.Goals as goal

pub add_by-requires : goal.add_by-requires
add_by-requires c = can_builtin c.args.self.now.table c.args.self.now.programs c.args.row.now c.args.at c.requires.programs c.requires.above
    c.in-Builtin.builtin c.requires.room

pub add_by-requires-in-Some : goal.add_by-requires-in-Some
add_by-requires-in-Some c = can_named c.args.self.now.table c.args.self.now.programs c.args.row.now c.args.at c.requires.programs c.requires.above
    c.in-Named.id c.in-Some.known.now c.requires.room (sym c.in-Some.ensures.value)

pub returns-in-Builtin-clause-added : goal.returns-in-Builtin-clause-added
returns-in-Builtin-clause-added c = on_ok_weaker c.add_by.result (λ added.
    has_builtin c.args.self.now.table c.add_by.new.builder c.args.self.now.programs c.args.row.now c.requires.programs c.requires.above
    c.in-Builtin.builtin (ap resolver_view c.in-Builtin.is) added) c.add_by.ensures.added

pub returns-in-Some-clause-added : goal.returns-in-Some-clause-added
returns-in-Some-clause-added c = on_ok_weaker c.add_by-in-Some.result (λ added.
    has_named c.args.self.now.table c.add_by-in-Some.new.builder c.args.self.now.programs c.args.row.now c.requires.programs c.requires.above
    c.in-Named.id c.in-Some.known.now (ap resolver_view c.in-Named.is) (sym c.in-Some.ensures.value) added) c.add_by-in-Some.ensures.added
