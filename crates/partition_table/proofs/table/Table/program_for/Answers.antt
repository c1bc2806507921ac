use Rattle.std.proofs.Common.{Some, None, ap, sym, ◌∙◌}
use Rattle.partition_table.specs.Tables.{code_for}
use Rattle.partition_table.specs.model.Keeping.{kept_code}
use Rattle.upload_store.specs.Programs.{programs_by}
use Rattle.partition_table.proofs.Held.{held_now, code_held, kept_for}
use Rattle.partition_table.proofs.Holding.{code_lent}
use Rattle.partition_table.proofs.table.Table.program_for.Goals as goal

pub returns-in-Builtin-clause-each : goal.returns-in-Builtin-clause-each
returns-in-Builtin-clause-each c = λ q row there is.
    let programs = programs_by kept_code c.self.inside.programs.entries in
    let held = held_now programs c.self.inside.rows c.args.self.now c.self.view_is c.self.invariant.held in
    sym (code_held programs c.args.self.now held.0 held.1 q row there c.args.resolver is
    ∙ ap (code_for programs) c.in-Builtin.is)

pub returns-in-Some-clause-each : goal.returns-in-Some-clause-each
returns-in-Some-clause-each c = λ q row there is.
    let programs = programs_by kept_code c.self.inside.programs.entries in
    let held = held_now programs c.self.inside.rows c.args.self.now c.self.view_is c.self.invariant.held in
    sym (code_held programs c.args.self.now held.0 held.1 q row there c.args.resolver is
    ∙ ap (code_for programs) c.in-Program.is
    ∙ code_lent kept_code c.self.inside.programs.entries c.in-Program.id (Some c.in-Some.kept) c.in-Some.ensures.value)

pub returns-in-None-clause-each : goal.returns-in-None-clause-each
returns-in-None-clause-each c = λ q row there is.
    let programs = programs_by kept_code c.self.inside.programs.entries in
    let held = held_now programs c.self.inside.rows c.args.self.now c.self.view_is c.self.invariant.held in
    sym (code_held programs c.args.self.now held.0 held.1 q row there c.args.resolver is
    ∙ ap (code_for programs) c.in-Program.is
    ∙ code_lent kept_code c.self.inside.programs.entries c.in-Program.id None c.in-None.ensures.value)

pub returns-in-Some-clause-named : goal.returns-in-Some-clause-named
returns-in-Some-clause-named c =
    let programs = programs_by kept_code c.self.inside.programs.entries in
    let held = held_now programs c.self.inside.rows c.args.self.now c.self.view_is c.self.invariant.held in
    kept_for programs c.args.self.now held.0 held.1 kept_code c.args.resolver c.in-Program.id c.in-Program.is
    (Some c.in-Some.kept)
    (code_lent kept_code c.self.inside.programs.entries c.in-Program.id (Some c.in-Some.kept) c.in-Some.ensures.value)
