use Rattle.std.proofs.Common.{◌≡◌, Some, None, ap, ◌∙◌}
use Rattle.std.specs.Arc.{arc_value}
use Rattle.std.specs.Cmp.Lexicographic.{pointwise}
use Rattle.instruction_set.specs.contracts.insn.InsnPartialEq.TheImpl as insn_eq
use Rattle.partition_table.specs.model.Keeping.{kept_code}
use Rattle.upload_store.specs.Programs.{programs_by}
use Rattle.partition_table.proofs.Holding.{code_lent, room_at_none, room_at_some}
use Rattle.partition_table.proofs.programs.has_room_at.Goals as goal

pub returns-in-None : goal.returns-in-None
returns-in-None c =
    let programs = c.args.programs.now.entries in
    room_at_none (programs_by kept_code programs) c.args.id.now (arc_value c.args.program.now)
    (code_lent kept_code programs c.args.id.now None c.in-None.ensures.value)

pub returns-in-Some : goal.returns-in-Some
returns-in-Some c =
    let programs = c.args.programs.now.entries in
    let held : c.code.result.now ≡ kept_code c.in-Some.kept.now = cc (c.code.ensures.code, c.deref.ensures) in
    let given : c.code-in-Some.result.now ≡ arc_value c.args.program.now =
    cc (c.code-in-Some.ensures.code, c.deref-in-Some.ensures) in
    room_at_some (programs_by kept_code programs) c.args.id.now (kept_code c.in-Some.kept.now)
    (arc_value c.args.program.now) c.eq.result
    (c.eq.ensures ∙ ap (λ code. pointwise insn_eq.ghosts.eq code c.code-in-Some.result.now) held
    ∙ ap (pointwise insn_eq.ghosts.eq (kept_code c.in-Some.kept.now)) given)
    (code_lent kept_code programs c.args.id.now (Some c.in-Some.kept) c.in-Some.ensures.value)
