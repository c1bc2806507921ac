use Rattle.std.proofs.Common.{◌≡◌, ◌∙◌, ap, true}
use Rattle.clap.specs.Words.{App, app_of, new_app, with_subcommand}
use Rattle.clap.specs.Simple.{app_of_fields}
use Rattle.std.specs.Prelude.{codes}
use Rattle.command_line.specs.Asked.{check_app, judge_app, asm_app, dis_app, run_app, subcommands_app}
use Rattle.command_line.proofs.grammar.heal.Goals as goal

-- the command with this subcommand too
abbrev with : App → App → App
with sub app = with_subcommand app sub.top

pub returns : goal.returns
returns c =
    let zero = new_app (codes "heal") in
    let one = with check_app zero in
    let two = with judge_app one in
    let three = with asm_app two in
    let four = with dis_app three in
    let checking = c.with_command-checking.ensures zero check_app c.bare_command.ensures c.check_command.ensures in
    let judging = c.with_command-judging.ensures one judge_app checking c.judge_command.ensures in
    let assembling = c.with_command-assembling.ensures two asm_app judging c.asm_command.ensures in
    let disassembling = c.with_command-disassembling.ensures three dis_app assembling c.dis_command.ensures in
    let running : app_of c.in_ok-running.field-0 ≡ subcommands_app =
    c.in_ok-running.ensures four run_app disassembling c.run_command.ensures in
    ap app_of_fields c.subcommand_required.ensures
    ∙ ap (λ (a : App). record a { top = record a.top { subcommand_required = true } }) running
