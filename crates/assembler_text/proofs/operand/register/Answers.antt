use Rattle.std.proofs.Common.{◌≡◌, sym, ◌∙◌, Some}
use Rattle.assembler_text.specs.model.Operands.{register_number}
use Rattle.assembler_text.proofs.Tables.{register_is}
use Rattle.assembler_text.proofs.operand.register.Goals as goal

pub returns-in-Some : goal.returns-in-Some
unfolding register_number
returns-in-Some c =
    let e : register_number c.args.word.now ≡ Some c.in-Some.number = sym c.lookup.ensures ∙ c.in-Some.is in
    register_is c.in-Some.number _ c.args.word.now e
