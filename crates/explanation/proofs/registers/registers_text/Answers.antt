use Rattle.std.proofs.Common.{◌≡◌, ℕ, subst, arith}
use Rattle.std.specs.String.{string_bytes}
use Rattle.abstract_value.specs.States.{view}
use Rattle.explanation.specs.StateTexts.{registers_text}
use Rattle.explanation.proofs.registers.registers_text.Goals as goal

pub returns : goal.returns
returns g c =
    let last : c.loop-number.number ≡ 11 = omega arith in
    subst (λ (n : ℕ). string_bytes c.loop-number.text ≡ registers_text g.D.Domain.ops (view c.args.state.now).registers n)
    last c.loop-number.invariant
