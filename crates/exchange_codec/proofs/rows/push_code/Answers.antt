use Rattle.std.proofs.Common.{length, ap, sym, ◌∙◌, arith}
use Rattle.std.specs.List.{flat_map}
use Rattle.insn_codec.specs.Encoding.{insn_bytes}
use Rattle.exchange_codec.specs.laws.Code.{code_len, on_any}
use Rattle.exchange_codec.proofs.rows.push_code.Goals as goal

pub overflow_cast-len : goal.overflow_cast-len
overflow_cast-len c =
    let len = c.len.ensures in
    let all = ap length c.in_ok-code.ensures.bytes ∙ code_len c.code.result.now in
    let few = c.in_ok-code.ensures.spelled.is_code.few in
    omega (arith, len, all, few)

pub returns-clause-fits : goal.returns-clause-fits
returns-clause-fits c =
    let same = c.code.ensures.code ∙ c.deref.ensures in
    let len = ap (λ code. length (flat_map insn_bytes code)) (sym same) ∙ code_len c.code.result.now in
    on_any c.extend_from_slice.result (omega (arith, len, c.in_ok-code.ensures.spelled.is_code.few))
