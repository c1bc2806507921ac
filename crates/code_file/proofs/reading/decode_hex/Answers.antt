use Rattle.std.proofs.Common.{sym, ◌∙◌}
use Rattle.code_file.proofs.HexDigits.{digits_alone}
use Rattle.code_file.proofs.reading.decode_hex.Goals as goal

pub returns-then-are_digits-clause-code : goal.returns-then-are_digits-clause-code
returns-then-are_digits-clause-code c =
    let same = sym c.trimmed-digits.ensures ∙ digits_alone c.trimmed-digits.result.now (sym c.are_digits.ensures ∙ c.if-are_digits.true) in
    rw same c.decode_digits.ensures.code

pub returns-then-are_digits-clause-refused : goal.returns-then-are_digits-clause-refused
returns-then-are_digits-clause-refused c =
    let same = sym c.trimmed-digits.ensures ∙ digits_alone c.trimmed-digits.result.now (sym c.are_digits.ensures ∙ c.if-are_digits.true) in
    rw same c.decode_digits.ensures.refused
