use Rattle.std.proofs.Common.{◌≡◌, ◌+◌, ◌-◌, refl, arith}
use Rattle.std.proofs.lemmas.List.{drop-set}
use Rattle.script_text.proofs.Pieces.{digits_at_most}
use Rattle.script_text.proofs.printing.put_number.Goals as goal

pub returns-clause-written : goal.returns-clause-written
returns-clause-written c =
    let short = digits_at_most c.args.number c.ranges.number.fits in
    let start = c.write_digits-start.result in
    let next : start - 1 + 1 ≡ start = omega arith in
    rw (drop-set c.write_digits-start.new.buf (start - 1) c.args.byte (omega arith), next)
    (rw c.write_digits-start.ensures.written refl)
