use Rattle.std.proofs.Common.{Err, arith}
use Rattle.exchange_codec.specs.Faults.{message_fault_number}
use Rattle.exchange_codec.specs.laws.Decoding.{answers}
use Rattle.exchange_codec.proofs.TableAnswers.{tables, is_spelled, is_refused, is_failed}
use Rattle.exchange_codec.proofs.tables.decode_table.Goals as goal

pub returns-in-Ok : goal.returns-in-Ok
returns-in-Ok c =
    let bytes = c.args.bytes.now in
    let read = c.in-Ok.ensures.built in
    answers message_fault_number (tables c.one_program_theorem.ensures bytes) c.in-Ok.built
    (is_spelled bytes read.0 c.in-Ok.built (λ i. omega (arith, c.type_inv.bytes i)) read.1 read.2)
    (is_refused bytes read.0 c.in-Ok.built read.1 read.2)

pub returns-in-Err : goal.returns-in-Err
returns-in-Err c =
    let bytes = c.args.bytes.now in
    answers message_fault_number (tables c.one_program_theorem.ensures bytes) (Err c.told.result) tt
    (rw c.told.ensures (is_failed bytes c.in-Err.error c.in-Err.ensures.failed))
