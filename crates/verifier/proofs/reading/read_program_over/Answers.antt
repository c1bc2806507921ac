use Rattle.std.proofs.Common.{sym, subst, Ok, Err}
use Rattle.refusals.specs.Answers.{ReturnsOrRunsOut}
use Rattle.instruction_set.specs.Machine.{record_len}
use Rattle.verifier.specs.Programs.{program_fault_number}
use Rattle.verifier.specs.declared.program_fault.ProgramFault.TheVariants.{Codec, Verify}
use Rattle.verifier.specs.laws.OneAnswer.{converted, codec_taken, codec_told, refused_taken, refused_told, accepted_told}
use Rattle.verifier.proofs.reading.read_program_over.Goals as goal

pub returns-in_err-code-clause-taken : goal.returns-in_err-code-clause-taken
returns-in_err-code-clause-taken g c = λ code h.
    subst (λ r. ReturnsOrRunsOut program_fault_number r (Ok code))
    (sym (converted c.from_residual.result (Codec c.in_err-code.field-0.0) c.from_residual.ensures))
    (codec_taken record_len g.D.Domain.ops c.args.bytes.now c.in_err-code.field-0.0 code
    (c.in_err-code.ensures.read code h.spelled))

pub returns-in_err-code-clause-reported : goal.returns-in_err-code-clause-reported
returns-in_err-code-clause-reported g c = λ fault h.
    subst (λ r. ReturnsOrRunsOut program_fault_number r (Err fault))
    (sym (converted c.from_residual.result (Codec c.in_err-code.field-0.0) c.from_residual.ensures))
    (codec_told record_len g.D.Domain.ops c.args.bytes.now c.in_err-code.field-0.0 c.in_err-code.ensures.read
    c.in_err-code.ensures.reported fault h)

pub returns-in_err-program-clause-taken : goal.returns-in_err-program-clause-taken
returns-in_err-program-clause-taken g c = λ code h.
    let reading = c.one_reading_theorem.ensures in
    let verdict = c.one_verdict_theorem.ensures in
    subst (λ r. ReturnsOrRunsOut program_fault_number r (Ok code))
    (sym (converted c.from_residual-in_err-program.result (Verify c.in_err-program.field-0.0)
    c.from_residual-in_err-program.ensures))
    (refused_taken record_len g.D.Domain.ops c.args.bytes.now c.in_ok-code.code c.in_ok-code.ensures.spelled
    reading.one_code reading.either (verdict.either c.in_ok-code.code) (verdict.one_refusal c.in_ok-code.code)
    c.in_err-program.field-0.0 c.in_err-program.ensures.refused code h.spelled h.structured h.typable)

pub returns-in_err-program-clause-reported : goal.returns-in_err-program-clause-reported
returns-in_err-program-clause-reported g c = λ fault h.
    let reading = c.one_reading_theorem.ensures in
    let verdict = c.one_verdict_theorem.ensures in
    subst (λ r. ReturnsOrRunsOut program_fault_number r (Err fault))
    (sym (converted c.from_residual-in_err-program.result (Verify c.in_err-program.field-0.0)
    c.from_residual-in_err-program.ensures))
    (refused_told record_len g.D.Domain.ops c.args.bytes.now c.in_ok-code.code c.in_ok-code.ensures.spelled
    reading.one_code reading.either (verdict.either c.in_ok-code.code) (verdict.one_refusal c.in_ok-code.code)
    c.in_err-program.field-0.0 c.in_err-program.ensures.refused fault h)

pub returns-clause-reported : goal.returns-clause-reported
returns-clause-reported g c = λ fault h.
    let reading = c.one_reading_theorem.ensures in
    let verdict = c.one_verdict_theorem.ensures in
    subst (λ code. ReturnsOrRunsOut program_fault_number (Ok code) (Err fault)) (sym c.in_ok-program.ensures.accepted)
    (accepted_told record_len g.D.Domain.ops c.args.bytes.now c.in_ok-code.code c.in_ok-code.ensures.spelled
    reading.one_code reading.either (verdict.either c.in_ok-code.code) (verdict.one_refusal c.in_ok-code.code)
    c.in_ok-program.ensures.structured c.in_ok-program.ensures.typable c.in_ok-code.code fault h)
