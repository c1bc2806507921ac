use Rattle.std.proofs.Common.{sym, subst, Ok, Err}
use Rattle.refusals.specs.Answers.{ReturnsOrRunsOut}
use Rattle.instruction_set.specs.Machine.{IsSafeFor}
use Rattle.verifier.specs.Stores.{code_with_len}
use Rattle.verifier.specs.Programs.{program_fault_number}
use Rattle.verifier.specs.declared.program_fault.ProgramFault.TheVariants.{Codec, Verify}
use Rattle.verifier.specs.laws.OneAnswer.{converted, codec_taken, codec_told, refused_taken, refused_told, accepted_told}
use Rattle.bpf.proofs.loaded.load_over.Goals as goal

pub returns-in_err-code-clause-taken : goal.returns-in_err-code-clause-taken
returns-in_err-code-clause-taken g c = λ code h.
    subst (λ r. ReturnsOrRunsOut program_fault_number r (Ok (code_with_len code c.args.context_len)))
    (sym (converted c.from_residual.result (Codec c.in_err-code.field-0.0) c.from_residual.ensures))
    (codec_taken c.args.context_len g.D.Domain.ops c.args.bytes.now c.in_err-code.field-0.0 code
    (c.in_err-code.ensures.read code h.spelled))

pub returns-in_err-code-clause-reported : goal.returns-in_err-code-clause-reported
returns-in_err-code-clause-reported g c = λ fault h.
    subst (λ r. ReturnsOrRunsOut program_fault_number r (Err fault))
    (sym (converted c.from_residual.result (Codec c.in_err-code.field-0.0) c.from_residual.ensures))
    (codec_told c.args.context_len g.D.Domain.ops c.args.bytes.now c.in_err-code.field-0.0
    c.in_err-code.ensures.read c.in_err-code.ensures.reported fault h)

pub returns-in_err-verified-clause-taken : goal.returns-in_err-verified-clause-taken
returns-in_err-verified-clause-taken g c = λ code h.
    let len = c.args.context_len in
    let reading = c.one_reading_theorem.ensures in
    let verdict = c.one_verdict_for_theorem.ensures in
    subst (λ r. ReturnsOrRunsOut program_fault_number r (Ok (code_with_len code len)))
    (sym (converted c.from_residual-in_err-verified.result (Verify c.in_err-verified.field-0.0)
    c.from_residual-in_err-verified.ensures))
    (refused_taken len g.D.Domain.ops c.args.bytes.now c.in_ok-code.code c.in_ok-code.ensures.spelled
    reading.one_code reading.either (verdict.either len c.in_ok-code.code) (verdict.one_refusal len c.in_ok-code.code)
    c.in_err-verified.field-0.0 c.in_err-verified.ensures.refused code h.spelled h.structured h.typable)

pub returns-in_err-verified-clause-reported : goal.returns-in_err-verified-clause-reported
returns-in_err-verified-clause-reported g c = λ fault h.
    let len = c.args.context_len in
    let reading = c.one_reading_theorem.ensures in
    let verdict = c.one_verdict_for_theorem.ensures in
    subst (λ r. ReturnsOrRunsOut program_fault_number r (Err fault))
    (sym (converted c.from_residual-in_err-verified.result (Verify c.in_err-verified.field-0.0)
    c.from_residual-in_err-verified.ensures))
    (refused_told len g.D.Domain.ops c.args.bytes.now c.in_ok-code.code c.in_ok-code.ensures.spelled
    reading.one_code reading.either (verdict.either len c.in_ok-code.code) (verdict.one_refusal len c.in_ok-code.code)
    c.in_err-verified.field-0.0 c.in_err-verified.ensures.refused fault h)

pub returns-clause-reported : goal.returns-clause-reported
returns-clause-reported g c = λ fault h.
    let len = c.args.context_len in
    let reading = c.one_reading_theorem.ensures in
    let verdict = c.one_verdict_for_theorem.ensures in
    subst (λ loaded. ReturnsOrRunsOut program_fault_number (Ok loaded) (Err fault))
    (sym c.in_ok-verified.ensures.accepted)
    (accepted_told len g.D.Domain.ops c.args.bytes.now c.in_ok-code.code c.in_ok-code.ensures.spelled
    reading.one_code reading.either (verdict.either len c.in_ok-code.code) (verdict.one_refusal len c.in_ok-code.code)
    c.in_ok-verified.ensures.structured c.in_ok-verified.ensures.typable (code_with_len c.in_ok-code.code len) fault h)

pub returns-clause-safe : goal.returns-clause-safe
returns-clause-safe g c =
    subst (λ loaded. IsSafeFor c.args.context_len loaded.code) (sym c.in_ok-verified.ensures.accepted)
    (subst (λ loaded. IsSafeFor loaded.context_len loaded.code) c.in_ok-verified.ensures.accepted c.code.ensures.safe)
