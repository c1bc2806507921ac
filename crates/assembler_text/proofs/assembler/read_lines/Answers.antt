use Rattle.std.proofs.Common.{◌≡◌, ℕ, ◌<◌, ◌+◌, arith, length, drop, ap, ◌∙◌, sym, subst, List, Ok, Err, inl}
use Rattle.std.specs.Prelude.{sum_by}
use Rattle.std.proofs.lemmas.Bool.Decides.{nat_tests}
use Rattle.std.proofs.lemmas.Result.{err_from_is_err_and}
use Rattle.refusals.specs.Answers.{HasCause, ReturnsOrRunsOut}
use Rattle.instruction_set.specs.Machine.{slots_of}
use Rattle.assembler_text.specs.Faults.{line_fault_number}
use Rattle.assembler_text.specs.declared.lexer.Class.TheVariants as class
use Rattle.assembler_text.specs.model.Words.{rest, front}
use Rattle.assembler_text.specs.Grammar.{lines_of}
use Rattle.assembler_text.specs.model.Lines.{line_at}
use Rattle.assembler_text.specs.model.Texts.{with_line, code_of, FailsWith}
use Rattle.assembler_text.proofs.Texts.{goes_on, stops, is_done, no_slots, some_slots, not_empty, behind_shorter, made}
use Rattle.assembler_text.proofs.assembler.read_lines.Goals as goal

pub overflow_add-line : goal.overflow_add-line
overflow_add-line c =
    let some : 0 < length c.loop-text.text.now = grind (arith, nat_tests) in
    omega (arith, c.loop-text.invariant.1)

pub returns-in_err-add : goal.returns-in_err-add
returns-in_err-add c =
    let some : 0 < length c.loop-text.text.now = grind (arith, nat_tests) in
    let p = err_from_is_err_and c.from_residual.result c.from_residual.ensures.1 in
    let e = c.in_err-add.field-0.0 in
    let P : List ℕ → Type 0 =
    λ t. HasCause line_fault_number (FailsWith (with_line (c.loop-text.line + 1) c.loop-text.builder (line_at t))) e in
    let told : ReturnsOrRunsOut line_fault_number (Err e) (code_of (lines_of c.args.text.now)) =
    stops e c.loop-text.line c.loop-text.builder c.loop-text.text.now _ some
    (subst P c.split.ensures.front c.in_err-add.ensures.err) c.loop-text.invariant.0 in
    rw (p.1, p.2) told

pub loop-text-preserved : goal.loop-text-preserved
loop-text-preserved c =
    let some : 0 < length c.loop-text.text.now = grind (arith, nat_tests) in
    let text : c.after_newline-text.result.now ≡ drop 1 (rest class.Line c.loop-text.text.now) =
    c.after_newline-text.ensures ∙ ap (drop 1) c.split.ensures.rest in
    let P : List ℕ → Type 0 =
    λ t. with_line (c.loop-text.line + 1) c.loop-text.builder (line_at t) ≡ Ok c.add.new.builder in
    let added : with_line (c.loop-text.line + 1) c.loop-text.builder (line_at (front class.Line c.loop-text.text.now))
    ≡ Ok c.add.new.builder = subst P c.split.ensures.front c.in_ok-add.ensures.ok in (
      rw text (goes_on c.loop-text.line c.loop-text.builder c.add.new.builder c.loop-text.text.now _ some added
          c.loop-text.invariant.0),
      omega (arith, ap length text, behind_shorter c.loop-text.text.now some, c.loop-text.invariant.1),
    )

pub loop-text-smaller : goal.loop-text-smaller
loop-text-smaller c =
    let some : 0 < length c.loop-text.text.now = grind (arith, nat_tests) in
    let text : c.after_newline-text.result.now ≡ drop 1 (rest class.Line c.loop-text.text.now) =
    c.after_newline-text.ensures ∙ ap (drop 1) c.split.ensures.rest in
    omega (arith, ap length text, behind_shorter c.loop-text.text.now some)

pub returns-then-slot_count-eq0 : goal.returns-then-slot_count-eq0
returns-then-slot_count-eq0 c =
    let none : length c.loop-text.text.now ≡ 0 = grind (arith, nat_tests) in
    let slots : sum_by slots_of c.loop-text.builder ≡ 0 =
    omega (arith, c.slot_count.ensures.count, c.if-slot_count-eq0.true) in
    inl (sym (is_done c.loop-text.line c.loop-text.builder c.loop-text.text.now _ none c.loop-text.invariant.0
    ∙ no_slots c.loop-text.builder slots))

pub build-requires : goal.build-requires
build-requires c = not_empty c.loop-text.builder (omega (arith, c.slot_count.ensures.count, c.if-slot_count-eq0.false))

pub returns : goal.returns
returns c =
    let none : length c.loop-text.text.now ≡ 0 = grind (arith, nat_tests) in
    let slots : 0 < sum_by slots_of c.loop-text.builder =
    omega (arith, c.slot_count.ensures.count, c.if-slot_count-eq0.false) in
    inl (sym (is_done c.loop-text.line c.loop-text.builder c.loop-text.text.now _ none c.loop-text.invariant.0
    ∙ some_slots c.loop-text.builder slots ∙ ap made (sym c.build.ensures)))
