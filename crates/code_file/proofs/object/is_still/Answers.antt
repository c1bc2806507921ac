use Rattle.std.proofs.Common.{◌∙◌, sym, true≢false}
use Rattle.code_file.specs.Objects.{relocates}
use Rattle.code_file.proofs.Sections.{one_more}
use Rattle.code_file.proofs.object.is_still.Goals as goal

pub returns-then-relocates-clause-moved : goal.returns-then-relocates-clause-moved
returns-then-relocates-clause-moved c = λ _ still.
    let within = rw c.section_count-other-end.ensures.value at c.loop-other-test.true in
    true≢false (sym c.if-relocates.true ∙ c.relocates.ensures ∙ still c.loop-other.other within)

pub loop-other-preserved : goal.loop-other-preserved
loop-other-preserved c =
    one_more (relocates c.args.file.now c.args.section) c.loop-other.other c.loop-other.invariant
    (sym c.relocates.ensures ∙ c.if-relocates.false)
