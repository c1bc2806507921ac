use Rattle.std.proofs.Common.{◌∙◌, sym}
use Rattle.code_file.specs.Objects.{is_text}
use Rattle.code_file.proofs.Sections.{one_more}
use Rattle.code_file.proofs.object.text_section.Goals as goal

pub loop-section-preserved : goal.loop-section-preserved
loop-section-preserved c =
    one_more (is_text c.args.file.now) c.loop-section.section c.loop-section.invariant
    (sym c.is_text.ensures ∙ c.if-is_text.false)
