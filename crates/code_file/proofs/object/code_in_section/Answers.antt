use Rattle.std.proofs.Common.{◌∙◌, sym}
use Rattle.code_file.proofs.Sections.{none_moved, none_without}
use Rattle.code_file.proofs.object.code_in_section.Goals as goal

pub returns-then-not-has_bytes-clause-none : goal.returns-then-not-has_bytes-clause-none
returns-then-not-has_bytes-clause-none c = λ code.
    none_without c.args.file.now code c.args.section c.requires.text (sym c.has_bytes.ensures ∙ c.if-not-has_bytes.true)

pub returns-then-not-is_still-clause-none : goal.returns-then-not-is_still-clause-none
returns-then-not-is_still-clause-none c = λ code.
    none_moved c.args.file.now code c.args.section c.requires.text (c.is_still.ensures.moved c.if-not-is_still.true)

pub returns-clause-code : goal.returns-clause-code
returns-clause-code c = record {
  object = c.requires.object;
  section = c.args.section;
  text = c.requires.text;
  bytes = sym c.has_bytes.ensures ∙ c.if-not-has_bytes.false;
  still = c.is_still.ensures.still c.if-not-is_still.false;
  code_is = c.content.ensures;
}
