use Rattle.std.proofs.Common.{◌∙◌, sym, true≢false}
use Rattle.code_file.proofs.object.code_in_object.Goals as goal

pub returns-in-None-clause-none : goal.returns-in-None-clause-none
returns-in-None-clause-none c = λ code h.
    true≢false (sym h.text.named ∙ c.in-None.ensures.none h.section h.text.within)
