use Rattle.std.proofs.Common.{◌∙◌, ◌++◌, ap, codes}
use Rattle.std.specs.Fmt.{decimal}
use Rattle.std.proofs.lemmas.Result.{IfOk-weaker}
use Rattle.abstract_value.specs.Pending.{boxed_view}
use Rattle.assembler_text.specs.Text.{text_of}
use Rattle.explanation.proofs.listing.explain_slot.Goals as goal

pub returns : goal.returns
returns g c =
    IfOk-weaker c.format.result _ _ (λ text h. (
      boxed_view c.in_ok-found.found,
      c.in_ok-found.ensures,
      h ∙ ap (λ front. front ++ (decimal c.args.slot ++ (codes ": " ++ (text_of c.args.insn ++ codes "\n"))))
          c.in_ok-state.ensures,
    )) c.format.ensures.ok
