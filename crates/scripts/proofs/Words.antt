-- Words and labels.
use Rattle.std.proofs.Common.{◌≡◌, ℕ, List, Option, None, ap, sym, ◌∙◌}
use Rattle.std.specs.Option.{option_map}
use Rattle.std.specs.List.{find}
use Rattle.clash_record.specs.declared.registrations.ProgramId.{ProgramId}
use Rattle.clash_record.specs.declared.registrations.ResolverId.TheVariants.{Program}
use Rattle.clash_record.specs.Texts.{builtin_of}
use Rattle.scripts.specs.declared.labels.Label.{Label}
use Rattle.scripts.specs.Machines.{labelled, or_label, resolver_named, shown_resolver, is_program, label_text}

pub by_label : (labels : List Label) (word : List ℕ) (found : Option Label)
    → builtin_of word ≡ None → found ≡ find (labelled word) labels
    → resolver_named labels word ≡ option_map (λ label. Program label.program) found
by_label labels word found e f = ap (λ b. or_label b (find (labelled word) labels)) e ∙ ap (or_label None) (sym f)

pub first_text : (labels : List Label) (program : ProgramId) (found : Option Label)
    → found ≡ find (is_program program) labels
    → shown_resolver labels (Program program) ≡ label_text found
first_text labels program found f = ap label_text (sym f)
