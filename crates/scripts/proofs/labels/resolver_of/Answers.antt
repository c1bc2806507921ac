use Rattle.std.proofs.Common.{◌≡◌, Some, None, ap, sym, ◌∙◌}
use Rattle.std.specs.Option.{option_map}
use Rattle.clash_record.specs.Texts.{builtin_of}
use Rattle.scripts.proofs.Words.{by_label}
use Rattle.scripts.proofs.labels.resolver_of.Goals as goal

pub returns-in-Some-label_of : goal.returns-in-Some-label_of
returns-in-Some-label_of c =
    let unknown : builtin_of c.args.word.now ≡ None = cc (c.of_word.ensures, c.in_default.is) in
    sym (by_label c.args.labels.now c.args.word.now (Some c.in-Some-label_of.label.now) unknown
    (sym (ap (option_map (λ label. label.now)) c.in-Some-label_of.is) ∙ c.label_of.ensures))

pub returns-in-None : goal.returns-in-None
returns-in-None c =
    let unknown : builtin_of c.args.word.now ≡ None = cc (c.of_word.ensures, c.in_default.is) in
    sym (by_label c.args.labels.now c.args.word.now None unknown
    (sym (ap (option_map (λ label. label.now)) c.in-None.is) ∙ c.label_of.ensures))
