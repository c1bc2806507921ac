use Rattle.std.proofs.Common.{◌≡◌, ◌∙◌, List, ℕ, Option, Some, Bor, ap, refl, subst, sym}
use Rattle.std.specs.Prelude.{IsSome, option_map}
use Rattle.code_file.specs.Files.{IsFileCode}
use Rattle.questions.specs.CodeWords.{itself, of_file}
use Rattle.questions.specs.Lines.{by_digits, without}
use Rattle.questions.proofs.replying.reply_to.Goals as goal

some_named : (found : Option (Bor (List ℕ))) (file : Bor (List ℕ)) (named : Option (List ℕ)) → found ≡ Some file
    → option_map (λ file. file.now) found ≡ named → IsSome named
some_named found file named is e =
    subst IsSome e (subst (λ (o : Option (Bor (List ℕ))). IsSome (option_map (λ file. file.now) o)) (sym is) refl)

pub returns-in_default : goal.returns-in_default
returns-in_default g c =
    by_digits c.args.question.now
    (itself (sym c.code_file.ensures ∙ ap (λ (o : Option (Bor (List ℕ))). option_map (λ file. file.now) o) c.in_default.is)
    refl) c.reply_by_digits.ensures

pub returns-in-Ok-Ok : goal.returns-in-Ok-Ok
returns-in-Ok-Ok g c =
    let found = rw c.in-Ok-Ok.field-0-is at c.in-Ok-Ok.ensures in
    by_digits c.with_code-asked.result
    (of_file found.0 c.as_str.result (some_named c.code_file.result c.in-Some.file _ c.in-Some.is c.code_file.ensures)
    (subst (IsFileCode found.0) (sym c.as_str.ensures.value) found.1) c.with_code-asked.ensures)
    c.reply_by_digits-in-Ok-Ok.ensures

pub returns-in-Ok-Err : goal.returns-in-Ok-Err
returns-in-Ok-Err g c =
    without c.in-Ok-Err.said (some_named c.code_file.result c.in-Some.file _ c.in-Some.is c.code_file.ensures)
    (rw c.in-Ok-Err.field-0-is at c.in-Ok-Err.ensures) c.reply_tersely.ensures
