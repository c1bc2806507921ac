use Rattle.std.proofs.Common.{IfOk, None, sym, subst}
use Rattle.questions.specs.CodeWords.{IsOfFile, found_digits}
use Rattle.questions.proofs.CodeWords.{told_as}
use Rattle.questions.proofs.code_files.digits_in.Goals as goal

pub returns : goal.returns
returns g c =
    subst (λ told. IfOk told (λ found. IsOfFile None (found_digits found))) (sym c.told.ensures)
    (told_as None c.digits_in.result c.digits_in.ensures.digits c.digits_in.ensures.refused)
