use Rattle.std.proofs.Common.{IfOk, sym, subst}
use Rattle.questions.specs.CodeWords.{IsOfFile, found_digits}
use Rattle.questions.proofs.CodeWords.{told_as}
use Rattle.questions.proofs.code_files.digits_from.Goals as goal

pub returns : goal.returns
returns g c =
    subst (λ told. IfOk told (λ found. IsOfFile (g.R.Read.remaining c.args.reader) (found_digits found)))
    (sym c.told.ensures)
    (told_as (g.R.Read.remaining c.args.reader) c.digits_from.result c.digits_from.ensures.digits
    c.digits_from.ensures.refused)
