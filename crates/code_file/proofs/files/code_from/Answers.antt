use Rattle.code_file.proofs.WholeFiles.{code_read, refusal_read}
use Rattle.code_file.proofs.files.code_from.Goals as goal

pub returns-clause-code : goal.returns-clause-code
returns-clause-code g c =
    code_read (g.R.Read.remaining c.args.reader) c.deref.result.now c.code_of.result
    (rw c.deref.ensures.value c.in_ok-content.ensures) c.code_of.ensures.ok

pub returns-clause-refused : goal.returns-clause-refused
returns-clause-refused g c =
    refusal_read (g.R.Read.remaining c.args.reader) c.deref.result.now c.code_of.result
    (rw c.deref.ensures.value c.in_ok-content.ensures) c.code_of.ensures.err
