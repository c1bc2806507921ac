use Rattle.std.proofs.Common.{arith}
use Rattle.code_file.proofs.WholeFiles.{no_code_fault}
use Rattle.code_file.proofs.files.code_of.Goals as goal

pub returns-in-Err-clause-err : goal.returns-in-Err-clause-err
returns-in-Err-clause-err c =
    no_code_fault c.args.content.now c.in-Err.fault (omega arith) c.in-Err.ensures.refused
