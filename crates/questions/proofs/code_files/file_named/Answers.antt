use Rattle.std.proofs.Common.{arith}
use Rattle.std.proofs.lemmas.Str.Pattern.{strip_prefix_char}
use Rattle.questions.proofs.CodeWords.{named}
use Rattle.questions.proofs.code_files.file_named.Goals as goal

pub returns : goal.returns
returns c =
    named c.args.word.now c.strip_prefix.result
    (strip_prefix_char 64 c.args.word.now c.strip_prefix.result c.strip_prefix.ensures.cases (omega arith))
