use Rattle.std.proofs.Common.{arith, drop, length-drop}
use Rattle.code_file.proofs.Windows.{all_there, past_end, some_there}
use Rattle.code_file.proofs.object.window.Goals as goal

pub returns-then-at-bytes : goal.returns-then-at-bytes
returns-then-at-bytes c = past_end c.args.size c.args.at c.args.bytes.now (omega arith)

pub returns-then-size-rest : goal.returns-then-size-rest
returns-then-size-rest c =
    let rest = drop c.args.at c.args.bytes.now in
    all_there _ c.args.size rest (omega (arith, length-drop c.args.at c.args.bytes.now))
    (omega (arith, length-drop c.args.at c.args.bytes.now))

pub returns-else-size-rest : goal.returns-else-size-rest
returns-else-size-rest c =
    some_there _ c.args.size (drop c.args.at c.args.bytes.now)
    (omega (arith, length-drop c.args.at c.args.bytes.now))
