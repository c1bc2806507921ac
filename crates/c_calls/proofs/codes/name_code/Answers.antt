use Rattle.std.proofs.Common.{List, ℕ, ◌++◌, length, ap}
use Rattle.std.proofs.lemmas.List.{drop-replicate}
use Rattle.c_calls.specs.declared.codes.HealName.{HealName}
use Rattle.c_calls.proofs.codes.name_code.Goals as goal

-- src/codes.rt:135:1
pub returns : goal.returns
returns c =
    let name = c.args.name.now in
    let coded : List ℕ → HealName = λ rest. record { len = length name; bytes = name ++ rest; reserved = 0 } in
    rw c.copy_from_slice.ensures.after (rw c.bytes-text.ensures.value (ap coded (drop-replicate (length name) 32 0)))
