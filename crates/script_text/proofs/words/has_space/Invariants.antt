use Rattle.std.proofs.Common.{◌≡◌, ◌++◌, ℕ, List, take, false}
use Rattle.script_text.specs.Words.{parts_of}
use Rattle.script_text.specs.model.Parts.{joined}
use Rattle.script_text.proofs.words.has_space.Given as goal

abbrev pub invariant-loop-byte : goal.invariant-loop-byte
invariant-loop-byte l =
    l.found ≡ false → (rest : List ℕ)
    → parts_of (take l.byte-index l.bytes ++ rest) ≡ joined (take l.byte-index l.bytes) (parts_of rest)
