-- The bytes so far end no line, and nothing is buffered after them.
use Rattle.std.proofs.Common.{◌≡◌, ◌<◌, ℕ, List, [], length}
use Rattle.std.specs.Io.KnownBytes.{Consumes}
use Rattle.script_text.specs.Lines.{HasNoEnd, script_line}
use Rattle.script_text.specs.Reading.{left, seen_line}
use Rattle.script_text.proofs.input.next_line.Given as goal

abbrev pub invariant-loop-seen : goal.invariant-loop-seen
invariant-loop-seen g l = (text : List ℕ) × HasNoEnd text × (l.seen ≡ 0 → text ≡ []) × (0 < l.seen → (0 < length text) × (l.buffer ≡ []))
    × (script_line text ≡ seen_line l.is_long l.line)
    × Consumes (left l.fn.buffer (g.R.Read.remaining l.fn.reader)) (left l.buffer (g.R.Read.remaining l.reader)) text
