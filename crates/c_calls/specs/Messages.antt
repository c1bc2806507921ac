-- Copies of messages.
use Rattle.std.specs.Prelude.{ℕ, ◌==◌, if◌then◌else◌, List, length, Result, Ok, Err}

-- the message for a buffer of its length, or 93
abbrev pub copy_of : List ℕ → ℕ → Result (List ℕ) ℕ
copy_of message room = if length message == room then Ok message else Err 93
