use Rattle.std.proofs.Common.{◌≡◌, ℕ, ◌≤◌, length, take, drop}
use Rattle.std.specs.Io.KnownBytes.{Appends}
use Rattle.device.proofs.sending.send.Given as goal

-- the bytes after those that went out are left
abbrev pub invariant-writes : goal.invariant-writes
invariant-writes g l = (sent : ℕ) × (sent ≤ length l.bytes) × (l.rest ≡ drop sent l.bytes)
    × Appends (g.W.Write.contents l.fn.writer) (g.W.Write.contents l.writer) (take sent l.bytes)
