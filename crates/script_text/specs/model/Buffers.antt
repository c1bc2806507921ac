-- The layout of buffers.
use Rattle.std.specs.Prelude.{◌<◌, ◌≤◌, vec_len, vec_capacity}
use Rattle.script_text.specs.declared.input.ReadBuffer.TheInside as read
use Rattle.script_text.specs.declared.input.LineBuffer.TheInside as line
use Rattle.script_text.specs.Lines.{line_limit}

-- the unused bytes are in the buffer, which has room
pub record IsWithin (buffer : read.Inside) : Type 0 where
  pub ordered : buffer.start ≤ buffer.end
  pub within : buffer.end ≤ vec_len buffer.bytes
  pub room : 0 < vec_len buffer.bytes

-- the buffer has room for a line
pub record HasRoom (buffer : line.Inside) : Type 0 where
  pub within : vec_len buffer.bytes ≤ line_limit
  pub room : line_limit ≤ vec_capacity buffer.bytes
