-- The offsets of an address that the verifier follows: -65,536 to 65,536.
use Rattle.std.specs.Prelude.{ℤ, pos, negsuc}

abbrev pub least_offset : ℤ
least_offset = negsuc 65535

abbrev pub greatest_offset : ℤ
greatest_offset = pos 65536
