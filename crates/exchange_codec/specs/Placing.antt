-- The place of a fault in a message.
use Rattle.std.specs.Prelude.{ℕ, ◌-◌}
use Rattle.exchange_codec.specs.declared.fault.Fault.{Fault}
use Rattle.exchange_codec.specs.declared.fault.ReadError.{ReadError}
use Rattle.exchange_codec.specs.declared.fault.ReadError.TheVariants as errors
use Rattle.exchange_codec.specs.declared.fault.MessageFault.{MessageFault}
use Rattle.exchange_codec.specs.declared.fault.MessageFault.TheVariants as message

-- a fault of a message of `len` bytes
abbrev pub placed : ℕ → Fault → MessageFault
placed len f = message.Field f.what (len - f.left)

abbrev pub told_of : ℕ → ReadError → MessageFault
told_of len errors.Memory = message.OutOfMemory
told_of len (errors.Fault f) = placed len f
