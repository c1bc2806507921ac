-- The request that the code found in a line.
use Rattle.std.specs.Prelude.{◌≡◌, ◌⊎◌, Option, Result, Ok, Err}
use Rattle.std.specs.Option.{option_map}
use Rattle.script_text.specs.declared.command.Command.{Command}
use Rattle.script_text.specs.declared.command.Command.TheVariants as code
use Rattle.script_text.specs.declared.fault.LineFault.{LineFault}
use Rattle.script_text.specs.declared.fault.LineFault.TheVariants.{OutOfMemory}
use Rattle.script_text.specs.Asking.{Asked, Upload, Register, Unregister, Whereis, Show, Heal}

abbrev pub asked : Command → Asked
asked (code.Upload label hex) = Upload label.now hex.now
asked (code.Register side name terms resolver) = Register side name terms resolver.now
asked (code.Unregister side name) = Unregister side name
asked (code.Whereis side name) = Whereis side name
asked (code.Show side) = Show side
asked (code.Heal seed uptimes gone) = Heal seed uptimes gone.items

-- the answer is this, or memory ran out
abbrev pub IsRight : {A : Type 0} → Result A LineFault → Result A LineFault → Type 0
IsRight (Ok x) due = due ≡ Ok x
IsRight (Err fault) due = (due ≡ Err fault) ⊎ (fault ≡ OutOfMemory)

abbrev pub right_command : Result Command LineFault → Result Asked LineFault
right_command (Ok command) = Ok (asked command)
right_command (Err fault) = Err fault

abbrev pub right_option : Result (Option Command) LineFault → Result (Option Asked) LineFault
right_option (Ok command) = Ok (option_map asked command)
right_option (Err fault) = Err fault
