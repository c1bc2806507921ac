-- The numbers of what is wrong with a line.
use Rattle.std.specs.Prelude.{ℕ}
use Rattle.script_text.specs.declared.fault.LineFault.{LineFault}
use Rattle.script_text.specs.declared.fault.LineFault.TheVariants.{NoName, HexText, Word, Number, OutOfMemory}

abbrev pub script_fault_number : LineFault → ℕ
script_fault_number NoName = 44
script_fault_number HexText = 50
script_fault_number Word = 51
script_fault_number Number = 52
script_fault_number OutOfMemory = 90
