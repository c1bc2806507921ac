-- The numbers of what is wrong with the words of a command.
use Rattle.std.specs.Prelude.{ℕ}
use Rattle.scripts.specs.declared.fault.WordFault.{WordFault}
use Rattle.scripts.specs.declared.fault.WordFault.TheVariants.{NoResolver, Label, OutOfMemory}

abbrev pub word_fault_number : WordFault → ℕ
word_fault_number NoResolver = 41
word_fault_number Label = 53
word_fault_number OutOfMemory = 90
