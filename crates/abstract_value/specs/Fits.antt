-- The memory that a state takes.
use Rattle.std.specs.Mem.{FitsInMemory}
use denote.RattleType.{RattleType}
use Rattle.abstract_value.specs.contracts.states.State.{the_row}

-- a state over the domain D takes fewer than 2 ^ 63 bytes
abbrev pub StateFitsInMemory : RattleType → Type 0
StateFitsInMemory D = FitsInMemory (the_row D)
