-- The mnemonics and their spellings.
use Rattle.std.specs.Prelude.{ℕ, Option, List, map}
use Rattle.instruction_set.specs.declared.insn.Size.TheVariants.{Double}
use Rattle.instruction_set.specs.Operations.{IsMovSxBits, IsEndBits}
use Rattle.assembler_text.specs.declared.mnemonic.Mnemonic.{Mnemonic}
use Rattle.assembler_text.specs.declared.mnemonic.Mnemonic.TheVariants.{MovSx, End, LoadSx}
use Rattle.assembler_text.specs.declared.mnemonic.TheConstants.{NAMES}
use Rattle.assembler_text.specs.model.Words.{lookup}

-- the standard has an operation of these bits, or of this size
abbrev pub IsKnown : Mnemonic → Type 0
IsKnown (MovSx width bits) = IsMovSxBits width bits
IsKnown (End kind bits) = IsEndBits bits
IsKnown (LoadSx Double) = ⊥
IsKnown _ = Unit {0}

-- the mnemonic that is spelled so
unfoldable pub mnemonic_at : List ℕ → Option Mnemonic
mnemonic_at word = lookup (map (λ e. (e.0.now, e.1)) NAMES) word
