-- Code that was judged for shorter contexts.
use Rattle.std.specs.Prelude.{ℕ, ◌≤◌, List, length, take}
use Rattle.instruction_set.specs.declared.insn.Insn.{Insn}
use Rattle.instruction_set.specs.Machine.{EndsFor, record_len}

-- on a context and on its front as a shorter one, code ends with the same value in the same number of steps, at every placement
pub record EndsAlikeFor (short long : ℕ) (code : List Insn) (bytes : List ℕ) : Type 0 where
  pub value : ℕ
  pub steps : ℕ
  pub few : steps ≤ length code
  pub shorter : EndsFor short code (take short bytes) value steps
  pub longer : EndsFor long code bytes value steps

-- ---- for the record of a clash

-- bytes of the shorter record, which told nothing of the halves
abbrev pub shorter_len : ℕ
shorter_len = 128

abbrev pub EndsAlike : List Insn → List ℕ → Type 0
EndsAlike = EndsAlikeFor shorter_len record_len
