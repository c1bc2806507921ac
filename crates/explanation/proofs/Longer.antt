-- A text of one more register, or of one more byte.
use Rattle.std.proofs.Common.{◌≡◌, ℕ, suc, ◌+◌, ◌++◌, [], Bool, refl, ap, arith}
use Rattle.abstract_value.specs.Domain.{Ops}
use Rattle.abstract_value.specs.declared.states.RegState.{RegState}
use Rattle.explanation.specs.StateTexts.{byte_text, held_text, registers_text, written_text}

more : (n : ℕ) → n + 1 ≡ suc n
more n = omega arith

pub registers_more : {D : Type 0} (o : Ops D) (registers : ℕ → RegState D) (n : ℕ)
    → registers_text o registers (n + 1) ≡ registers_text o registers n ++ held_text o n (registers n)
registers_more o registers n = rw (more n) refl

pub written_more : (written : ℕ → Bool) (n : ℕ)
    → written_text written (n + 1) ≡ written_text written n ++ byte_text written n
unfolding written_text
written_more written n = ap (written_text written) (more n)

pub written_none : (written : ℕ → Bool) → written_text written 0 ≡ []
unfolding written_text
written_none written = refl

pub ruleset longer = (registers_more, written_more, written_none)
