-- Calls whose refusals come also when out of memory.
use Rattle.std.proofs.Common.{inl}
use Rattle.std.specs.Prelude.{ℕ, Result, Ok, Err}
use Rattle.c_calls.specs.Answers.{GivesDueFirst, GivesDueOrRunsOut}

-- such a call returns its refusal or runs out of memory
pub or_runs_out : {X : Type 0} (r : Result X ℕ) (D : X → Type 0) (S : Type 0) (n : ℕ) → GivesDueFirst r D S n
    → GivesDueOrRunsOut r D S n
or_runs_out (Ok x) D S n h = h
or_runs_out (Err m) D S n h = (inl h.0, h.1)
