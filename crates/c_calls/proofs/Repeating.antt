-- Messages after the first of their kind and number.
use Rattle.std.proofs.Common.{◌≡◌, Bool, true, false, ℕ, inl, inr, sym, true≢false}
use Rattle.refusals.specs.Answers.{out_of_memory}
use Rattle.c_calls.specs.Halves.{SideAndStore}
use Rattle.c_calls.specs.Exchanges.{UnlessOther}
use Rattle.c_calls.specs.Sides.{Stays}

pub other : (b : Bool) (old new : SideAndStore) (n : ℕ) (X : Type 0) → true ≡ b → n ≡ 83 → Stays old new → UnlessOther b old new n X
other true old new n X is e stays = (inl e, stays)
other false old new n X is e stays = absurd (true≢false is)

pub same : (b : Bool) (old new : SideAndStore) (n : ℕ) (X : Type 0) → false ≡ b → X → UnlessOther b old new n X
same true old new n X is x = absurd (true≢false (sym is))
same false old new n X is x = x

-- every call may run out of memory
pub spent_other : (b : Bool) (old new : SideAndStore) (n : ℕ) (X : Type 0) → n ≡ out_of_memory → Stays old new → X → UnlessOther b old new n X
spent_other true old new n X e stays x = (inr e, stays)
spent_other false old new n X e stays x = x
