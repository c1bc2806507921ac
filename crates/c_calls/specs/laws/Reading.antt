-- Calls that read bytes, by the results of reading.
use Rattle.std.proofs.Common.{◌≡◌, ◌⊎◌, ℕ, inl, inr, sym, subst, ◌∙◌}
use Rattle.std.specs.Prelude.{List, Result, Ok, Err, IfOk, IfErr, IsOkAnd}
use Rattle.refusals.specs.Answers.{HasCause, ReturnsOrRunsOut, out_of_memory}
use Rattle.c_calls.specs.Answers.{GivesDueOrRunsOut, Rejects, TakesBytes}

-- a value that was read is taken
pub taken : {V F : Type 0} (Spells : V → Type 0) (IsFault : F → Type 0) (number : F → ℕ) (takes : V → Type 0) (stays : Type 0) (n : ℕ)
    (r : Result V F) (value : V) → r ≡ Ok value → IfOk r Spells
    → ((v : V) → Spells v → ReturnsOrRunsOut number r (Ok v)) → ((f : F) → IsFault f → ReturnsOrRunsOut number r (Err f))
    → takes value → TakesBytes V F Spells IsFault number takes stays n
taken Spells IsFault number takes stays n (Err f) value e spelled given told took = absurd (cc)
taken {V} {F} Spells IsFault number takes stays n (Ok made) value e spelled given told took =
    let equal : made ≡ value = cc in
    record {
      answer = inl (value, subst Spells equal spelled, took);
      taken = λ v spells. subst takes (sym (the_one v (given v spells) equal)) took;
      reported = λ fault is. absurd (no_fault fault (told fault is));
    }
  where
    the_one : (v : V) → ReturnsOrRunsOut number (Ok made) (Ok v) → made ≡ value → v ≡ value
    the_one v (inl same) equal = let one : made ≡ v = cc in cc
    the_one v (inr out) equal = absurd out

    no_fault : (fault : F) → ReturnsOrRunsOut number (Ok made) (Err fault) → ⊥
    no_fault fault (inl wrong) = cc
    no_fault fault (inr out) = out

-- bytes with a fault, or for which memory runs out
pub rejected : {V F : Type 0} (Spells : V → Type 0) (IsFault : F → Type 0) (number : F → ℕ) (takes : V → Type 0) (stays : Type 0) (n : ℕ)
    (r : Result V F) (fault : F) → r ≡ Err fault → ((v : V) → Spells v → ReturnsOrRunsOut number r (Ok v))
    → IfErr r (HasCause number IsFault) → ((f : F) → IsFault f → ReturnsOrRunsOut number r (Err f)) → n ≡ number fault → stays
    → ((v : V) → n ≡ out_of_memory → takes v) → TakesBytes V F Spells IsFault number takes stays n
rejected Spells IsFault number takes stays n (Ok v) fault e given refused told is same spent = absurd (cc)
rejected {V} {F} Spells IsFault number takes stays n (Err f) fault e given refused told is same spent = record {
  answer = by refused;
  taken = λ v spells. untaken v (given v spells);
  reported = λ m cause. rejects m (told m cause);
}
  where
    number_is : n ≡ number f
    number_is = cc

    by : HasCause number IsFault f
        → ((v : V) × Spells v × takes v) ⊎ ((m : F) × IsFault m × Rejects number m stays n) ⊎ ((n ≡ out_of_memory) × stays)
    by (inl cause) = inr (inl (f, cause, (inl number_is, same)))
    by (inr out) = inr (inr (number_is ∙ out, same))

    untaken : (v : V) → ReturnsOrRunsOut number (Err f) (Ok v) → takes v
    untaken v (inl wrong) = absurd (cc)
    untaken v (inr out) = spent v (number_is ∙ out)

    rejects : (m : F) → ReturnsOrRunsOut {A = V} number (Err f) (Err m) → Rejects number m stays n
    rejects m (inl again) = let equal : n ≡ number m = cc in (inl equal, same)
    rejects m (inr out) = (inr (number_is ∙ out), same)

-- every call may run out of memory
pub spent : {V F : Type 0} (Spells : V → Type 0) (IsFault : F → Type 0) (number : F → ℕ) (takes : V → Type 0) (stays : Type 0) (n : ℕ)
    → n ≡ out_of_memory → stays → ((v : V) → takes v) → TakesBytes V F Spells IsFault number takes stays n
spent Spells IsFault number takes stays n e same any = record {
  answer = inr (inr (e, same));
  taken = λ v spells. any v;
  reported = λ m cause. (inr e, same);
}

pub spent_answer : {X : Type 0} (due : Result X ℕ) (done : X → Type 0) (stays : Type 0) (n : ℕ) → n ≡ out_of_memory → stays
    → GivesDueOrRunsOut due done stays n
spent_answer (Ok x) done stays n e s = inr (e, s)
spent_answer (Err m) done stays n e s = (inr e, s)

-- what holds of bytes that were spelled holds of the message that has them
pub boxed_spelled : {V E : Type 0} (items : V → List ℕ) (P : List ℕ → Type 0) (spelled : Result V E) (message : List ℕ)
    → IsOkAnd spelled (λ bytes. message ≡ items bytes) → IfOk spelled (λ bytes. P (items bytes)) → P message
boxed_spelled items P (Ok v) message e spells = rw e spells
boxed_spelled items P (Err f) message e spells = absurd e
