-- Bytes that spell one message, or have one fault, have one answer.
use Rattle.std.proofs.Common.{◌≡◌, ℕ, Result, Ok, Err, sym, ap, subst, ◌∙◌, inl, inr}
use Rattle.std.specs.Prelude.{◌⊎◌, IfOk, IfErr}
use Rattle.refusals.specs.Answers.{HasCause, ReturnsOrRunsOut}

-- the bytes spell at most one message, or have at most one fault
pub record AreExact {M F : Type 0} (Spells : M → Type 0) (IsFault : F → Type 0) : Type 0 where
  pub one : (m n : M) → Spells m → Spells n → m ≡ n
  pub either : (m : M) (f : F) → Spells m → IsFault f → ⊥
  pub one_fault : (f g : F) → IsFault f → IsFault g → f ≡ g

-- ---- the answers of a decoder

module _ {M F : Type 0} (number : F → ℕ) {Spells : M → Type 0} {IsFault : F → Type 0} (exact : AreExact Spells IsFault) where
  is_taken : (r : Result M F) → IfOk r Spells → IfErr r (HasCause number IsFault) → (m : M) → Spells m
      → ReturnsOrRunsOut number r (Ok m)
  is_taken (Ok n) spelled refused m s = inl (ap Ok (exact.one n m spelled s))
  is_taken (Err f) spelled (inl cause) m s = absurd (exact.either m f s cause)
  is_taken (Err f) spelled (inr out) m s = inr out

  is_told : (r : Result M F) → IfOk r Spells → IfErr r (HasCause number IsFault) → (f : F) → IsFault f
      → ReturnsOrRunsOut number r (Err f)
  is_told (Ok m) spelled refused f h = absurd (exact.either m f spelled h)
  is_told (Err g) spelled (inl cause) f h = inl (ap Err (exact.one_fault g f cause h))
  is_told (Err g) spelled (inr out) f h = inr out

  -- an answer with its cause is the only one
  pub answers : (r : Result M F) → IfOk r Spells → IfErr r (HasCause number IsFault) → record {
    spelled : IfOk r Spells;
    taken : (m : M) → Spells m → ReturnsOrRunsOut number r (Ok m);
    refused : IfErr r (HasCause number IsFault);
    told : (f : F) → IsFault f → ReturnsOrRunsOut number r (Err f);
  }
  answers r spelled refused = record {
    spelled = spelled;
    taken = is_taken r spelled refused;
    refused = refused;
    told = is_told r spelled refused;
  }

-- ---- a message by its text

-- bytes are read as a text or a fault: a text is that of one message, or it has one fault
pub record Decides {M T F : Type 0} (read : Result T F) (text : M → T) (Spells : M → Type 0) (IsFault : F → Type 0)
    (IsTextFault : T → F → Type 0) : Type 0 where
  pub reads : (m : M) → Spells m → read ≡ Ok (text m)
  pub cause : (f : F) → IsFault f → (read ≡ Err f) ⊎ ((t : T) × (read ≡ Ok t) × IsTextFault t f)
  pub one : (m n : M) → Spells m → Spells n → text m ≡ text n → m ≡ n
  pub either : (m : M) (f : F) → Spells m → IsTextFault (text m) f → ⊥
  pub one_fault : (t : T) (f g : F) → IsTextFault t f → IsTextFault t g → f ≡ g

module _ {T F : Type 0} where
  abbrev fails : F → Result T F
  fails f = Err f

  abbrev reads : T → Result T F
  reads t = Ok t

  text_is : (t u : T) → reads t ≡ reads u → t ≡ u
  text_is t u e = cc

  fault_is : (f g : F) → fails f ≡ fails g → f ≡ g
  fault_is f g e = cc

  not_both : (t : T) (f : F) → reads t ≡ fails f → ⊥
  not_both t f e = cc

module _ {M T F : Type 0} {read : Result T F} {text : M → T} {Spells : M → Type 0} {IsFault : F → Type 0}
    {IsTextFault : T → F → Type 0} (by : Decides read text Spells IsFault IsTextFault) where
  abbrev Cause : F → Type 0
  Cause f = (read ≡ Err f) ⊎ ((t : T) × (read ≡ Ok t) × IsTextFault t f)

  one : (m n : M) → Spells m → Spells n → m ≡ n
  one m n s r = by.one m n s r (text_is _ _ (sym (by.reads m s) ∙ by.reads n r))

  either : (m : M) (f : F) → Spells m → Cause f → ⊥
  either m f s (inl h) = not_both _ _ (sym (by.reads m s) ∙ h)
  either m f s (inr h) =
      by.either m f s (subst (λ (t : T). IsTextFault t f) (text_is _ _ (sym h.1 ∙ by.reads m s)) h.2)

  one_cause : (f g : F) → Cause f → Cause g → f ≡ g
  one_cause f g (inl p) (inl q) = fault_is f g (sym p ∙ q)
  one_cause f g (inl p) (inr q) = absurd (not_both _ _ (sym q.1 ∙ p))
  one_cause f g (inr p) (inl q) = absurd (not_both _ _ (sym p.1 ∙ q))
  one_cause f g (inr p) (inr q) =
      by.one_fault p.0 f g p.2 (subst (λ (t : T). IsTextFault t g) (text_is _ _ (sym q.1 ∙ p.1)) q.2)

  pub are_exact : AreExact Spells IsFault
  are_exact = record {
    one = one;
    either = λ m f s h. either m f s (by.cause f h);
    one_fault = λ f g p q. one_cause f g (by.cause f p) (by.cause g q);
  }
