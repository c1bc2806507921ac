-- The result of an upload follows from the reading of its bytes and from the store.
use Rattle.std.proofs.Common.{◌≡◌, ℕ, cond, Some, None, Result, Ok, Err, IfOk, IfErr, OnOk, List, refl, ap, sym, subst, ◌∙◌, inl, inr, arith}
use Rattle.std.specs.FinMap as map
use Rattle.std.specs.Result.{IsErr, IsErrAnd}
use Rattle.std.specs.Ordering.{is_eq}
use Rattle.std.specs.Cmp.{tied_itself}
use Rattle.refusals.specs.Answers.{out_of_memory, HasCause, RanOut, ReturnsOrRunsOut}
use Rattle.instruction_set.specs.declared.insn.Insn.{Insn}
use Rattle.instruction_set.specs.Machine.{IsSafe}
use Rattle.insn_codec.specs.declared.fault.CodecFault.{CodecFault}
use Rattle.insn_codec.specs.Encoding.{Spells}
use Rattle.insn_codec.specs.Faults.{IsFirstFault}
use Rattle.verifier.specs.declared.refusal.VerifyFault.TheVariants as verify
use Rattle.verifier.specs.Programs.{program_fault_number, IsAccepted, IsProgramFault}
use Rattle.verifier.specs.declared.program_fault.ProgramFault.{ProgramFault}
use Rattle.verifier.specs.declared.program_fault.ProgramFault.TheVariants.{Codec, Verify}
use Rattle.clash_record.specs.declared.registrations.ProgramId.{ProgramId}
use Rattle.clash_record.specs.laws.Orders.{ids_total}
use Rattle.upload_store.specs.declared.fault.UploadFault.{UploadFault}
use Rattle.upload_store.specs.declared.fault.UploadFault.TheVariants.{Program, DigestClash, StoreFull, OutOfMemory}
use Rattle.upload_store.specs.declared.store.Uploaded.{Uploaded}
use Rattle.upload_store.specs.Faults.{upload_fault_number}
use Rattle.upload_store.specs.Programs.{Programs, id_of}
use Rattle.upload_store.specs.Uploads.{uploaded_as, IsUploaded, IsUploadFault, Fits, Clashes, Overflows, HasPlace, IsRejection, IsUnaccepted}
use Rattle.upload_store.specs.model.Keeping.{IsKeepingFault}

-- a fault that `?` converts
pub converted : {A F : Type 0} (r : Result A F) (x : F) → IsErr r × IsErrAnd r (λ y. y ≡ x) → r ≡ Err x
converted (Err y) x h = ap Err h.1
converted (Ok a) x h = let e = h.0 in absurd (cc)

-- ---- bytes that aren't read as a program, by this fault

module _ (store : Programs) (bytes : List ℕ) (fault : ProgramFault) (r : Result Uploaded UploadFault)
    (passed : IsErr r × IsErrAnd r (λ y. y ≡ Program fault)) where
  refused_so : r ≡ Err (Program fault)
  refused_so = converted r (Program fault) passed

  ran_out : program_fault_number fault ≡ out_of_memory → RanOut upload_fault_number r
  ran_out out = subst (RanOut upload_fault_number) (sym refused_so) out

  pub unread_refused : HasCause program_fault_number (IsProgramFault bytes) fault
      → IfErr r (HasCause upload_fault_number (IsUploadFault store bytes))
  unread_refused h =
      subst (λ x. IfErr x (HasCause upload_fault_number (IsUploadFault store bytes))) (sym refused_so) h

  -- accepted code is refused only when out of memory
  pub unread_accepted : ((code : List Insn) → IsAccepted bytes code
      → ReturnsOrRunsOut program_fault_number (Err fault) (Ok code))
      → (code : List Insn) → IsAccepted bytes code
      → {due : Result Uploaded UploadFault} → ReturnsOrRunsOut upload_fault_number r due
  unread_accepted taken code accepted = by (taken code accepted)
    where
      by : {due : Result Uploaded UploadFault} → ReturnsOrRunsOut program_fault_number (Err fault) (Ok code)
          → ReturnsOrRunsOut upload_fault_number r due
      by (inl e) = absurd (cc)
      by (inr out) = inr (ran_out out)

  pub unread_told : ((code : List Insn) → IsAccepted bytes code
      → ReturnsOrRunsOut program_fault_number (Err fault) (Ok code))
      → ((other : ProgramFault) → IsProgramFault bytes other
      → ReturnsOrRunsOut {A = List Insn} program_fault_number (Err fault) (Err other))
      → (due : UploadFault) → IsUploadFault store bytes due → ReturnsOrRunsOut upload_fault_number r (Err due)
  unread_told taken told (Program other) h = by (told other h)
    where
      by : ReturnsOrRunsOut {A = List Insn} program_fault_number (Err fault) (Err other)
          → ReturnsOrRunsOut upload_fault_number r (Err (Program other))
      by (inl e) = let one : fault ≡ other = cc in inl (refused_so ∙ ap (λ f. Err (Program f)) one)
      by (inr out) = inr (ran_out out)
  unread_told taken told DigestClash h = unread_accepted taken h.code h.accepted
  unread_told taken told StoreFull h = unread_accepted taken h.code h.accepted
  unread_told taken told OutOfMemory h = absurd h

  -- bytes that spell code have no fault of the codec
  pub unread_rejected : ((code : List Insn) (f : CodecFault) → Spells bytes code → IsFirstFault bytes f → ⊥)
      → HasCause program_fault_number (IsProgramFault bytes) fault → IsUnaccepted bytes → IsRejection r
  unread_rejected either h u = by fault h refused_so
    where
      by : (f : ProgramFault) → HasCause program_fault_number (IsProgramFault bytes) f → r ≡ Err (Program f)
          → IsRejection r
      by f (inr out) is = inr (subst (RanOut upload_fault_number) (sym is) out)
      by (Codec f) (inl h) is = absurd (either u.code f u.spelled h)
      by (Verify (verify.Refused refusal)) (inl h) is = inl (refusal, is)
      by (Verify verify.OutOfMemory) (inl h) is = absurd h

-- ---- accepted code with the id of its bytes

module _ (store : Programs) (bytes : List ℕ) (code : List Insn) (id : ProgramId)
    (accepted : IsAccepted bytes code) (named : id ≡ id_of bytes) where
  -- the kept code is that of the bytes
  pub kept_from : IsSafe code → (after : Programs) (r : Result Uploaded UploadFault)
      → IfOk r (λ uploaded. uploaded ≡ uploaded_as id code)
      → OnOk r (HasPlace store id code) → OnOk r (after ≡ map.insert store id code)
      → IfOk r (λ uploaded. IsUploaded store bytes uploaded after)
  kept_from safe after (Ok uploaded) same place kept =
      subst (λ (u : Uploaded). IsUploaded store bytes u after) (sym same) (record {
        kept = record {
          code = code;
          accepted = accepted;
          safe = safe;
          named = named;
          place = place;
          inserted = kept;
          found =
              ap (λ m. map.get m id) kept ∙ map.get-insert ids_total store id code id
              ∙ ap (λ b. cond b (Some code) (map.get store id)) (ap is_eq (tied_itself ids_total id));
        };
        counted = refl;
      })
  kept_from safe after (Err fault) same place kept = tt

  -- the cause why the code isn't kept is one of the bytes
  pub refused_from : (r : Result Uploaded UploadFault)
      → IfErr r (HasCause upload_fault_number (IsKeepingFault store id code))
      → IfErr r (HasCause upload_fault_number (IsUploadFault store bytes))
  refused_from (Ok uploaded) h = tt
  refused_from (Err f) (inr out) = inr out
  refused_from (Err (Program f)) (inl h) = absurd h
  refused_from (Err DigestClash) (inl h) = inl (record {
    code = code;
    accepted = accepted;
    other = h.0;
    held = ap (map.get store) (sym named) ∙ h.1;
    differs = h.2;
  })
  refused_from (Err StoreFull) (inl h) = inl (record {
    code = code;
    accepted = accepted;
    fresh = ap (map.get store) (sym named) ∙ h.0;
    full = h.1;
  })
  refused_from (Err OutOfMemory) (inl h) = absurd h

  -- exactly one of three holds: the code has a place, other code has its id, or the store is full
  place_or_clash : HasPlace store id code → IsKeepingFault store id code DigestClash → ⊥
  place_or_clash (inl held) clash = let there : Some code ≡ Some clash.0 = sym held ∙ clash.1 in clash.2 (cc)
  place_or_clash (inr room) clash = let there : None ≡ Some clash.0 = sym room.0 ∙ clash.1 in absurd (cc)

  place_or_full : HasPlace store id code → IsKeepingFault store id code StoreFull → ⊥
  place_or_full (inl held) full = let there : Some code ≡ None = sym held ∙ full.0 in absurd (cc)
  place_or_full (inr room) full = let less = room.1 in absurd (omega (arith, less, full.1))

  clash_or_full : IsKeepingFault store id code DigestClash → IsKeepingFault store id code StoreFull → ⊥
  clash_or_full clash full = let there : None ≡ Some clash.0 = sym full.0 ∙ clash.1 in absurd (cc)

  module _ (taken : (other : List Insn) → IsAccepted bytes other
      → ReturnsOrRunsOut program_fault_number (Ok code) (Ok other)) where
    -- the bytes spell no other accepted code
    one_code : (other : List Insn) → IsAccepted bytes other → code ≡ other
    one_code other h = by (taken other h)
      where
        by : ReturnsOrRunsOut program_fault_number (Ok code) (Ok other) → code ≡ other
        by (inl e) = cc
        by (inr out) = absurd out

    place_of : Fits store bytes → HasPlace store id code
    place_of h =
        subst (HasPlace store id) (sym (one_code h.code h.accepted))
        (subst (λ (i : ProgramId). HasPlace store i h.code) (sym named) h.place)

    clash_of : Clashes store bytes → IsKeepingFault store id code DigestClash
    clash_of h = (h.other, ap (map.get store) named ∙ h.held, λ e. h.differs (e ∙ one_code h.code h.accepted))

    full_of : Overflows store bytes → IsKeepingFault store id code StoreFull
    full_of h = (ap (map.get store) named ∙ h.fresh, h.full)

    pub accepted_taken : (r : Result Uploaded UploadFault) → IfOk r (λ uploaded. uploaded ≡ uploaded_as id code)
        → IfErr r (HasCause upload_fault_number (IsKeepingFault store id code))
        → (fits : Fits store bytes)
        → ReturnsOrRunsOut upload_fault_number r (Ok (uploaded_as (id_of bytes) fits.code))
    accepted_taken (Ok uploaded) same refused h =
        inl (ap Ok (same ∙ (λ t. uploaded_as (named t) (one_code h.code h.accepted t))))
    accepted_taken (Err f) same (inr out) h = inr out
    accepted_taken (Err (Program f)) same (inl refused) h = absurd refused
    accepted_taken (Err DigestClash) same (inl refused) h = absurd (place_or_clash (place_of h) refused)
    accepted_taken (Err StoreFull) same (inl refused) h = absurd (place_or_full (place_of h) refused)
    accepted_taken (Err OutOfMemory) same (inl refused) h = absurd refused

    pub accepted_told : ((fault : ProgramFault) → IsProgramFault bytes fault
        → ReturnsOrRunsOut program_fault_number (Ok code) (Err fault))
        → (r : Result Uploaded UploadFault) → OnOk r (HasPlace store id code)
        → IfErr r (HasCause upload_fault_number (IsKeepingFault store id code))
        → (due : UploadFault) → IsUploadFault store bytes due → ReturnsOrRunsOut upload_fault_number r (Err due)
    accepted_told told r place refused (Program fault) h = absurd (by (told fault h))
      where
        by : ReturnsOrRunsOut program_fault_number (Ok code) (Err fault) → ⊥
        by (inl e) = absurd (cc)
        by (inr out) = out
    accepted_told told r place refused OutOfMemory h = absurd h
    accepted_told told (Ok uploaded) place refused DigestClash h = absurd (place_or_clash place (clash_of h))
    accepted_told told (Ok uploaded) place refused StoreFull h = absurd (place_or_full place (full_of h))
    accepted_told told (Err f) place (inr out) due h = inr out
    accepted_told told (Err (Program f)) place (inl refused) due h = absurd refused
    accepted_told told (Err DigestClash) place (inl refused) DigestClash h = inl refl
    accepted_told told (Err DigestClash) place (inl refused) StoreFull h = absurd (clash_or_full refused (full_of h))
    accepted_told told (Err StoreFull) place (inl refused) DigestClash h = absurd (clash_or_full (clash_of h) refused)
    accepted_told told (Err StoreFull) place (inl refused) StoreFull h = inl refl
    accepted_told told (Err OutOfMemory) place (inl refused) due h = absurd refused

  -- the bytes spell no other code
  pub accepted_rejected : ((a b : List Insn) → Spells bytes a → Spells bytes b → a ≡ b)
      → (r : Result Uploaded UploadFault) → IsUnaccepted bytes → IsRejection r
  accepted_rejected one r u =
      absurd (u.unaccepted (subst (IsAccepted bytes) (one code u.code accepted.spelled u.spelled) accepted))

-- ---- uploads without the number of instructions

-- the same fault in place of the id
module _ (fault : UploadFault) (r : Result ProgramId UploadFault) (passed : r ≡ Err fault) where
  pub fault_passed : {due : Result Uploaded UploadFault} {other : Result ProgramId UploadFault}
      → (Err fault ≡ due → Err fault ≡ other) → ReturnsOrRunsOut upload_fault_number (Err fault) due
      → ReturnsOrRunsOut upload_fault_number r other
  fault_passed same (inl e) = inl (passed ∙ same e)
  fault_passed same (inr out) = inr (subst (RanOut upload_fault_number) (sym passed) out)

  pub rejection_passed : IsRejection {A = Uploaded} (Err fault) → IsRejection r
  rejection_passed (inl h) =
      let same : fault ≡ Program (Verify (verify.Refused h.0)) = let e = h.1 in cc in
      inl (h.0, passed ∙ ap Err same)
  rejection_passed (inr out) = inr (subst (RanOut upload_fault_number) (sym passed) out)

pub id_passed : (uploaded : Uploaded) (due : Uploaded) → ReturnsOrRunsOut upload_fault_number (Ok uploaded) (Ok due)
    → ReturnsOrRunsOut upload_fault_number (Ok uploaded.id) (Ok due.id)
id_passed uploaded due (inl e) = let same : uploaded ≡ due = cc in inl (ap (λ u. Ok u.id) same)
id_passed uploaded due (inr out) = absurd out

pub no_fault : {A : Type 0} (uploaded : Uploaded) (fault : UploadFault)
    → ReturnsOrRunsOut upload_fault_number (Ok uploaded) (Err fault) → A
no_fault uploaded fault (inl e) = absurd (cc)
no_fault uploaded fault (inr out) = absurd out

pub no_rejection : {A : Type 0} (uploaded : Uploaded) → IsRejection (Ok uploaded) → A
no_rejection uploaded (inl h) = let e = h.1 in absurd (cc)
no_rejection uploaded (inr out) = absurd out
