-- Uploads, by the results of the calls that they wrap.
use Rattle.std.proofs.Common.{◌≡◌, ◌⊎◌, inl, inr, refl, ap, sym, subst}
use Rattle.std.specs.Prelude.{ℕ, List, Result, Ok, Err, IfOk, IfErr, OnErr}
use Rattle.refusals.specs.Answers.{HasCause, ReturnsOrRunsOut, out_of_memory}
use Rattle.clash_record.specs.declared.registrations.ProgramId.{ProgramId}
use Rattle.upload_store.specs.declared.fault.UploadFault.{UploadFault}
use Rattle.upload_store.specs.Faults.{upload_fault_number, upload_fault_place}
use Rattle.upload_store.specs.Programs.{Programs, id_of}
use Rattle.upload_store.specs.Uploads.{Fits, IsKept, IsUploadFault}
use Rattle.c_calls.specs.Answers.{IsNumbered, IsOutOfMemory, returned_number, returned_slot, refusal_slot}
use Rattle.c_calls.specs.Halves.{SideAndStore}
use Rattle.exchange_core.specs.declared.side.Side.{Side}
use Rattle.c_calls.specs.laws.Loads.{no_slot}
use Rattle.c_calls.specs.Sides as side

-- ---- uploads

upload_ran_out : (f : UploadFault) → upload_fault_number f ≡ out_of_memory
    → IsOutOfMemory (upload_fault_number f) (refusal_slot (upload_fault_number f) (upload_fault_place f))
upload_ran_out f e = (e, no_slot (upload_fault_number f) (upload_fault_place f) e)

module _ (f : UploadFault) where
  abbrev m : ℕ
  m = upload_fault_number f

  abbrev at : ℕ
  at = refusal_slot m (upload_fault_place f)

  returned : {A : Type 0} (due r : Result A UploadFault) → r ≡ Err f → ReturnsOrRunsOut upload_fault_number r due
      → (due ≡ Err f) ⊎ IsOutOfMemory m at
  returned due (Ok x) e told = absurd (cc)
  returned due (Err g) e (inl same) = inl (cc)
  returned due (Err g) e (inr out) = let equal : g ≡ f = cc in inr (upload_ran_out f (subst (λ (h : UploadFault). upload_fault_number h ≡ out_of_memory) equal out))

  upload_numbered : (fault : UploadFault) (r : Result ProgramId UploadFault) → r ≡ Err fault → (r ≡ Err f) ⊎ IsOutOfMemory m at
      → IsNumbered (upload_fault_number fault) (upload_fault_place fault) m at ⊎ IsOutOfMemory m at
  upload_numbered fault r e (inl same) = let equal : fault ≡ f = cc in inl (ap upload_fault_number (sym equal), ap (λ (h : UploadFault). refusal_slot (upload_fault_number h) (upload_fault_place h)) (sym equal))
  upload_numbered fault r e (inr out) = inr out

abbrev put : Side → Programs → SideAndStore
put side store = record { side = side; store = store }

-- a refused upload
upload_refused : (bytes : List ℕ) (old : SideAndStore) (after : Programs) (id : List ℕ) (r : Result ProgramId UploadFault) (f : UploadFault) → r ≡ Err f
    → OnErr r (after ≡ old.store)
    → IfErr r (HasCause upload_fault_number (IsUploadFault old.store bytes))
    → (Fits old.store bytes → ReturnsOrRunsOut upload_fault_number r (Ok (id_of bytes)))
    → ((fault : UploadFault) → IsUploadFault old.store bytes fault → ReturnsOrRunsOut upload_fault_number r (Err fault))
    → side.IsUpload bytes old (record { side = old.side; store = after }) id id (upload_fault_number f) (refusal_slot (upload_fault_number f) (upload_fault_place f))
upload_refused bytes old after id r f e unchanged refused taken told =
    let same : after ≡ old.store = subst (λ (x : Result ProgramId UploadFault). OnErr x (after ≡ old.store)) e unchanged in
    let stays : side.AllStays old (record { side = old.side; store = after }) id id = (ap (λ (s : Programs). put old.side s) same, refl) in
    let cause : HasCause upload_fault_number (IsUploadFault old.store bytes) f = subst (λ (x : Result ProgramId UploadFault). IfErr x (HasCause upload_fault_number (IsUploadFault old.store bytes))) e refused in
    record {
      answer = inr (refusal_of cause, stays);
      taken = λ fits. inr (no_return (Ok (id_of bytes)) refl (returned f (Ok (id_of bytes)) r e (taken fits)), stays);
      reported = λ fault is. (upload_numbered f fault (Err fault) refl (returned f (Err fault) r e (told fault is)), stays);
    }
  where
    refusal_of : HasCause upload_fault_number (IsUploadFault old.store bytes) f
        → ((fault : UploadFault) × IsUploadFault old.store bytes fault × IsNumbered (upload_fault_number fault) (upload_fault_place fault) (m f) (at f)) ⊎ IsOutOfMemory (m f) (at f)
    refusal_of (inl is) = inl (f, is, (refl, refl))
    refusal_of (inr out) = inr (upload_ran_out f out)

    no_return : (due : Result ProgramId UploadFault) → due ≡ Ok (id_of bytes) → (due ≡ Err f) ⊎ IsOutOfMemory (m f) (at f) → IsOutOfMemory (m f) (at f)
    no_return due e (inl wrong) = absurd (cc)
    no_return due e (inr out) = out

-- an upload that is kept
upload_kept : (bytes : List ℕ) (old : SideAndStore) (after : Programs) (id : List ℕ) (r : Result ProgramId UploadFault) (kept : ProgramId) → r ≡ Ok kept
    → IfOk r (λ id. IsKept old.store bytes id after)
    → ((fault : UploadFault) → IsUploadFault old.store bytes fault → ReturnsOrRunsOut upload_fault_number r (Err fault))
    → side.IsUpload bytes old (record { side = old.side; store = after }) id kept.0 0 0
upload_kept bytes old after id (Err f) kept e is told = absurd (cc)
upload_kept bytes old after id (Ok made) kept e is told =
    let equal : made ≡ kept = cc in
    let keeps : side.KeepsProgram bytes old (record { side = old.side; store = after }) kept.0 0 0 = record {
      kept = subst (λ (x : ProgramId). IsKept old.store bytes x after) equal is;
      side = refl;
      no_refusal = refl;
      no_slot = refl;
    } in
    record { answer = inl keeps; taken = λ _. inl keeps; reported = λ fault due. absurd (no_fault (told fault due)) }
  where
    no_fault : {fault : UploadFault} → ReturnsOrRunsOut upload_fault_number (Ok made) (Err fault) → ⊥
    no_fault (inl wrong) = cc
    no_fault (inr out) = out

-- an upload
pub upload_done : (bytes : List ℕ) (old : SideAndStore) (after : Programs) (id : List ℕ) (r : Result ProgramId UploadFault)
    → IfOk r (λ kept. IsKept old.store bytes kept after)
    → (Fits old.store bytes → ReturnsOrRunsOut upload_fault_number r (Ok (id_of bytes)))
    → IfErr r (HasCause upload_fault_number (IsUploadFault old.store bytes))
    → OnErr r (after ≡ old.store)
    → ((fault : UploadFault) → IsUploadFault old.store bytes fault → ReturnsOrRunsOut upload_fault_number r (Err fault))
    → side.IsUpload bytes old (record { side = old.side; store = after }) id (side.id_in r id) (returned_number upload_fault_number r)
    (returned_slot upload_fault_number upload_fault_place r)
upload_done bytes old after id (Ok kept) is taken refused unchanged told = upload_kept bytes old after id (Ok kept) kept refl is told
upload_done bytes old after id (Err f) is taken refused unchanged told = upload_refused bytes old after id (Err f) f refl unchanged refused taken told
