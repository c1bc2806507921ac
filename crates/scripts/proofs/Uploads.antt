-- The reply to an upload, and its effect.
use Rattle.std.specs.Prelude.{MatchOption, if◌then◌else◌}
use Rattle.std.proofs.Common.{◌≡◌, inl, inr, ℕ, Bool, true, false, List, [], Option, Some, None, refl, sym, ap, subst, ◌∙◌}
use Rattle.refusals.specs.Answers.{HasCause}
use Rattle.hex.specs.Hex.{IsBytes, encode_lower}
use Rattle.hex.proofs.HexLemmas.{decode_of-encode_lower}
use Rattle.std.specs.Option.{unwrap_or}
use Rattle.code_file.specs.Files.{HasFileCode, IsFileCode, IsNoFileCode, OfBytes, file_named, faulty, unread, starved, file_fault_number, file_fault_place}
use Rattle.code_file.specs.declared.fault.FileFault.{FileFault}
use Rattle.upload_store.specs.Uploads.{IsUploadFault}
use Rattle.upload_store.specs.Faults.{upload_fault_number, upload_fault_place}
use Rattle.upload_store.specs.declared.fault.UploadFault.{UploadFault}
use Rattle.upload_store.specs.laws.Places.{no_place}
use Rattle.scripts.specs.declared.reply.Reply.{Reply}
use Rattle.scripts.specs.declared.reply.Reply.TheVariants.{Refused}
use Rattle.scripts.specs.Machines.{ScriptMachine}
use Rattle.scripts.specs.Steps.{UnlessMemory, UploadStep, UploadsBytes, UploadsFile, UploadsWord, RefusesFile, is_free, by_digits, no_file_code, no_file}

pub upload_refused : (old new : ScriptMachine) (word bytes : List ℕ) (fault : UploadFault) (reply : Reply)
    → HasCause upload_fault_number (IsUploadFault old.programs bytes) fault
    → reply ≡ Refused (record { number = upload_fault_number fault; place = upload_fault_place fault })
    → new ≡ old → UnlessMemory (UploadsBytes old word bytes) old reply new
upload_refused old new word bytes fault reply (inl cause) said same =
    inl (inr (record { fault = fault; cause = cause; refused = (said, same) }))
upload_refused old new word bytes fault reply (inr memory) said same =
    let place = no_place fault memory in
    inr (said ∙ (λ i. Refused (record { number = memory i; place = place i })), same)

-- ---- files

-- the label is free, since a name was found for it
pub free_if : (free : Bool) (word label : List ℕ) (found : Option (List ℕ)) → found ≡ (if free then Some word else None)
    → found ≡ Some label → (free ≡ true) × (label ≡ word)
free_if true word label found e is = (refl, ap (λ name. unwrap_or name []) (sym is ∙ e))
free_if false word label found e is = absurd (cc)

-- a file is uploaded as its digits are
pub file_uploaded : (old new : ScriptMachine) (label code : List ℕ) (reply : Reply) → is_free old.labels label ≡ true
    → IsBytes code → OfBytes None (λ content. HasFileCode content code)
    → UnlessMemory (UploadsBytes old label code) old reply new → UnlessMemory (UploadsFile old label) old reply new
file_uploaded old new label code reply free bytes h (inl uploads) =
    let digits = encode_lower code in
    let decoded = decode_of-encode_lower code bytes in
    let step : UploadStep old label digits reply new = rw (free, decoded) uploads in
    let of_file : IsFileCode h.0 digits =
    record { few = h.1.few; code = code; is_code = h.1.is_code; digits_are = refl } in
    inl (by_digits h.0 digits of_file step)
file_uploaded old new label code reply free bytes h (inr memory) = inr memory

-- a file has no code, or can't be read
pub file_refused : (old new : ScriptMachine) (label : List ℕ) (fault : FileFault) (reply : Reply)
    → is_free old.labels label ≡ true → IsNoFileCode None fault
    → reply ≡ Refused (record { number = file_fault_number fault; place = file_fault_place fault })
    → new ≡ old → UnlessMemory (UploadsFile old label) old reply new
file_refused old new label fault reply free (faulty h) said same = inl (no_file_code h.0 fault free h.1 (said, same))
file_refused old new label fault reply free (unread e) said same =
    inl (no_file free (subst (λ f. RefusesFile f old reply new) e (said, same)))
file_refused old new label fault reply free (starved e) said same =
    inr (said ∙ ap (λ n. Refused (record { number = n; place = None })) e, same)

-- a word that names a file
pub file_for_word : (old new : ScriptMachine) (label word file : List ℕ) (reply : Reply) → file_named word ≡ Some file
    → UnlessMemory (UploadsFile old label) old reply new → UnlessMemory (UploadsWord old label word) old reply new
file_for_word old new label word file reply e (inl h) =
    inl (subst (λ named. MatchOption named (UploadStep old label word reply new)
    (λ (file : List ℕ). UploadsFile old label reply new)) (sym e) h)
file_for_word old new label word file reply e (inr memory) = inr memory
