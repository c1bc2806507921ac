-- The answers of `decode_entry`.
use Rattle.std.proofs.Common.{◌≡◌, ℕ, List, ◌<◌, ◌≤◌, Result, Ok, Err, refl, sym, ap, subst, ◌∙◌, inl, inr}
use Rattle.std.specs.Prelude.{IfOk, IfErr}
use Rattle.std.specs.List.{flat_map}
use Rattle.refusals.specs.Answers.{HasCause}
use Rattle.instruction_set.specs.declared.insn.Insn.{Insn}
use Rattle.insn_codec.specs.Encoding.{insn_bytes}
use Rattle.verifier.specs.declared.program_fault.ProgramFault.{ProgramFault}
use Rattle.verifier.specs.Programs.{IsAccepted, IsProgramFault}
use Rattle.upload_store.specs.Programs.{IsProgram, id_of}
use Rattle.upload_store.specs.Programs as store
use Rattle.clash_record.specs.declared.registrations.ProgramId.{ProgramId}
use Rattle.partition_table.specs.declared.limit.NameLimit.{NameLimit}
use Rattle.partition_table.specs.Tables.{most_names}
use Rattle.std.proofs.Math.Bridge.{le_prop}
use mathlib.Core.HLevel.{is_prop→PathP}
use Rattle.exchange_codec.specs.declared.fault.ItemFault.TheVariants as item
use Rattle.exchange_codec.specs.declared.fault.MessageFault.TheVariants as message
use Rattle.exchange_codec.specs.laws.Decoding.{AreExact, Decides, are_exact}
use Rattle.exchange_codec.specs.laws.Fields.{IsBytes}
use Rattle.exchange_codec.specs.laws.Programs.{Readings}
use Rattle.replica.specs.declared.edit.Edit.{Edit}
use Rattle.replica.specs.declared.edit.Edit.TheVariants.{Register, Unregister, Upload, Limit, Begin}
use Rattle.replica.specs.declared.messages.Entry.{Entry}
use Rattle.replica_codec.specs.declared.fault.ReplicaMessageFault.{ReplicaMessageFault}
use Rattle.replica_codec.specs.declared.fault.ReplicaMessageFault.TheVariants.{Message}
use Rattle.replica_codec.specs.Faults.{replica_message_fault_number}
use Rattle.replica_codec.specs.Building.{IsEntryOf}
use Rattle.replica_codec.specs.Frames.{entry_header, frame_bytes}
use Rattle.replica_codec.specs.Entries.{EntryText, Uploads, edit_text, entry_text, entry_bytes, IsEntryText, IsKeptEdit, SpellsEntry, IsTextFault, IsEntryFault, entry_from}
use Rattle.replica_codec.proofs.EntryLaws.{entry_spelled, entry_read}

-- ---- one edit of a text

-- limits of one number are one
same_limit : (a b : NameLimit) → a.names ≡ b.names → a ≡ b
same_limit a b e i = record {
  names = e i;
  some = is_prop→PathP (λ j. 0 < e j) (λ j. le_prop) a.some b.some i;
  few = is_prop→PathP (λ j. e j ≤ most_names) (λ j. le_prop) a.few b.few i;
}

module _ (known : Readings) where
  same_upload : (u v : store.Upload) → IsProgram u.id u.code → IsProgram v.id v.code
      → flat_map insn_bytes u.code ≡ flat_map insn_bytes v.code → u ≡ v
  same_upload u v one other same =
      let id : u.id ≡ v.id =
      one.named ∙ ap id_of (one.spelled.spelling ∙ same ∙ sym other.spelled.spelling) ∙ sym other.named in
      let code : u.code ≡ v.code = known.one_code (flat_map insn_bytes u.code) u.code v.code
      (record { is_code = one.spelled.is_code; spelling = refl })
      (record { is_code = other.spelled.is_code; spelling = same }) in
      ap (λ (x : ProgramId). record { id = x; code = u.code }) id
      ∙ ap (λ (x : List Insn). record { id = v.id; code = x }) code

  same_edit : (e f : Edit) → IsKeptEdit e → IsKeptEdit f → edit_text e ≡ edit_text f → e ≡ f
  same_edit (Register n r) (Register m s) p q same = cc
  same_edit (Unregister n) (Unregister m) p q same = cc
  same_edit (Upload u) (Upload v) p q same =
      let code : flat_map insn_bytes u.code ≡ flat_map insn_bytes v.code = cc in
      ap Upload (same_upload u v p q code)
  same_edit (Limit a) (Limit b) p q same =
      let names : a.names ≡ b.names = cc in
      ap Limit (same_limit a b names)
  same_edit (Begin n) (Begin m) p q same = cc
  same_edit (Register n r) (Unregister m) p q same = absurd cc
  same_edit (Register n r) (Upload v) p q same = absurd cc
  same_edit (Register n r) (Limit b) p q same = absurd cc
  same_edit (Register n r) (Begin m) p q same = absurd cc
  same_edit (Unregister n) (Register m s) p q same = absurd cc
  same_edit (Unregister n) (Upload v) p q same = absurd cc
  same_edit (Unregister n) (Limit b) p q same = absurd cc
  same_edit (Unregister n) (Begin m) p q same = absurd cc
  same_edit (Upload u) (Register m s) p q same = absurd cc
  same_edit (Upload u) (Unregister m) p q same = absurd cc
  same_edit (Upload u) (Limit b) p q same = absurd cc
  same_edit (Upload u) (Begin m) p q same = absurd cc
  same_edit (Limit a) (Register m s) p q same = absurd cc
  same_edit (Limit a) (Unregister m) p q same = absurd cc
  same_edit (Limit a) (Upload v) p q same = absurd cc
  same_edit (Limit a) (Begin m) p q same = absurd cc
  same_edit (Begin n) (Register m s) p q same = absurd cc
  same_edit (Begin n) (Unregister m) p q same = absurd cc
  same_edit (Begin n) (Upload v) p q same = absurd cc
  same_edit (Begin n) (Limit b) p q same = absurd cc

-- ---- entries

spelled_text : (bytes : List ℕ) (e : Entry) → SpellsEntry bytes e → entry_from bytes ≡ Ok (entry_text e)
spelled_text bytes e s = ap entry_from s.spelling ∙ entry_read (entry_text e) s.is_text

same_entry : (e f : Entry) → e.at ≡ f.at → e.edit ≡ f.edit → e ≡ f
same_entry e f at edit i = record { at = at i; edit = edit i }

uploads : (x y : List ℕ) → Uploads x ≡ Uploads y → x ≡ y
uploads x y e = cc

module _ (known : Readings) where
  -- an accepted upload has no fault
  no_code_fault : (d : Edit) → IsKeptEdit d → (code : List ℕ) (g : ProgramFault) → edit_text d ≡ Uploads code
      → IsProgramFault code g → ⊥
  no_code_fault (Upload u) kept code g is bad =
      let whole : kept.bytes ≡ code = kept.spelled.spelling ∙ cc in
      known.accepted code u.code g (subst (λ (b : List ℕ). IsAccepted b u.code) whole kept.accepted) bad
  no_code_fault (Register n r) kept code g is bad = absurd cc
  no_code_fault (Unregister n) kept code g is bad = absurd cc
  no_code_fault (Limit l) kept code g is bad = absurd cc
  no_code_fault (Begin n) kept code g is bad = absurd cc

  one_text_fault : (t : EntryText) (f g : ReplicaMessageFault) → IsTextFault t f → IsTextFault t g → f ≡ g
  one_text_fault t f g p q =
      let code : q.0 ≡ p.0 = uploads _ _ (sym q.2 ∙ p.2) in
      let same = known.one_fault p.0 p.1 q.1 p.4 (subst (λ (b : List ℕ). IsProgramFault b q.1) code q.4) in
      p.3 ∙ ap (λ (x : ProgramFault). Message (message.Item (item.Program x) 0)) same ∙ sym q.3

  -- bytes spell one entry, or have one fault
  pub entries : (bytes : List ℕ) → AreExact (SpellsEntry bytes) (IsEntryFault bytes)
  entries bytes =
      let by : Decides (entry_from bytes) entry_text (SpellsEntry bytes) (IsEntryFault bytes) IsTextFault = record {
        reads = spelled_text bytes;
        cause = λ f h. h;
        one = λ e f s r same. same_entry e f (ap (λ (t : EntryText). t.at) same)
            (same_edit known e.edit f.edit s.kept r.kept (ap (λ (t : EntryText). t.edit) same));
        either = λ e f s h. no_code_fault e.edit s.kept h.0 h.1 h.2 h.4;
        one_fault = one_text_fault;
      } in
      are_exact by

-- the entry that is built of the text
pub is_spelled : (bytes : List ℕ) (t : EntryText) (r : Result Entry ReplicaMessageFault) → IsBytes bytes
    → entry_from bytes ≡ Ok t → IfOk r (IsEntryOf t) → IfOk r (SpellsEntry bytes)
is_spelled bytes t (Ok e) fits read h =
    let spelled = entry_spelled bytes t fits read in
    record {
      is_text = subst IsEntryText h.told spelled.0;
      kept = h.kept;
      spelling = spelled.1 ∙ ap (λ (x : EntryText). frame_bytes entry_header (entry_bytes x)) h.told;
    }
is_spelled bytes t (Err f) fits read h = tt

pub is_refused : (bytes : List ℕ) (t : EntryText) (r : Result Entry ReplicaMessageFault) → entry_from bytes ≡ Ok t
    → IfErr r (HasCause replica_message_fault_number (IsTextFault t))
    → IfErr r (HasCause replica_message_fault_number (IsEntryFault bytes))
is_refused bytes t (Ok e) read h = tt
is_refused bytes t (Err f) read (inl cause) = inl (inr (t, read, cause))
is_refused bytes t (Err f) read (inr out) = inr out

-- the fault of a field
pub read_fault : (bytes : List ℕ) (f : ReplicaMessageFault) → entry_from bytes ≡ Err f
    → HasCause replica_message_fault_number (IsEntryFault bytes) f
read_fault bytes f h = inl (inl h)
