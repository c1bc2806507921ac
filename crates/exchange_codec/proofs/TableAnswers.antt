-- The answers of `decode_table`.
use Rattle.std.proofs.Common.{◌≡◌, ℕ, List, length, Result, Ok, Err, refl, sym, ap, subst, ◌∙◌, inl, inr}
use Rattle.std.specs.Prelude.{◌⊎◌, IfOk, IfErr}
use Rattle.refusals.specs.Answers.{HasCause}
use Rattle.partition_table.specs.Tables.{Table}
use Rattle.exchange_codec.specs.declared.fault.ReadError.{ReadError}
use Rattle.exchange_codec.specs.declared.fault.ReadError.TheVariants as errors
use Rattle.exchange_codec.specs.declared.fault.MessageFault.{MessageFault}
use Rattle.exchange_codec.specs.declared.fault.MessageFault.TheVariants as message
use Rattle.exchange_codec.specs.Faults.{message_fault_number}
use Rattle.exchange_codec.specs.Placing.{told_of}
use Rattle.exchange_codec.specs.Reading.{Fails, due}
use Rattle.exchange_codec.specs.Rows.{RowText}
use Rattle.exchange_codec.specs.Tables.{table_bytes, table_text, whole_rows, IsTableText, SpellsTable, IsTableFault}
use Rattle.exchange_codec.specs.model.Building.{IsBuiltOf, IsRowsFault}
use Rattle.exchange_codec.specs.laws.Decoding.{AreExact, Decides, are_exact}
use Rattle.exchange_codec.specs.laws.Fields.{IsBytes}
use Rattle.exchange_codec.specs.laws.Programs.{Readings}
use Rattle.exchange_codec.specs.laws.Tables.{rows_spelled, rows_read}
use Rattle.exchange_codec.proofs.OneOffer.{same_table}
use Rattle.exchange_codec.proofs.OneFault.{no_rows_fault, one_rows_fault}

spelled_rows : (bytes : List ℕ) (t : Table) → SpellsTable bytes t → whole_rows bytes ≡ Ok (table_text t)
spelled_rows bytes t s = ap whole_rows s.spelling ∙ rows_read (table_text t) s.is_text

abbrev read_of : List ℕ → Result (List RowText) MessageFault
read_of bytes = due (length bytes) (whole_rows bytes)

cause : (bytes : List ℕ) (f : MessageFault) → IsTableFault bytes f
    → (read_of bytes ≡ Err f) ⊎ ((rows : List RowText) × (read_of bytes ≡ Ok rows) × IsRowsFault rows f)
cause bytes (message.Field what at) h = inl (ap (due (length bytes)) h.1 ∙ ap (λ (k : ℕ). Err (message.Field what k)) (sym h.2))
cause bytes (message.Item fault at) h = inr (h.0, ap (due (length bytes)) h.1, h.2)
cause bytes message.OutOfMemory h = absurd h

-- bytes spell one table, or have one fault
pub tables : Readings → (bytes : List ℕ) → AreExact (SpellsTable bytes) (IsTableFault bytes)
tables known bytes =
    let by : Decides (read_of bytes) table_text (SpellsTable bytes) (IsTableFault bytes) IsRowsFault = record {
      reads = λ t s. ap (due (length bytes)) (spelled_rows bytes t s);
      cause = cause bytes;
      one = λ s t p q same. same_table known s t p.kept q.kept same;
      either = λ t f s h. no_rows_fault known t s.kept f h;
      one_fault = one_rows_fault known;
    } in
    are_exact by

-- what is built of the rows
pub is_spelled : (bytes : List ℕ) (rows : List RowText) (r : Result Table MessageFault) → IsBytes bytes
    → whole_rows bytes ≡ Ok rows → IsBuiltOf rows r → IfOk r (SpellsTable bytes)
is_spelled bytes rows (Ok t) fits e built =
    let spelled = rows_spelled bytes rows fits e in
    record {
      is_text = subst IsTableText built.0 spelled.0;
      kept = built.1;
      spelling = spelled.1 ∙ ap table_bytes built.0;
    }
is_spelled bytes rows (Err f) fits e built = tt

pub is_refused : (bytes : List ℕ) (rows : List RowText) (r : Result Table MessageFault) → whole_rows bytes ≡ Ok rows
    → IsBuiltOf rows r → IfErr r (HasCause message_fault_number (IsTableFault bytes))
is_refused bytes rows (Ok t) e built = tt
is_refused bytes rows (Err (message.Item fault at)) e (inl cause) = inl (rows, e, cause)
is_refused bytes rows (Err (message.Field what at)) e (inl cause) = absurd cause
is_refused bytes rows (Err message.OutOfMemory) e (inl cause) = absurd cause
is_refused bytes rows (Err f) e (inr out) = inr out

-- the answer to bytes with a fault in a field
pub is_failed : (bytes : List ℕ) (e : ReadError) → Fails e (whole_rows bytes)
    → HasCause message_fault_number (IsTableFault bytes) (told_of (length bytes) e)
is_failed bytes errors.Memory h = inr refl
is_failed bytes (errors.Fault f) h = inl (f.left, h, refl)
