-- The answers of `decode_offer`.
use Rattle.std.proofs.Common.{◌≡◌, ℕ, List, length, Result, Ok, Err, refl, sym, ap, subst, ◌∙◌, inl, inr}
use Rattle.std.specs.Prelude.{◌⊎◌, IfOk, IfErr}
use Rattle.refusals.specs.Answers.{HasCause}
use Rattle.exchange_law.specs.Sides.{Offer}
use Rattle.exchange_codec.specs.declared.fault.ReadError.{ReadError}
use Rattle.exchange_codec.specs.declared.fault.ReadError.TheVariants as errors
use Rattle.exchange_codec.specs.declared.fault.MessageFault.{MessageFault}
use Rattle.exchange_codec.specs.declared.fault.MessageFault.TheVariants as message
use Rattle.exchange_codec.specs.Faults.{message_fault_number}
use Rattle.exchange_codec.specs.Placing.{told_of}
use Rattle.exchange_codec.specs.Reading.{Fails, due}
use Rattle.exchange_codec.specs.Offers.{OfferText, head_of, offer_text, offer_bytes, whole_offer, IsText, SpellsOffer, IsOfferFault}
use Rattle.exchange_codec.specs.model.Building.{IsOfferOf, IsRowsFault}
use Rattle.exchange_codec.specs.laws.Decoding.{AreExact, Decides, are_exact}
use Rattle.exchange_codec.specs.laws.Fields.{IsBytes}
use Rattle.exchange_codec.proofs.OfferLaws.{text_spelled, text_read}
use Rattle.exchange_codec.specs.laws.Programs.{Readings}
use Rattle.exchange_codec.proofs.OneOffer.{same_table}
use Rattle.exchange_codec.proofs.OneFault.{no_rows_fault, one_rows_fault}

spelled_text : (bytes : List ℕ) (o : Offer) → SpellsOffer bytes o → whole_offer bytes ≡ Ok (offer_text o)
spelled_text bytes o s = ap whole_offer s.spelling ∙ text_read (offer_text o) s.is_text

abbrev read_of : List ℕ → Result OfferText MessageFault
read_of bytes = due (length bytes) (whole_offer bytes)

cause : (bytes : List ℕ) (f : MessageFault) → IsOfferFault bytes f
    → (read_of bytes ≡ Err f) ⊎ ((text : OfferText) × (read_of bytes ≡ Ok text) × IsRowsFault text.rows f)
cause bytes (message.Field what at) h = inl (ap (due (length bytes)) h.1 ∙ ap (λ (k : ℕ). Err (message.Field what k)) (sym h.2))
cause bytes (message.Item fault at) h = inr (h.0, ap (due (length bytes)) h.1, h.2)
cause bytes message.OutOfMemory h = absurd h

-- bytes spell one offer, or have one fault
pub offers : Readings → (bytes : List ℕ) → AreExact (SpellsOffer bytes) (IsOfferFault bytes)
offers known bytes =
    let by : Decides (read_of bytes) offer_text (SpellsOffer bytes) (IsOfferFault bytes) (λ text. IsRowsFault text.rows) = record {
      reads = λ o s. ap (due (length bytes)) (spelled_text bytes o s);
      cause = cause bytes;
      one = λ o p s r same. same_offer o p (ap (λ (t : OfferText). t.head) same)
          (same_table known o.table p.table s.kept r.kept (ap (λ (t : OfferText). t.rows) same));
      either = λ o f s h. no_rows_fault known o.table s.kept f h;
      one_fault = λ text f g p q. one_rows_fault known text.rows f g p q;
    } in
    are_exact by
  where
    same_offer : (o p : Offer) → head_of o ≡ head_of p → o.table ≡ p.table → o ≡ p
    same_offer o p head table i = record {
      side = (head i).side;
      number = (head i).number;
      seed = (head i).seed;
      uptime = (head i).uptime;
      table = table i;
    }

-- the answer of the side that rebuilds the text
pub is_spelled : (bytes : List ℕ) (text : OfferText) (r : Result Offer MessageFault) → IsBytes bytes
    → whole_offer bytes ≡ Ok text → IfOk r (IsOfferOf text) → IfOk r (SpellsOffer bytes)
is_spelled bytes text (Ok o) fits e h =
    let spelled = text_spelled bytes text fits e in
    record {
      is_text = subst IsText h.told spelled.0;
      kept = h.kept;
      spelling = spelled.1 ∙ ap offer_bytes h.told;
    }
is_spelled bytes text (Err f) fits e h = tt

pub is_refused : (bytes : List ℕ) (text : OfferText) (r : Result Offer MessageFault) → whole_offer bytes ≡ Ok text
    → IfErr r (HasCause message_fault_number (IsRowsFault text.rows))
    → IfErr r (HasCause message_fault_number (IsOfferFault bytes))
is_refused bytes text (Ok o) e h = tt
is_refused bytes text (Err (message.Item fault at)) e (inl cause) = inl (text, e, cause)
is_refused bytes text (Err (message.Field what at)) e (inl cause) = absurd cause
is_refused bytes text (Err message.OutOfMemory) e (inl cause) = absurd cause
is_refused bytes text (Err f) e (inr out) = inr out

-- the answer to bytes with a fault in a field
pub is_failed : (bytes : List ℕ) (e : ReadError) → Fails e (whole_offer bytes)
    → HasCause message_fault_number (IsOfferFault bytes) (told_of (length bytes) e)
is_failed bytes errors.Memory h = inr refl
is_failed bytes (errors.Fault f) h = inl (f.left, h, refl)
