-- Beginnings of a text that goes on.
use Rattle.std.proofs.Common.{◌≡◌, ℕ, ◌+◌, List, ◌++◌, length, take, drop, Option, Result, Ok, Err, OnOk, sym, ap, ◌∙◌, subst, append_assoc, take-append-drop}
use Rattle.std.proofs.Math.Seq.{take-append_seam, take-append-add, take-length}
use Rattle.std.specs.Io.KnownBytes.{Appends, Keeps}
use Rattle.std.proofs.KnownBytes.{Appends-kept, Appends-trans}
use Rattle.device.specs.Sending.{AppendsFront, Sends}

still_front : (sent : ℕ) (text more : List ℕ) → take (length (take sent text)) (text ++ more) ≡ take sent text
still_front sent text more =
    ap (λ whole. take (length (take sent text)) (whole ++ more)) (sym (take-append-drop sent text))
    ∙ ap (take (length (take sent text))) (append_assoc (take sent text) (drop sent text) more)
    ∙ take-append_seam (take sent text) (drop sent text ++ more)

-- a beginning of a text is one of the longer text
pub front_longer : (a b : Option (List ℕ)) (text more : List ℕ) → AppendsFront a b text
    → AppendsFront a b (text ++ more)
front_longer a b text more h =
    (length (take h.0 text), subst (λ front. Appends a b front) (sym (still_front h.0 text more)) h.1)

-- a beginning of the second text, after the first
front_after : (a b c : Option (List ℕ)) (text more : List ℕ)
    → Appends a b text → AppendsFront b c more → AppendsFront a c (text ++ more)
front_after a b c text more appended h = (
  length text + h.0,
  subst (λ front. Appends a c front) (sym (take-append-add text more h.0))
      (Appends-trans a b c text (take h.0 more) appended h.1),
)

-- a text was sent, and then another
pub sends_after : {A E : Type 0} (a b c : Option (List ℕ)) (text more : List ℕ) (result : Result A E)
    → Appends a b text → OnOk result (Appends b c more) → AppendsFront b c more → Sends a c (text ++ more) result
sends_after a b c text more (Ok x) appended all front = Appends-trans a b c text more appended all
sends_after a b c text more (Err e) appended all front = front_after a b c text more appended front

-- a whole text is a beginning of it, and is kept where nothing more is written
pub whole_front : (a b c : Option (List ℕ)) (text : List ℕ) → Appends a b text → Keeps b c → AppendsFront a c text
whole_front a b c text h k =
    (length text, subst (λ t. Appends a c t) (sym (take-length text)) (Appends-kept a b c text h k))
