-- The verifier's states before the instructions of decoded code.
use Rattle.std.proofs.Common.{◌≡◌, ℕ, Bool, true, false, List, [], Option, Some, None, refl}
use Rattle.std.specs.Prelude.{unwrap_or}
use Rattle.refusals.specs.declared.NumberedRefusal.{NumberedRefusal}
use Rattle.abstract_value.specs.Domain.{Ops}
use Rattle.instruction_set.specs.declared.insn.Insn.{Insn}
use Rattle.questions.specs.Details.{IsCodeDetails, IsProgramDetails, of_code, no_code}
use Rattle.questions.specs.declared.failures.Failure.{Failure}
use Rattle.questions.specs.declared.failures.Failure.TheVariants.{Refused, OutOfMemory}
use Rattle.questions.specs.Refusals.{OnRefusal}
use Rattle.questions.specs.Judging.{IsCodeText, IsCodeTextFault}

pub decoded : {D : Type 0} (o : Ops D) (digits : List ℕ) (whole : Bool) (slot : Option ℕ) (text : List ℕ)
    (code : List Insn) → (whole ≡ false → slot ≡ None → ⊥) → IsCodeText digits code
    → IsCodeDetails o code whole (unwrap_or slot 0) text → IsProgramDetails o digits whole slot text
decoded o digits true slot text code some is h = of_code code is h
decoded o digits false (Some slot) text code some is h = of_code code is h
decoded o digits false None text code some is h = absurd (some refl refl)

pub undecoded : {D : Type 0} (o : Ops D) (digits : List ℕ) (whole : Bool) (slot : Option ℕ) (text : List ℕ)
    (f : Failure) (r : NumberedRefusal) → (whole ≡ false → slot ≡ None → ⊥) → f ≡ Refused r
    → OnRefusal (IsCodeTextFault digits) f → text ≡ [] → IsProgramDetails o digits whole slot text
undecoded o digits true slot text (Refused q) r some same is e = no_code q is e
undecoded o digits false (Some slot) text (Refused q) r some same is e = no_code q is e
undecoded o digits false None text (Refused q) r some same is e = absurd (some refl refl)
undecoded o digits whole slot text OutOfMemory r some same is e = absurd (cc)

pub ruleset decodings = (decoded, undecoded)
