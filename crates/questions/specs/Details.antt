-- The details of a question's code: the verifier's states, or what a program saw and answered.
use Rattle.std.specs.Prelude.{◌≡◌, ℕ, Bool, true, false, List, [], ◌++◌, codes, Option, Some, None}
use Rattle.std.specs.Fmt.{decimal}
use Rattle.refusals.specs.declared.Place.{Place}
use Rattle.refusals.specs.declared.Place.TheVariants.{Slot}
use Rattle.refusals.specs.declared.NumberedRefusal.{NumberedRefusal}
use Rattle.abstract_value.specs.Boths.{both_ops}
use Rattle.abstract_value.specs.Domain.{Ops}
use Rattle.abstract_value.specs.Ranges.{interval_ops}
use Rattle.instruction_set.specs.declared.insn.Insn.{Insn}
use Rattle.explanation.specs.Listings.{ListsCode, IsTextAt}
use Rattle.verifier.specs.Programs as program
use Rattle.questions.specs.declared.question.Profile.TheVariants.{Unsigned, Both}
use Rattle.questions.specs.declared.question.Question.{Question}
use Rattle.questions.specs.declared.question.Question.TheVariants.{Check, Judge, Asm, Dis}
use Rattle.questions.specs.declared.printing.Answer.{Answer}
use Rattle.questions.specs.declared.printing.Answer.TheVariants.{Refused, Ruled}
use Rattle.questions.specs.declared.question.ClashWords.{ClashWords}
use Rattle.clash_fields.specs.Texts.{record_text}
use Rattle.questions.specs.ClashFields.{IsClash, IsNoClash}
use Rattle.questions.specs.Judging.{IsCodeText, IsCodeTextFault}

abbrev pub place_slot : Option Place → Option ℕ
place_slot (Some (Slot slot)) = Some slot
place_slot place = None

-- the slot that a refusal names, if any
abbrev pub refused_slot : Answer → Option ℕ
refused_slot (Refused r) = place_slot r.place
refused_slot said = None

-- the text of the whole code, or of the instruction at a slot
abbrev pub IsCodeDetails : {D : Type 0} → Ops D → List Insn → Bool → ℕ → List ℕ → Type 0
IsCodeDetails o code true slot text = ListsCode o code code text
IsCodeDetails o code false slot text = IsTextAt o code slot text

-- the text of the code in these digits: of the whole code, or of the instruction at a slot, if any. Digits of no code
-- have none
pub data IsDecoded {D : Type 0} (o : Ops D) (digits : List ℕ) (whole : Bool) (slot : ℕ) (text : List ℕ) : Type 0 where
  of_code : (code : List Insn) → IsCodeText digits code → IsCodeDetails o code whole slot text
      → IsDecoded o digits whole slot text
  no_code : (r : NumberedRefusal) → IsCodeTextFault digits r → text ≡ [] → IsDecoded o digits whole slot text

abbrev pub IsProgramDetails : {D : Type 0} → Ops D → List ℕ → Bool → Option ℕ → List ℕ → Type 0
IsProgramDetails o digits true slot text = IsDecoded o digits true 0 text
IsProgramDetails o digits false (Some slot) text = IsDecoded o digits false slot text
IsProgramDetails o digits false None text = text ≡ []

-- the answer of a program, as `r0 = 2 after 6 steps`
abbrev pub ruling_text : ℕ → ℕ → List ℕ
ruling_text answer steps = codes "r0 = " ++ (decimal answer ++ (codes " after " ++ (decimal steps ++ codes " steps\n")))

-- what a program saw and answered: the record by its fields, and the answer. Words of no record have none
pub data IsSeenClash (clash : ClashWords) (answer steps : ℕ) (text : List ℕ) : Type 0 where
  of_clash : (bytes : List ℕ) → IsClash clash bytes → text ≡ record_text bytes ++ ruling_text answer steps
      → IsSeenClash clash answer steps text
  no_clash : (r : NumberedRefusal) → IsNoClash clash r → text ≡ [] → IsSeenClash clash answer steps text

-- this is printed for a judged clash, if the question requests an explanation
abbrev pub IsSeen : ClashWords → Bool → Answer → List ℕ → Type 0
IsSeen clash true (Ruled verdict answer steps) text = IsSeenClash clash answer steps text
IsSeen clash explain said text = text ≡ []

-- before each instruction if the question is to be explained, else before the one that the answer refuses
abbrev pub IsDetails : Question → Answer → List ℕ → Type 0
IsDetails (Check code Unsigned explain) said text = IsProgramDetails interval_ops code.now explain (refused_slot said) text
IsDetails (Check code Both explain) said text = IsProgramDetails both_ops code.now explain (refused_slot said) text
IsDetails (Judge code clash explain) said text =
    (front rest : List ℕ) × IsProgramDetails program.profile code.now false (refused_slot said) front
    × IsSeen clash explain said rest × (text ≡ front ++ rest)
IsDetails (Asm file) said text = text ≡ []
IsDetails (Dis code) said text = text ≡ []
