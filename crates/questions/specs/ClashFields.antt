-- The record of a clash as it is given: by its bytes, or by its fields.
use Rattle.std.specs.Prelude.{◌≡◌, ℕ, List, None, Result, Ok, Err}
use Rattle.refusals.specs.declared.NumberedRefusal.{NumberedRefusal}
use Rattle.clash_fields.specs.Fields.{clash_from_words}
use Rattle.script_text.specs.declared.fault.LineFault.{LineFault}
use Rattle.script_text.specs.Faults.{script_fault_number}
use Rattle.questions.specs.declared.question.ClashWords.{ClashWords}
use Rattle.questions.specs.declared.question.ClashWords.TheVariants.{Bytes, Fields}
use Rattle.questions.specs.Judging.{IsClashText, IsClashTextFault}
use Rattle.questions.specs.Refusals.{refusal}

-- the record
abbrev pub IsClash : ClashWords → List ℕ → Type 0
IsClash (Bytes digits) clash = IsClashText digits.now clash
IsClash (Fields name first second word) clash = clash_from_words name.now first.now second.now word.now ≡ Ok clash

-- the fields give no record, for this reason
pub record IsClashFieldsFault (clash : Result (List ℕ) LineFault) (r : NumberedRefusal) : Type 0 where
  pub fault : LineFault
  pub is_fault : clash ≡ Err fault
  pub same : r ≡ refusal (script_fault_number fault) None

-- the words give no record, for this reason
abbrev pub IsNoClash : ClashWords → NumberedRefusal → Type 0
IsNoClash (Bytes digits) r = IsClashTextFault digits.now r
IsNoClash (Fields name first second word) r =
    IsClashFieldsFault (clash_from_words name.now first.now second.now word.now) r
