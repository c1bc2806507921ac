-- The answer for a text, where memory may run out; lines and texts have one reading.
use Rattle.std.proofs.Common.{◌≡◌, ◌∙◌, sym, ℕ, List, Option, Result, Ok, Err, inl, inr, ◌⊎◌}
use Rattle.std.specs.Prelude.{IfOk, IfErr}
use Rattle.refusals.specs.Answers.{HasCause, ReturnsOrRunsOut}
use Rattle.instruction_set.specs.declared.insn.Insn.{Insn}
use Rattle.assembler_text.specs.declared.faults.Fault.{Fault}
use Rattle.assembler_text.specs.declared.faults.LineFault.{LineFault}
use Rattle.assembler_text.specs.Grammar.{lines_of, IsLine, IsTextOf}
use Rattle.assembler_text.specs.Refusals.{IsLineFault, IsFirstTextFault}
use Rattle.assembler_text.specs.Faults.{line_fault_number}
use Rattle.assembler_text.specs.model.Lines.{line_at}
use Rattle.assembler_text.specs.model.Texts.{code_of}
use Rattle.assembler_text.proofs.Results.{either_way, one_ok, one_err, not_both}
use Rattle.assembler_text.proofs.Lines.{line_is, line_reads, line_fault, line_told}
use Rattle.assembler_text.proofs.TextOutcomes.{text_is, fault_is}
use Rattle.assembler_text.proofs.TextReadings.{text_reads, first_told}

-- ---- the answer

pub answer_is : (r : Result (List Insn) LineFault) (text : List ℕ)
    → ReturnsOrRunsOut line_fault_number r (code_of (lines_of text)) → IfOk r (IsTextOf text)
answer_is (Ok code) text (inl same) = text_is text code (sym same)
answer_is (Ok code) text (inr out) = absurd out
answer_is (Err f) text h = tt

pub refusal_is : (r : Result (List Insn) LineFault) (text : List ℕ)
    → ReturnsOrRunsOut line_fault_number r (code_of (lines_of text))
    → IfErr r (HasCause line_fault_number (IsFirstTextFault text))
refusal_is (Ok code) text h = tt
refusal_is (Err f) text (inl same) = inl (fault_is text f (sym same))
refusal_is (Err f) text (inr out) = inr out

pub code_answered : (r : Result (List Insn) LineFault) (text : List ℕ)
    → ReturnsOrRunsOut line_fault_number r (code_of (lines_of text))
    → (code : List Insn) → IsTextOf text code → ReturnsOrRunsOut line_fault_number r (Ok code)
code_answered r text (inl same) code g = inl (same ∙ text_reads text code g)
code_answered r text (inr out) code g = inr out

pub fault_answered : (r : Result (List Insn) LineFault) (text : List ℕ)
    → ReturnsOrRunsOut line_fault_number r (code_of (lines_of text))
    → (f : LineFault) → IsFirstTextFault text f → ReturnsOrRunsOut line_fault_number r (Err f)
fault_answered r text (inl same) f g = inl (same ∙ first_told text f g)
fault_answered r text (inr out) f g = inr out

-- ---- one way to read a line

pub some_line : (line : List ℕ) → ((o : Option Insn) × IsLine line o) ⊎ ((f : Fault) × IsLineFault line f)
some_line line = from_read (either_way (line_at line))
  where
    from_read : ((o : Option Insn) × (line_at line ≡ Ok o)) ⊎ ((f : Fault) × (line_at line ≡ Err f))
        → ((o : Option Insn) × IsLine line o) ⊎ ((f : Fault) × IsLineFault line f)
    from_read (inl h) = inl (h.0, line_is line h.0 h.1)
    from_read (inr h) = inr (h.0, line_fault line h.0 h.1)

pub either_line : (line : List ℕ) (o : Option Insn) (f : Fault) → IsLine line o → IsLineFault line f → ⊥
either_line line o f h g = not_both (line_at line) o f (line_reads line o h) (line_told line f g)

pub one_insn : (line : List ℕ) (a b : Option Insn) → IsLine line a → IsLine line b → a ≡ b
one_insn line a b h k = one_ok (line_at line) a b (line_reads line a h) (line_reads line b k)

pub one_line_fault : (line : List ℕ) (f g : Fault) → IsLineFault line f → IsLineFault line g → f ≡ g
one_line_fault line f g h k = one_err (line_at line) f g (line_told line f h) (line_told line g k)

-- ---- one way to read a text

pub some_text : (text : List ℕ) → ((code : List Insn) × IsTextOf text code) ⊎ ((f : LineFault) × IsFirstTextFault text f)
some_text text = from_read (either_way (code_of (lines_of text)))
  where
    from_read : ((c : List Insn) × (code_of (lines_of text) ≡ Ok c))
        ⊎ ((f : LineFault) × (code_of (lines_of text) ≡ Err f))
        → ((code : List Insn) × IsTextOf text code) ⊎ ((f : LineFault) × IsFirstTextFault text f)
    from_read (inl h) = inl (h.0, text_is text h.0 h.1)
    from_read (inr h) = inr (h.0, fault_is text h.0 h.1)

pub either_text : (text : List ℕ) (code : List Insn) (f : LineFault) → IsTextOf text code → IsFirstTextFault text f → ⊥
either_text text code f h g = not_both (code_of (lines_of text)) code f (text_reads text code h) (first_told text f g)

pub one_code : (text : List ℕ) (a b : List Insn) → IsTextOf text a → IsTextOf text b → a ≡ b
one_code text a b h k = one_ok (code_of (lines_of text)) a b (text_reads text a h) (text_reads text b k)

pub one_first_fault : (text : List ℕ) (f g : LineFault) → IsFirstTextFault text f → IsFirstTextFault text g → f ≡ g
one_first_fault text f g h k = one_err (code_of (lines_of text)) f g (first_told text f h) (first_told text g k)
