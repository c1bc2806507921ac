-- What reading a text gives: its code, or its first fault.
use Rattle.std.proofs.Common.{◌≡◌, refl, sym, subst, ℕ, ◌+◌, ◌<◌, ◌≤◌, Bool, true, false, cond, List, [], ◌∷◌, ◌++◌, length, Option, Some, None, Result, Ok, Err, inl, inr, append_assoc, append-nil, arith, length-append}
use Rattle.std.specs.Prelude.{nat_le, sum_by}
use Rattle.std.specs.List.{AllByRecursion}
use Rattle.std.proofs.lemmas.Bool.Decides.{nat_tests}
use Rattle.std.proofs.lemmas.List.Elements.{All-from_recursion}
use Rattle.std.proofs.lemmas.List.Sums.{sum_by-append, sum_by-cons}
use Rattle.instruction_set.specs.Machine.{slots_of}
use Rattle.instruction_set.specs.Slots.{max_slots, IsListed}
use Rattle.instruction_set.specs.declared.insn.Insn.{Insn}
use Rattle.assembler_text.specs.declared.faults.Fault.{Fault}
use Rattle.assembler_text.specs.declared.faults.LineFault.{LineFault}
use Rattle.assembler_text.specs.declared.faults.LineFault.TheVariants as fault
use Rattle.assembler_text.specs.Grammar.{IsLine, lines_of, AreLines, IsTextOf}
use Rattle.assembler_text.specs.Refusals.{IsBefore, IsFirstOf, IsFirstTextFault}
use Rattle.assembler_text.specs.model.Lines.{line_at}
use Rattle.refusals.specs.Answers.{◌>>=◌}
use Rattle.assembler_text.specs.model.Texts.{with_line, some_code, code_after, code_of}
use Rattle.assembler_text.proofs.Outcomes.{Outcome, of_ok, of_err}
use Rattle.assembler_text.proofs.Texts.{one_slot}
use Rattle.assembler_text.proofs.Lines.{line_is, line_fault}

-- ---- lines after lines

none_more : (line : List ℕ) → IsLine line None → (lines : List (List ℕ)) (code : List Insn) → AreLines lines code
    → AreLines (lines ++ line ∷ []) code
none_more line h [] [] l = (h, tt)
none_more line h [] (i ∷ code) l = absurd l
none_more line h (first ∷ lines) [] l = (l.0, none_more line h lines [] l.1)
none_more line h (first ∷ lines) (i ∷ code) (inl l) = inl (l.0, none_more line h lines (i ∷ code) l.1)
none_more line h (first ∷ lines) (i ∷ code) (inr l) = inr (l.0, none_more line h lines code l.1)

one_more : (line : List ℕ) (j : Insn) → IsLine line (Some j) → (lines : List (List ℕ)) (code : List Insn)
    → AreLines lines code → AreLines (lines ++ line ∷ []) (code ++ j ∷ [])
one_more line j h [] [] l = inr (h, tt)
one_more line j h [] (i ∷ code) l = absurd l
one_more line j h (first ∷ lines) [] l = inl (l.0, one_more line j h lines [] l.1)
one_more line j h (first ∷ lines) (i ∷ code) (inl l) = inl (l.0, one_more line j h lines (i ∷ code) l.1)
one_more line j h (first ∷ lines) (i ∷ code) (inr l) = inr (l.0, one_more line j h lines code l.1)

all_listed : (lines : List (List ℕ)) (code : List Insn) → AreLines lines code → AllByRecursion IsListed code
all_listed lines [] h = tt
all_listed [] (i ∷ code) h = absurd h
all_listed (line ∷ lines) (i ∷ code) (inl h) = all_listed lines (i ∷ code) h.1
all_listed (line ∷ lines) (i ∷ code) (inr h) = (h.0.listed, all_listed lines code h.1)

-- ---- reading

-- the lines give this code, of 1 to 1,024 slots
record AreWhole (lines : List (List ℕ)) (code : List Insn) : Type 0 where
  lines_give : AreLines lines code
  some : 1 ≤ sum_by slots_of code
  few : sum_by slots_of code ≤ max_slots

abbrev LinesGive : List (List ℕ) → Result (List Insn) LineFault → Type 0
LinesGive lines r = Outcome (AreWhole lines) (IsFirstOf lines) r

at_end : (lines : List (List ℕ)) (done : List Insn) → AreLines lines done → sum_by slots_of done ≤ max_slots
    → LinesGive lines (some_code done)
at_end lines [] l few = l
at_end lines (i ∷ done) l few =
    record { lines_give = l; some = omega (arith, sum_by-cons slots_of i done, one_slot i); few = few }

-- a line is met
at_line : (line : List ℕ) (lines before : List (List ℕ)) (done : List Insn) → AreLines before done
    → sum_by slots_of done ≤ max_slots → (number : ℕ) → number ≡ length before
    → ((more : List Insn) → AreLines (before ++ line ∷ []) more → sum_by slots_of more ≤ max_slots
    → LinesGive (before ++ line ∷ lines) (code_after (number + 1) more lines))
    → LinesGive (before ++ line ∷ lines) (with_line (number + 1) done (line_at line) >>= λ more. code_after (number + 1)
    more lines)
at_line line lines before done l few number n goes_on = from_line (line_at line) refl
  where
    here : IsBefore (before ++ line ∷ lines) (number + 1) line done
    here = record { before = before; behind = lines; split = refl; place = omega (arith, n); lines_give = l; few = few }

    from_test : (i : Insn) → IsLine line (Some i) → (b : Bool)
        → nat_le (sum_by slots_of done + slots_of i) max_slots ≡ b
        → LinesGive (before ++ line ∷ lines) (cond b (Ok (done ++ i ∷ [])) (Err (fault.TooLong (number + 1)))
        >>= λ more. code_after (number + 1) more lines)
    from_test i h true t =
        let le : sum_by slots_of done + slots_of i ≤ max_slots = grind (arith, nat_tests) in
        let sum : sum_by slots_of (done ++ i ∷ []) ≤ max_slots =
        omega (arith, le, sum_by-append slots_of done (i ∷ []), sum_by-cons slots_of i []) in
        goes_on (done ++ i ∷ []) (one_more line i h before done l) sum
    from_test i h false t =
        let past : max_slots < sum_by slots_of done + slots_of i = grind (arith, nat_tests) in
        record { line = line; code = done; insn = i; before = here; gives = h; past = past }

    from_line : (r : Result (Option Insn) Fault) → line_at line ≡ r
        → LinesGive (before ++ line ∷ lines) (with_line (number + 1) done r >>= λ more. code_after (number + 1) more
        lines)
    from_line (Err f) h = record { line = line; code = done; before = here; is_fault = line_fault line f h }
    from_line (Ok None) h = goes_on done (none_more line (line_is line None h) before done l) few
    from_line (Ok (Some i)) h =
        from_test i (line_is line (Some i) h) (nat_le (sum_by slots_of done + slots_of i) max_slots) refl

lines_give : (lines before : List (List ℕ)) (done : List Insn) → AreLines before done
    → sum_by slots_of done ≤ max_slots → (number : ℕ) → number ≡ length before
    → LinesGive (before ++ lines) (code_after number done lines)
unfolding code_after
lines_give [] before done l few number n =
    subst (λ (ls : List (List ℕ)). LinesGive ls (some_code done)) (sym (append-nil before)) (at_end before done l few)
lines_give (line ∷ lines) before done l few number n =
    let longer : number + 1 ≡ length (before ++ line ∷ []) = omega (arith, n, length-append before (line ∷ [])) in
    at_line line lines before done l few number n
    (λ more m s. subst (λ (ls : List (List ℕ)). LinesGive ls (code_after (number + 1) more lines))
    (append_assoc before (line ∷ []) lines) (lines_give lines (before ++ line ∷ []) more m s (number + 1) longer))

all_lines_give : (lines : List (List ℕ)) → LinesGive lines (code_of lines)
all_lines_give lines = lines_give lines [] [] tt (omega arith) 0 refl

pub text_is : (text : List ℕ) (code : List Insn) → code_of (lines_of text) ≡ Ok code → IsTextOf text code
text_is text code h =
    let w : AreWhole (lines_of text) code =
    of_ok (AreWhole (lines_of text)) (IsFirstOf (lines_of text)) _ code (all_lines_give (lines_of text)) h in
    record {
      lines_give = w.lines_give;
      is_code = record {
        listed = All-from_recursion IsListed code (all_listed (lines_of text) code w.lines_give);
        some = w.some;
        few = w.few;
      };
    }

pub fault_is : (text : List ℕ) (f : LineFault) → code_of (lines_of text) ≡ Err f → IsFirstTextFault text f
fault_is text f h = of_err (AreWhole (lines_of text)) (IsFirstOf (lines_of text)) _ f (all_lines_give (lines_of text)) h
