-- A text of code is read as that code, and a text is refused for its first fault.
use Rattle.std.proofs.Common.{◌≡◌, ap, ◌∙◌, sym, ℕ, ◌+◌, ◌<◌, ◌≤◌, true, false, cond, List, [], ◌∷◌, ◌++◌, length, Some, None, Result, Ok, Err, inl, inr, append_assoc, append-nil, arith}
use Rattle.std.specs.Prelude.{nat_le, sum_by}
use Rattle.std.proofs.lemmas.Bool.Decides.{nat_tests}
use Rattle.std.proofs.lemmas.List.Sums.{sum_by-append, sum_by-cons}
use Rattle.instruction_set.specs.Machine.{slots_of}
use Rattle.instruction_set.specs.Slots.{max_slots}
use Rattle.instruction_set.specs.declared.insn.Insn.{Insn}
use Rattle.assembler_text.specs.declared.faults.Fault.{Fault}
use Rattle.assembler_text.specs.declared.faults.LineFault.{LineFault}
use Rattle.assembler_text.specs.declared.faults.LineFault.TheVariants as fault
use Rattle.assembler_text.specs.Grammar.{lines_of, AreLines, IsTextOf}
use Rattle.refusals.specs.Answers.{◌>>=◌}
use Rattle.assembler_text.specs.model.Texts.{with_line, code_after, code_of}
use Rattle.assembler_text.proofs.Texts.{some_slots}
use Rattle.assembler_text.specs.Refusals.{IsBefore, IsFirstOf, IsFirstTextFault}
use Rattle.assembler_text.proofs.Lines.{line_reads, line_told}

add-zero : (n : ℕ) → n + 0 ≡ n
add-zero n = omega arith

fits_on : (number : ℕ) (done : List Insn) (i : Insn) → sum_by slots_of done + slots_of i ≤ max_slots
    → with_line number done (Ok (Some i)) ≡ Ok (done ++ i ∷ [])
fits_on number done i h =
    let t : nat_le (sum_by slots_of done + slots_of i) max_slots ≡ true = grind (arith, nat_tests) in
    ap (λ b. cond b (Ok (done ++ i ∷ [])) (Err (fault.TooLong number))) t

abbrev goes_on : ℕ → List (List ℕ) → Result (List Insn) LineFault → Result (List Insn) LineFault
goes_on number lines r = r >>= λ code. code_after number code lines

-- the line's number, from the front and from after
shifted : (number : ℕ) (line : List ℕ) (lines : List (List ℕ))
    → number + 1 + length lines ≡ number + length (line ∷ lines)
shifted number line lines = omega arith

-- lines are read after the code that is read so far, and then more lines
pub read_before : (lines : List (List ℕ)) (code : List Insn) → AreLines lines code → (number : ℕ) (done : List Insn)
    → sum_by slots_of done + sum_by slots_of code ≤ max_slots
    → (more : List (List ℕ)) → code_after number done (lines ++ more)
    ≡ code_after (number + length lines) (done ++ code) more
unfolding code_after
read_before [] [] h number done f more = (λ i. code_after (sym (add-zero number) i) (sym (append-nil done) i) more)
read_before [] (i ∷ code) h number done f more = absurd h
read_before (line ∷ lines) [] h number done f more =
    ap (λ r. goes_on (number + 1) (lines ++ more) (with_line (number + 1) done r)) (line_reads line None h.0)
    ∙ read_before lines [] h.1 (number + 1) done f more
    ∙ ap (λ (k : ℕ). code_after k (done ++ []) more) (shifted number line lines)
read_before (line ∷ lines) (i ∷ code) (inl h) number done f more =
    ap (λ r. goes_on (number + 1) (lines ++ more) (with_line (number + 1) done r)) (line_reads line None h.0)
    ∙ read_before lines (i ∷ code) h.1 (number + 1) done f more
    ∙ ap (λ (k : ℕ). code_after k (done ++ i ∷ code) more) (shifted number line lines)
read_before (line ∷ lines) (i ∷ code) (inr h) number done f more =
    let first : sum_by slots_of (i ∷ code) ≡ slots_of i + sum_by slots_of code = sum_by-cons slots_of i code in
    let sum : sum_by slots_of (done ++ i ∷ []) ≡ sum_by slots_of done + slots_of i =
    omega (arith, sum_by-append slots_of done (i ∷ []), sum_by-cons slots_of i []) in
    ap (λ r. goes_on (number + 1) (lines ++ more) (with_line (number + 1) done r)) (line_reads line (Some i) h.0)
    ∙ ap (goes_on (number + 1) (lines ++ more)) (fits_on (number + 1) done i (omega (arith, first, f)))
    ∙ read_before lines code h.1 (number + 1) (done ++ i ∷ []) (omega (arith, first, sum, f)) more
    ∙ (λ j. code_after (shifted number line lines j) (append_assoc done (i ∷ []) code j) more)

pub text_reads : (text : List ℕ) (code : List Insn) → IsTextOf text code → code_of (lines_of text) ≡ Ok code
unfolding code_after
text_reads text code h =
    ap (code_after 0 []) (sym (append-nil (lines_of text)))
    ∙ read_before (lines_of text) code h.lines_give 0 [] (omega (arith, h.is_code.few)) []
    ∙ some_slots code h.is_code.some

-- ---- the first fault is returned

not_le : (n m : ℕ) → m < n → nat_le n m ≡ false
not_le n m h = grind (arith, nat_tests)

abbrev told_at : Fault → ℕ → Result (List Insn) LineFault
told_at g k = Err (fault.Line g k)

abbrev too_long_at : ℕ → Result (List Insn) LineFault
too_long_at k = Err (fault.TooLong k)

-- the lines before one are read as the code that they give
up_to : (lines : List (List ℕ)) (number : ℕ) (line : List ℕ) (code : List Insn) (b : IsBefore lines number line code)
    → code_of lines ≡ code_after (0 + length b.before) code (line ∷ b.behind)
up_to lines number line code b =
    ap (code_after 0 []) b.split
    ∙ read_before b.before code b.lines_give 0 [] (omega (arith, b.few)) (line ∷ b.behind)

line_number : (lines : List (List ℕ)) (number : ℕ) (line : List ℕ) (code : List Insn)
    (b : IsBefore lines number line code) → 0 + length b.before + 1 ≡ number
line_number lines number line code b = omega (arith, b.place)

first_read : (lines : List (List ℕ)) (f : LineFault) → IsFirstOf lines f → code_of lines ≡ Err f
unfolding code_after
first_read lines fault.OutOfMemory h = absurd h
first_read lines (fault.Line g number) h =
    up_to lines number h.line h.code h.before
    ∙ ap (λ r. with_line (0 + length h.before.before + 1) h.code r >>= λ more. code_after (0 + length h.before.before
    + 1) more h.before.behind) (line_told h.line g h.is_fault)
    ∙ ap (told_at g) (line_number lines number h.line h.code h.before)
first_read lines (fault.TooLong number) h =
    let t : nat_le (sum_by slots_of h.code + slots_of h.insn) max_slots ≡ false = not_le _ _ h.past in
    up_to lines number h.line h.code h.before
    ∙ ap (λ r. with_line (0 + length h.before.before + 1) h.code r >>= λ more. code_after (0 + length h.before.before
    + 1) more h.before.behind) (line_reads h.line (Some h.insn) h.gives)
    ∙ ap (λ b. cond b (Ok (h.code ++ h.insn ∷ [])) (too_long_at (0 + length h.before.before + 1)) >>= λ more. code_after
    (0 + length h.before.before + 1) more h.before.behind) t
    ∙ ap too_long_at (line_number lines number h.line h.code h.before)
first_read lines fault.Empty h =
    ap (code_after 0 []) (sym (append-nil lines)) ∙ read_before lines [] h 0 [] (omega arith) []

pub first_told : (text : List ℕ) (f : LineFault) → IsFirstTextFault text f → code_of (lines_of text) ≡ Err f
first_told text f h = first_read (lines_of text) f h
