-- A text and its lines.
use Rattle.std.proofs.Common.{◌≡◌, ℕ, ◌+◌, ◌<◌, ◌≤◌, Bool, true, false, cond, List, [], ◌∷◌, length, drop, Result, Ok, Err, refl, sym, ap, ◌∙◌, inl, inr, arith, lit≤, length-drop}
use Rattle.std.specs.Prelude.{◌==◌, not, sum_by}
use Rattle.std.specs.List.{prefix_len}
use Rattle.std.proofs.lemmas.List.Sums.{sum_by-cons}
use Rattle.refusals.specs.Answers.{◌>>=◌, HasCause, ReturnsOrRunsOut}
use Rattle.instruction_set.specs.Machine.{slots_of}
use Rattle.instruction_set.specs.declared.insn.Insn.{Insn}
use Rattle.instruction_set.specs.declared.insn.Insn.TheVariants.{LoadWide}
use Rattle.assembler_text.specs.declared.faults.LineFault.{LineFault}
use Rattle.assembler_text.specs.declared.faults.LineFault.TheVariants as fault
use Rattle.assembler_text.specs.declared.lexer.Class.TheVariants as class
use Rattle.assembler_text.specs.Faults.{line_fault_number}
use Rattle.assembler_text.specs.Words.{is_of_class}
use Rattle.assembler_text.specs.model.Words.{front, rest}
use Rattle.assembler_text.specs.Grammar.{lines_of, with_first}
use Rattle.assembler_text.specs.model.Lines.{line_at}
use Rattle.assembler_text.proofs.Pieces.{by_test, front_in, front_out, rest_in, rest_out}
use Rattle.assembler_text.specs.model.Texts.{with_line, code_after, some_code, FailsWith}

not_newline : (c : ℕ) (b : Bool) → (c == 10) ≡ b → is_of_class class.Line c ≡ not b
not_newline c b h = ap not h

goes_with : (c : ℕ) (cs : List ℕ) → lines_of cs ≡ front class.Line cs ∷ lines_of (drop 1 (rest class.Line cs))
    → is_of_class class.Line c ≡ true
    → with_first c (lines_of cs) ≡ front class.Line (c ∷ cs) ∷ lines_of (drop 1 (rest class.Line (c ∷ cs)))
goes_with c cs so h =
    ap (with_first c) so
    ∙ ap (λ (t : List ℕ). t ∷ lines_of (drop 1 (rest class.Line cs))) (sym (front_in class.Line c cs h))
    ∙ ap (λ (t : List ℕ). front class.Line (c ∷ cs) ∷ lines_of (drop 1 t)) (sym (rest_in class.Line c cs h))

ends_here : (c : ℕ) (cs : List ℕ) → is_of_class class.Line c ≡ false
    → [] ∷ lines_of cs ≡ front class.Line (c ∷ cs) ∷ lines_of (drop 1 (rest class.Line (c ∷ cs)))
ends_here c cs h =
    ap (λ (t : List ℕ). t ∷ lines_of cs) (sym (front_out class.Line c cs h))
    ∙ ap (λ (t : List ℕ). front class.Line (c ∷ cs) ∷ lines_of (drop 1 t)) (sym (rest_out class.Line c cs h))

last_with : (c : ℕ) → is_of_class class.Line c ≡ true
    → with_first c [] ≡ front class.Line (c ∷ []) ∷ lines_of (drop 1 (rest class.Line (c ∷ [])))
last_with c h =
    ap (λ (t : List ℕ). t ∷ []) (sym (front_in class.Line c [] h))
    ∙ ap (λ (t : List ℕ). front class.Line (c ∷ []) ∷ lines_of (drop 1 t)) (sym (rest_in class.Line c [] h))

pub first_line : (c : ℕ) (cs : List ℕ)
    → lines_of (c ∷ cs) ≡ front class.Line (c ∷ cs) ∷ lines_of (drop 1 (rest class.Line (c ∷ cs)))
first_line c [] = by_test (c == 10)
    (λ h. ap (λ b. cond b ([] ∷ lines_of []) (with_first c (lines_of []))) h ∙ ends_here c [] (not_newline c true h))
    (λ h. ap (λ b. cond b ([] ∷ lines_of []) (with_first c (lines_of []))) h ∙ last_with c (not_newline c false h))
first_line c (d ∷ ds) = by_test (c == 10)
    (λ h. ap (λ b. cond b ([] ∷ lines_of (d ∷ ds)) (with_first c (lines_of (d ∷ ds)))) h
    ∙ ends_here c (d ∷ ds) (not_newline c true h))
    (λ h. ap (λ b. cond b ([] ∷ lines_of (d ∷ ds)) (with_first c (lines_of (d ∷ ds)))) h
    ∙ goes_with c (d ∷ ds) (first_line d ds) (not_newline c false h))

pub first_line_of : (text : List ℕ) → 0 < length text
    → lines_of text ≡ front class.Line text ∷ lines_of (drop 1 (rest class.Line text))
first_line_of [] h = absurd (omega arith)
first_line_of (c ∷ cs) h = first_line c cs

pub one_slot : (i : Insn) → 1 ≤ slots_of i
one_slot (LoadWide dst value) = lit≤ tt
one_slot _ = lit≤ tt

-- one more line is read
pub goes_on : (number : ℕ) (code more : List Insn) (text : List ℕ) (total : Result (List Insn) LineFault)
    → 0 < length text
    → with_line (number + 1) code (line_at (front class.Line text)) ≡ Ok more
    → code_after number code (lines_of text) ≡ total → code_after (number + 1) more
    (lines_of (drop 1 (rest class.Line text))) ≡ total
unfolding code_after
goes_on number code more text total some h so_far =
    let one : code_after number code (lines_of text) ≡ code_after (number + 1) more
    (lines_of (drop 1 (rest class.Line text))) =
    ap (code_after number code) (first_line_of text some)
    ∙ ap (λ (r : Result (List Insn) LineFault). r >>= λ c. code_after (number + 1) c
    (lines_of (drop 1 (rest class.Line text)))) h in
    sym one ∙ so_far

-- a faulty line stops the reading
pub stops : (e : LineFault) (number : ℕ) (code : List Insn) (text : List ℕ) (total : Result (List Insn) LineFault)
    → 0 < length text
    → HasCause line_fault_number (FailsWith (with_line (number + 1) code (line_at (front class.Line text)))) e
    → code_after number code (lines_of text) ≡ total → ReturnsOrRunsOut line_fault_number (Err e) total
unfolding code_after
stops e number code text total some (inl met) so_far =
    inl (sym (sym so_far ∙ ap (code_after number code) (first_line_of text some)
    ∙ ap (λ r. r >>= λ c. code_after (number + 1) c (lines_of (drop 1 (rest class.Line text)))) met))
stops e number code text total some (inr out) so_far = inr out

pub at_end : (text : List ℕ) → length text ≡ 0 → lines_of text ≡ []
at_end [] h = refl
at_end (c ∷ cs) h = absurd (omega arith)

pub is_done : (number : ℕ) (code : List Insn) (text : List ℕ) (total : Result (List Insn) LineFault)
    → length text ≡ 0 → code_after number code (lines_of text) ≡ total → total ≡ some_code code
unfolding code_after
is_done number code text total h so_far = sym so_far ∙ ap (code_after number code) (at_end text h)

-- code without slots has no instruction
pub no_slots : (code : List Insn) → sum_by slots_of code ≡ 0 → some_code code ≡ Err fault.Empty
no_slots [] h = refl
no_slots (i ∷ code) h = absurd (omega (arith, sum_by-cons slots_of i code, one_slot i))

pub some_slots : (code : List Insn) → 0 < sum_by slots_of code → some_code code ≡ Ok code
some_slots [] h = absurd (omega arith)
some_slots (i ∷ code) h = refl

pub not_empty : (code : List Insn) → 0 < sum_by slots_of code → code ≡ [] → ⊥
not_empty code h e = omega (arith, ap (sum_by slots_of) e)

pub behind_shorter : (text : List ℕ) → 0 < length text → length (drop 1 (rest class.Line text)) < length text
behind_shorter text h =
    omega (arith, length-drop 1 (rest class.Line text), length-drop (prefix_len (is_of_class class.Line) text) text)

abbrev pub made : List Insn → Result (List Insn) LineFault
made code = Ok code
