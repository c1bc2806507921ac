-- A run that goes on by one line.
use Rattle.std.proofs.Common.{◌≡◌, ℕ, ◌+◌, List, [], ◌∷◌, ◌++◌, length, refl, sym, ap, subst, ◌∙◌, append_assoc, append-nil, arith, max, add-zero}
use Rattle.script_text.specs.Lines.{Line}
use Rattle.scripts.specs.Machines.{ScriptMachine}
use Rattle.scripts.specs.Steps.{Step}
use Rattle.scripts.specs.Runs.{Run, text_from, status_of, answer_status}
use Rattle.scripts.specs.Replies.{Answer, answer_text}

pub run_longer : (old : ScriptMachine) (lines : List Line) (answers : List Answer) (mid : ScriptMachine) (line : Line)
    (answer : Answer) (new : ScriptMachine)
    → Run old lines answers mid → Step mid line answer new → Run old (lines ++ line ∷ []) (answers ++ answer ∷ []) new
run_longer old [] [] mid line answer new r s = (new, subst (λ (o : ScriptMachine). Step o line answer new) r s, refl)
run_longer old (l ∷ ls) (q ∷ qs) mid line answer new r s = (r.0, r.1, run_longer r.0 ls qs mid line answer new r.2 s)
run_longer old [] (q ∷ qs) mid line answer new r s = absurd r
run_longer old (l ∷ ls) [] mid line answer new r s = absurd r

pub text_longer : (line : ℕ) (answers : List Answer) (answer : Answer)
    → text_from line (answers ++ answer ∷ []) ≡ text_from line answers ++ answer_text (line + length answers) answer
text_longer line [] answer = append-nil (answer_text line answer) ∙ ap (λ n. answer_text n answer) (sym (add-zero line))
text_longer line (q ∷ qs) answer =
    ap (λ t. answer_text line q ++ t) (text_longer (line + 1) qs answer)
    ∙ sym (append_assoc (answer_text line q) (text_from (line + 1) qs) (answer_text (line + 1 + length qs) answer))
    ∙ ap (λ n. (answer_text line q ++ text_from (line + 1) qs) ++ answer_text n answer) (omega arith)

pub status_longer : (answers : List Answer) (answer : Answer)
    → status_of (answers ++ answer ∷ []) ≡ max (status_of answers) (answer_status answer)
status_longer [] answer = omega arith
status_longer (q ∷ qs) answer = ap (max (answer_status q)) (status_longer qs answer) ∙ omega arith
