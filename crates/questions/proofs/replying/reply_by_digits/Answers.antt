use Rattle.std.proofs.Common.{◌≡◌, subst, ℕ, List, Result, Ok, Err, IfOk}
use Rattle.std.specs.declared.alloc.AllocError.{AllocError}
use Rattle.std.specs.Prelude.{string_bytes}
use Rattle.questions.specs.declared.question.Question.{Question}
use Rattle.questions.specs.declared.printing.Answer.{Answer}
use Rattle.questions.specs.Lines.{IsAnswerTo, IsPrinted, AreWordsAbout, Prints, answer_line, exit_status, answer_unless_memory, replied}
use Rattle.questions.proofs.replying.reply_by_digits.Goals as goal

-- the answer that is printed, where memory served
printed_is : (question : Question) (P : Answer → Type 0) (r : Result Answer AllocError) (status : ℕ)
    (line words : List ℕ) → IsPrinted question r status line words → IfOk r P
    → (s : Answer) × P s × (status ≡ exit_status s) × (line ≡ answer_line s) × AreWordsAbout question s words
printed_is question P (Ok s) status line words printed h = (s, h, printed.0, printed.1, printed.2)
printed_is question P (Err _) status line words printed h = absurd printed

pub returns-in-Ok : goal.returns-in-Ok
returns-in-Ok g c =
    let a = printed_is c.args.question.now (IsAnswerTo c.args.question.now) (answer_unless_memory c.answer_to.result) _ _ _ c.in-Ok.ensures
    c.answer_to.ensures in
    let old = g.W.Write.contents c.args.writer.now in
    let new = g.W.Write.contents c.print_answer.new.writer in
    let text = string_bytes c.in-Ok.said.text in
    replied a.0 a.1
    (subst (λ t. Prints old new t (exit_status a.0) c.print_answer.result) a.3
    (subst (λ n. Prints old new text n c.print_answer.result) a.2 c.print_answer.ensures.text))
    (string_bytes c.in-Ok.said.words, a.4, c.print_answer.ensures.words)
