-- What the loop over the lines keeps, and what it ends with.
use Rattle.std.proofs.Common.{◌≡◌, ◌≢◌, ℕ, ◌+◌, ◌-◌, ◌^◌, ◌≤◌, ◌⊎◌, true, false, List, [], ◌∷◌, ◌++◌, length, Option, None, Some, Result, Ok, Err, refl, sym, ap, subst, ◌∙◌, append_assoc, append-nil, arith, max, inl, inr, length-append, codes, IfOk}
use Rattle.std.proofs.Math.Seq.{take-length}
use Rattle.std.specs.Result.{is_err}
use Rattle.std.specs.Io.KnownBytes.{Consumes, Appends, Keeps, IsAtEnd}
use Rattle.std.proofs.KnownBytes.{Appends-kept, Consumes-trans, Consumes-nil, prepend_known-nil}
use Rattle.std.proofs.lemmas.Result.{IfOk-at_ok}
use denote.Enum.Bare.{sameb}
use Rattle.device.specs.Sending.{Sends, AppendsFront}
use Rattle.script_text.specs.Lines.{Line, script_lines, script_line, EndsLine, HasNoEnd}
use Rattle.script_text.specs.Reading.{left, FailsInLine, IsGone}
use Rattle.script_text.specs.declared.input.Stop.{Stop}
use Rattle.script_text.specs.declared.input.Stop.TheVariants.{LineFeed, End, Nothing}
use Rattle.script_text.specs.contracts.input.Stop.{the_type}
use Rattle.scripts.specs.Machines.{ScriptMachine}
use Rattle.scripts.specs.Replies.{Answer, answer_text}
use Rattle.scripts.specs.Steps.{Step}
use Rattle.scripts.specs.Runs.{Run, text_from, status_of, answer_status, Ending, Starved, Finished, ReadFailed, Stopped, Writes, ending_text, ending_status, IsRunFrom}
use Rattle.scripts.specs.model.Progress.{Progress}
use Rattle.scripts.proofs.LineLists.{lines_ended, lines_last, ends_line_last}
use Rattle.scripts.proofs.LongerRuns.{run_longer, text_longer, status_longer}
use Rattle.scripts.proofs.LatestNumbers.{latest_after}

-- what was read and not used was read
unread : (a b : Option (List ℕ)) (unused front : List ℕ) → Consumes a (left unused b) front
    → Consumes a b (front ++ unused)
unread None b unused front h = tt
unread (Some xs) None unused front h = h
unread (Some xs) (Some ys) unused front h = h ∙ sym (append_assoc front unused ys)

-- one more line was carried out
pub record Carried (start : ScriptMachine) (read_old : Option (List ℕ)) (unused : List ℕ) (remaining : Option (List ℕ)) (stop : Stop)
    (answers : List Answer) (machine : ScriptMachine) : Type 0 where
  pub front : List ℕ
  pub reads : Consumes read_old (left unused remaining) front
  pub run : Run start (script_lines front) answers machine
  pub reaches : EndsLine front ⊎ ((unused ≡ []) × IsAtEnd remaining)
  pub fed : stop ≡ LineFeed → EndsLine front
  pub ended : stop ≡ End → (unused ≡ []) × IsAtEnd remaining

-- a text that ends a script early, with status 3
written : {A E : Type 0} (ending : Ending) (answers : List Answer) (old new : Option (List ℕ)) (result : Result A E)
    → ending ≢ Stopped → ending_status ending answers ≡ 3 → Sends old new (ending_text ending answers) result
    → Writes ending answers old new 3
written ending answers old new (Ok x) fine three sent = inl (fine, sent, sym three)
written ending answers old new (Err x) fine three sent = inr (sent, refl)

-- in the failed line no byte ends it, or it is too long to count
unfinished : (text unused : List ℕ) → HasNoEnd text → (unused ≡ []) ⊎ (length text ≡ 2 ^ 64 - 1)
    → HasNoEnd (text ++ unused) ⊎ (2 ^ 64 - 1 ≤ length (text ++ unused))
unfinished text unused plain (inl e) =
    inl (subst HasNoEnd (sym (ap (λ bytes. text ++ bytes) e ∙ append-nil text)) plain)
unfinished text unused plain (inr e) = inr (omega (arith, length-append text unused))

spent_at : (stop : Stop) (left_now remaining : Option (List ℕ)) (unused text : List ℕ) → stop ≡ Nothing
    → IsGone stop left_now unused remaining text
    → Consumes left_now remaining [] × (unused ≡ []) × IsAtEnd remaining
spent_at LineFeed left_now remaining unused text e gone = absurd (cc)
spent_at End left_now remaining unused text e gone = absurd (cc)
spent_at Nothing left_now remaining unused text e gone = (gone.1, gone.2, gone.3)

is_nothing : (stop : Stop) → sameb the_type stop Nothing ≡ true → stop ≡ Nothing
is_nothing LineFeed e = absurd (cc)
is_nothing End e = absurd (cc)
is_nothing Nothing e = refl

-- the whole is a beginning
whole_front : (a b : Option (List ℕ)) (text : List ℕ) → Appends a b text → AppendsFront a b text
whole_front a b text h = (length text, subst (Appends a b) (sym (take-length text)) h)

-- the answers so far are flushed
pub flushed : (start : ScriptMachine) (read_old left_now written_old written_now new : Option (List ℕ)) (machine : ScriptMachine) (count status : ℕ)
    → Progress start read_old left_now written_old written_now machine count status → Keeps written_now new
    → Progress start read_old left_now written_old new machine count status
flushed start read_old left_now written_old written_now new machine count status p kept = record {
  front = p.front;
  answers = p.answers;
  whole = p.whole;
  reads = p.reads;
  run = p.run;
  counted = p.counted;
  latest = p.latest;
  stands = p.stands;
  writes = Appends-kept written_old written_now new (text_from 1 p.answers) p.writes kept;
}

module _ (start : ScriptMachine) (read_old left_now written_old written_now : Option (List ℕ)) (machine : ScriptMachine) (count status : ℕ)
    (p : Progress start read_old left_now written_old written_now machine count status) where
  run_on : (bytes text : List ℕ) (line : Line) (answer : Answer) (new : ScriptMachine) → script_line text ≡ line
      → script_lines (p.front ++ bytes) ≡ script_lines p.front ++ script_line text ∷ [] → Step machine line answer new
      → Run start (script_lines (p.front ++ bytes)) (p.answers ++ answer ∷ []) new
  run_on bytes text line answer new same split step =
      subst (λ lines. Run start lines (p.answers ++ answer ∷ []) new) (sym split)
      (run_longer start (script_lines p.front) p.answers machine (script_line text) answer new p.run
      (subst (λ l. Step machine l answer new) (sym same) step))

  pub carried : (stop : Stop) (text : List ℕ) (line : Line) (unused : List ℕ) (remaining : Option (List ℕ))
      (answer : Answer) (new : ScriptMachine) → stop ≢ Nothing → HasNoEnd text → script_line text ≡ line
      → IsGone stop left_now unused remaining text → Step machine line answer new
      → Carried start read_old unused remaining stop (p.answers ++ answer ∷ []) new
  carried LineFeed text line unused remaining answer new some plain same gone step = record {
    front = p.front ++ (text ++ 10 ∷ []);
    reads = Consumes-trans _ _ _ _ _ p.reads gone;
    run = run_on (text ++ 10 ∷ []) text line answer new same (lines_ended p.front text p.whole plain) step;
    reaches = inl (subst EndsLine (append_assoc p.front text (10 ∷ [])) (ends_line_last (p.front ++ text)));
    fed = λ _. subst EndsLine (append_assoc p.front text (10 ∷ [])) (ends_line_last (p.front ++ text));
    ended = λ e. absurd (cc);
  }
  carried End text line unused remaining answer new some plain same gone step = record {
    front = p.front ++ text;
    reads = subst (λ (b : Option (List ℕ)). Consumes read_old b (p.front ++ text))
        (sym (ap (λ bytes. left bytes remaining) gone.2 ∙ prepend_known-nil remaining))
        (Consumes-trans _ _ _ _ _ p.reads gone.1);
    run = run_on text text line answer new same (lines_last p.front text p.whole plain gone.0) step;
    reaches = inr (gone.2, gone.3);
    fed = λ e. absurd (cc);
    ended = λ _. (gone.2, gone.3);
  }
  carried Nothing text line unused remaining answer new some plain same gone step = absurd (some refl)

  text_on : (answer : Answer)
      → text_from 1 (p.answers ++ answer ∷ []) ≡ text_from 1 p.answers ++ answer_text (count + 1) answer
  text_on answer =
      text_longer 1 p.answers answer
      ∙ ap (λ n. text_from 1 p.answers ++ answer_text n answer) (omega (arith, p.counted))

  status_on : (answer : Answer) → max status (answer_status answer) ≡ status_of (p.answers ++ answer ∷ [])
  status_on answer = ap (λ n. max n (answer_status answer)) p.stands ∙ sym (status_longer p.answers answer)

  -- the ways in which the loop ends or goes on

  pub reading_failed : (unused : List ℕ) (remaining new : Option (List ℕ)) → FailsInLine left_now unused remaining
      → {A E : Type 0} (result : Result A E)
      → Sends written_old new (text_from 1 p.answers ++ codes "device fault\n") result
      → IsRunFrom start read_old remaining written_old new 3
  reading_failed unused remaining new failed result sent = record {
    ending = ReadFailed;
    front = p.front;
    rest = failed.0 ++ unused;
    answers = p.answers;
    final = machine;
    reads = subst (Consumes read_old remaining) (append_assoc p.front failed.0 unused)
        (unread read_old remaining unused (p.front ++ failed.0)
        (Consumes-trans read_old left_now (left unused remaining) p.front failed.0 p.reads failed.2));
    reaches = (p.whole, unfinished failed.0 unused failed.1 failed.3);
    run = p.run;
    writes = written ReadFailed p.answers written_old new result (λ e. cc) refl sent;
  }

  pub nothing_left : (stop : Stop) (unused text : List ℕ) (remaining : Option (List ℕ))
      → sameb the_type stop Nothing ≡ true → IsGone stop left_now unused remaining text
      → IsRunFrom start read_old remaining written_old written_now status
  nothing_left stop unused text remaining e gone =
      let spent = spent_at stop left_now remaining unused text (is_nothing stop e) gone in
      record {
        ending = Finished;
        front = p.front;
        rest = [];
        answers = p.answers;
        final = machine;
        reads = Consumes-trans read_old left_now remaining p.front [] p.reads spent.0;
        reaches = inl (refl, spent.2);
        run = p.run;
        writes = inl (λ e. cc, p.writes, p.stands);
      }

  pub numbers_spent : (unused : List ℕ) (remaining : Option (List ℕ)) → left_now ≡ left unused remaining
      → count ≡ 2 ^ 64 - 1 → IsRunFrom start read_old remaining written_old written_now status
  numbers_spent unused remaining e last = record {
    ending = Finished;
    front = p.front;
    rest = unused;
    answers = p.answers;
    final = machine;
    reads = unread read_old remaining unused p.front
        (subst (λ (b : Option (List ℕ)). Consumes read_old b p.front) e p.reads);
    reaches = inr (p.whole, p.counted ∙ last);
    run = p.run;
    writes = inl (λ e. cc, p.writes, p.stands);
  }

  pub flush_failed : (unused : List ℕ) (remaining : Option (List ℕ)) → left_now ≡ left unused remaining
      → IsRunFrom start read_old remaining written_old written_now 3
  flush_failed unused remaining e = record {
    ending = Stopped;
    front = p.front;
    rest = unused;
    answers = p.answers;
    final = machine;
    reads = unread read_old remaining unused p.front
        (subst (λ (b : Option (List ℕ)). Consumes read_old b p.front) e p.reads);
    reaches = inl p.whole;
    run = p.run;
    writes = inr (whole_front written_old written_now (text_from 1 p.answers) p.writes, refl);
  }

  pub writing_failed : (stop : Stop) (unused : List ℕ) (remaining new : Option (List ℕ)) (answer : Answer)
      (after : ScriptMachine) → Carried start read_old unused remaining stop (p.answers ++ answer ∷ []) after
      → AppendsFront written_old new (text_from 1 p.answers ++ answer_text (count + 1) answer)
      → IsRunFrom start read_old remaining written_old new 3
  writing_failed stop unused remaining new answer after c went = record {
    ending = Stopped;
    front = c.front;
    rest = unused;
    answers = p.answers ++ answer ∷ [];
    final = after;
    reads = unread read_old remaining unused c.front c.reads;
    reaches = c.reaches;
    run = c.run;
    writes = inr (subst (AppendsFront written_old new) (sym (text_on answer)) went, refl);
  }

  pub last_line : (stop : Stop) (unused : List ℕ) (remaining new : Option (List ℕ)) (answer : Answer)
      (after : ScriptMachine) (status' : ℕ) → Carried start read_old unused remaining stop (p.answers ++ answer ∷ []) after
      → Appends written_old new (text_from 1 p.answers ++ answer_text (count + 1) answer) → stop ≡ End
      → status' ≡ max status (answer_status answer) → IsRunFrom start read_old remaining written_old new status'
  last_line stop unused remaining new answer after status' c went e s = record {
    ending = Finished;
    front = c.front;
    rest = unused;
    answers = p.answers ++ answer ∷ [];
    final = after;
    reads = unread read_old remaining unused c.front c.reads;
    reaches = inl (c.ended e);
    run = c.run;
    writes = inl (λ e. cc, subst (Appends written_old new) (sym (text_on answer)) went, s ∙ status_on answer);
  }

  pub next_line_on : (stop : Stop) (unused : List ℕ) (remaining new : Option (List ℕ)) (line : Line)
      (answer : Answer) (after : ScriptMachine) (status' : ℕ)
      → Carried start read_old unused remaining stop (p.answers ++ answer ∷ []) after
      → Appends written_old new (text_from 1 p.answers ++ answer_text (count + 1) answer) → stop ≡ LineFeed
      → status' ≡ max status (answer_status answer) → Step machine line answer after
      → Progress start read_old (left unused remaining) written_old new after (count + 1) status'
  next_line_on stop unused remaining new line answer after status' c went e s step = record {
    front = c.front;
    answers = p.answers ++ answer ∷ [];
    whole = c.fed e;
    reads = c.reads;
    run = c.run;
    counted = length-append p.answers (answer ∷ []) ∙ ap (λ n. n + 1) p.counted;
    latest = omega (arith, latest_after machine line answer after step, p.latest);
    stands = s ∙ status_on answer;
    writes = subst (Appends written_old new) (sym (text_on answer)) went;
  }

-- nothing was read
pub starved : (start : ScriptMachine) (read written_old written_new : Option (List ℕ)) {A E : Type 0} (result : Result A E)
    (line : List ℕ) → line ≡ codes "refused 90\n" → Sends written_old written_new line result →
    IsRunFrom start read read written_old written_new 3
starved start read written_old written_new result line is sent = record {
  ending = Starved;
  front = [];
  rest = [];
  answers = [];
  final = start;
  reads = Consumes-nil read;
  reaches = (refl, refl);
  run = refl;
  writes = written Starved [] written_old written_new result (λ e. cc) refl
      (subst (λ text. Sends written_old written_new text result) is sent);
}

-- what an answered line left of the writer, by how sending ended

pub failed_front : {A E : Type 0} (old new : Option (List ℕ)) (text : List ℕ) (result : Result A E)
    → Sends old new text result → is_err result ≡ true → AppendsFront old new text
failed_front old new text (Ok x) sent e = absurd (cc)
failed_front old new text (Err x) sent e = sent

pub sent_whole : {A E : Type 0} (old new : Option (List ℕ)) (text : List ℕ) (result : Result A E)
    → Sends old new text result → is_err result ≡ false → Appends old new text
sent_whole old new text (Ok x) sent e = sent
sent_whole old new text (Err x) sent e = absurd (cc)

pub taken_status : {E : Type 0} (result : Result ℕ E) (status n : ℕ) → result ≡ Ok status
    → IfOk result (λ k. k ≡ n) → status ≡ n
taken_status result status n e h = IfOk-at_ok (λ k. k ≡ n) e h

-- by which test of its end a line was found

pub other_stop : (stop : Stop) → sameb the_type stop Nothing ≡ false → stop ≢ Nothing
other_stop LineFeed e = λ h. absurd (cc)
other_stop End e = λ h. absurd (cc)
other_stop Nothing e = absurd (cc)

pub is_end : (stop : Stop) → sameb the_type stop End ≡ true → stop ≡ End
is_end LineFeed e = absurd (cc)
is_end End e = refl
is_end Nothing e = absurd (cc)

pub is_line_feed : (stop : Stop) → sameb the_type stop Nothing ≡ false → sameb the_type stop End ≡ false
    → stop ≡ LineFeed
is_line_feed LineFeed e f = refl
is_line_feed End e f = absurd (cc)
is_line_feed Nothing e f = absurd (cc)
