use Rattle.std.proofs.Common.{ℕ, List, [], Option, refl, sym, ap, subst, ◌∙◌, arith, max}
use Rattle.std.specs.Io.KnownBytes.{Consumes}
use Rattle.std.proofs.KnownBytes.{Consumes-nil, Appends-nil, prepend_known-nil}
use Rattle.std.specs.Result.{is_err}
use Rattle.script_text.specs.Reading.{left, seen_line}
use Rattle.scripts.proofs.Endings.{carried, flushed, flush_failed, failed_front, sent_whole, taken_status, other_stop, is_end, is_line_feed, reading_failed, nothing_left, numbers_spent, writing_failed, last_line, next_line_on}
use Rattle.scripts.proofs.running.run_lines.Goals as goal

pub loop-before-init : goal.loop-before-init
loop-before-init g c = record {
  front = [];
  answers = [];
  whole = tt;
  reads = subst (λ (b : Option (List ℕ)). Consumes (g.R.Read.remaining c.args.reader.now) b [])
      (sym (ap (λ p. left p (g.R.Read.remaining c.args.reader.now)) c.requires.unread ∙ prepend_known-nil _))
      (Consumes-nil _);
  run = refl;
  counted = refl;
  latest = omega (arith, c.requires.fresh);
  stands = refl;
  writes = Appends-nil _;
}

pub returns-then-is_err : goal.returns-then-is_err
returns-then-is_err g c =
    flush_failed _ _ _ _ _ _ _ _ (flushed _ _ _ _ _ _ _ _ _ c.loop-before.invariant c.flush_before_read.ensures)
    c.loop-before.buffers.unread _ refl

pub returns-in_default : goal.returns-in_default
returns-in_default g c =
    let p = flushed _ _ _ _ _ _ _ _ _ c.loop-before.invariant c.flush_before_read.ensures in
    reading_failed _ _ _ _ _ _ _ _ p _ _ _ c.in_default.ensures.failed c.send_after.result
    (c.send_after.ensures _ _ p.writes)

pub returns-then-eq : goal.returns-then-eq
returns-then-eq g c =
    let p = flushed _ _ _ _ _ _ _ _ _ c.loop-before.invariant c.flush_before_read.ensures in
    let (text, plain, same, gone) = c.in-Ok.ensures.found in
    nothing_left _ _ _ _ _ _ _ _ p c.in-Ok.found.stop c.next_line.new.buffer text _
    (sym c.eq.ensures ∙ c.if-eq.true) gone

pub returns-in-Err : goal.returns-in-Err
returns-in-Err g c =
    let p = flushed _ _ _ _ _ _ _ _ _ c.loop-before.invariant c.flush_before_read.ensures in
    let (text, plain, same, gone) = c.in-Ok.ensures.found in
    let stop = c.in-Ok.found.stop in
    let served = c.serve.ensures in
    let line = carried _ _ _ _ _ _ _ _ p stop text _ c.next_line.new.buffer _ served.answer _
    (other_stop stop (sym c.eq.ensures ∙ c.if-eq.false)) plain same gone served.is_answer in
    writing_failed _ _ _ _ _ _ _ _ p stop _ _ _ served.answer _ line
    (failed_front _ _ _ c.serve.result (served.sends _ _ p.writes) (ap is_err c.in-Err.is))

pub returns-then-eq-2 : goal.returns-then-eq-2
returns-then-eq-2 g c =
    let p = flushed _ _ _ _ _ _ _ _ _ c.loop-before.invariant c.flush_before_read.ensures in
    let (text, plain, same, gone) = c.in-Ok.ensures.found in
    let stop = c.in-Ok.found.stop in
    let served = c.serve.ensures in
    let line = carried _ _ _ _ _ _ _ _ p stop text _ c.next_line.new.buffer _ served.answer _
    (other_stop stop (sym c.eq.ensures ∙ c.if-eq.false)) plain same gone served.is_answer in
    last_line _ _ _ _ _ _ _ _ p stop _ _ _ served.answer _ _ line
    (sent_whole _ _ _ c.serve.result (served.sends _ _ p.writes) (ap is_err c.in-Ok-serve.is))
    (is_end stop (sym c.eq-in-loop-before.ensures ∙ c.if-eq-2.true))
    (c.max-status.ensures
    ∙ ap (max c.loop-before.status) (taken_status c.serve.result _ _ c.in-Ok-serve.is served.status))

pub loop-before-preserved : goal.loop-before-preserved
loop-before-preserved g c =
    let p = flushed _ _ _ _ _ _ _ _ _ c.loop-before.invariant c.flush_before_read.ensures in
    let (text, plain, same, gone) = c.in-Ok.ensures.found in
    let stop = c.in-Ok.found.stop in
    let served = c.serve.ensures in
    let line = carried _ _ _ _ _ _ _ _ p stop text _ c.next_line.new.buffer _ served.answer _
    (other_stop stop (sym c.eq.ensures ∙ c.if-eq.false)) plain same gone served.is_answer in
    next_line_on _ _ _ _ _ _ _ _ p stop _ _ _
    (seen_line c.in-Ok.found.is_long c.next_line.new.line) served.answer _ _ line
    (sent_whole _ _ _ c.serve.result (served.sends _ _ p.writes) (ap is_err c.in-Ok-serve.is))
    (is_line_feed stop (sym c.eq.ensures ∙ c.if-eq.false) (sym c.eq-in-loop-before.ensures ∙ c.if-eq-2.false))
    (c.max-status.ensures
    ∙ ap (max c.loop-before.status) (taken_status c.serve.result _ _ c.in-Ok-serve.is served.status))
    served.is_answer

pub returns : goal.returns
returns g c = numbers_spent _ _ _ _ _ _ _ _ c.loop-before.invariant c.loop-before.buffers.unread _ refl (omega arith)
