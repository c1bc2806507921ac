use Rattle.std.proofs.Common.{◌≡◌, ℕ, List, Option, Some, None, true, false, IfSome, IfNone, is_some, ◌≢◌, ◌++◌, sym, ◌∙◌, subst, arith, length-append}
use Rattle.std.proofs.lemmas.List.Elements.{All-append}
use Rattle.std.specs.Io.KnownBytes.{Consumes}
use Rattle.script_text.specs.Reading.{left}
use Rattle.script_text.specs.model.Feeds.{before_feed}
use Rattle.script_text.proofs.Feeds.{all_text, before_has_no_end, line_gone, text_gone}
use Rattle.script_text.proofs.input.next_line.Goals as goal

popped : (byte : Option ℕ) (P : ℕ → Type 0) → is_some byte ≡ true → IfSome byte P → (b : ℕ) × P b
popped (Some b) P e h = (b, h)
popped None P e h = absurd (cc)

emptied : (byte : Option ℕ) (P : Type 0) → is_some byte ≡ false → IfNone byte P → P
emptied (Some b) P e h = absurd (cc)
emptied None P e h = h

pub returns-then-is_some-clause-found : goal.returns-then-is_some-clause-found
returns-then-is_some-clause-found g c =
    let (text, no_end, none, more, seen, gone) = c.loop-seen.invariant in
    let here = c.has_byte.new.buffer in
    let more = before_feed here in
    let end = popped _ _ (sym c.if-is_some.ensures) c.pop.ensures.some in
    let taken = text_gone _ _ text here _ gone (c.in-Ok-true.ensures.some c.in-Ok-true.field-0-test).0 in (
      text ++ more,
      All-append (λ b. b ≢ 10) text more no_end (before_has_no_end here),
      c.move_text-is_long.ensures.line text seen,
      line_gone _ (text ++ more) here c.pop.new.self end.0 _ taken
          (sym c.move_text-is_long.ensures.rest ∙ end.1),
    )

pub loop-seen-preserved : goal.loop-seen-preserved
loop-seen-preserved g c =
    let (text, no_end, none, before, seen, gone) = c.loop-seen.invariant in
    let here = c.has_byte.new.buffer in
    let more = before_feed here in
    let found = c.in-Ok-true.ensures.some c.in-Ok-true.field-0-test in
    let rest = sym c.move_text-is_long.ensures.rest in
    let spent = emptied _ _ (sym c.if-is_some.ensures) c.pop.ensures.none in
    let longer = all_text here (rest ∙ spent.0) in
    let taken = text_gone _ _ text here _ gone found.0 in (
      text ++ more,
      All-append (λ b. b ≢ 10) text more no_end (before_has_no_end here),
      λ e. absurd (omega (arith, e)),
      λ e. (omega (arith, found.1, longer, length-append text more), spent.1),
      c.move_text-is_long.ensures.line text seen,
      subst (λ (l : List ℕ). Consumes (left c.args.buffer.now (g.R.Read.remaining c.args.reader.now))
          (left l (g.R.Read.remaining c.has_byte.new.reader)) (text ++ more)) (rest ∙ spent.0 ∙ sym spent.1) taken,
    )
