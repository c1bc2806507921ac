use Rattle.std.proofs.Common.{◌≡◌, ◌-◌, ◌∙◌, ◌++◌, ap, arith, length, take, drop, subst, List, ℕ}
use Rattle.script_text.specs.Lines.{script_line}
use Rattle.script_text.specs.Reading.{seen_line}
use Rattle.script_text.specs.model.Feeds.{before_feed, from_feed}
use Rattle.script_text.proofs.Feeds.{taken, taken_len, within_part, rest_of_part}
use Rattle.script_text.proofs.input.ReadBuffer.move_text.Goals as goal

pub slice_bounds-take_part-end : goal.slice_bounds-take_part-end
slice_bounds-take_part-end c = taken_len c.text_len-len.result _ c.text_len-len.ensures

pub overflow_add-self : goal.overflow_add-self
overflow_add-self c =
    omega (
      arith,
      c.self.invariant.ordered,
      c.self.ranges,
      within_part c.text_len-len.result (c.self.inside.end - c.self.inside.start) _ c.text_len-len.ensures,
    )

pub invariant_of-self : goal.invariant_of-self
invariant_of-self c = record {
  ordered =
      omega (
        arith,
        c.self.invariant.ordered,
        within_part c.text_len-len.result (c.self.inside.end - c.self.inside.start) _ c.text_len-len.ensures,
      );
  within = c.self.invariant.within;
  room = c.self.invariant.room;
}

pub returns-clause-rest : goal.returns-clause-rest
returns-clause-rest c =
    let inside = c.self.inside in
    rest_of_part c.text_len-len.result inside.start inside.end inside.bytes.items c.self.invariant.ordered
    (subst (λ (bs : List ℕ). c.text_len-len.result ≡ length (before_feed (take (inside.end - inside.start)
    (drop inside.start bs)))) c.deref.ensures.value c.text_len-len.ensures)
    ∙ ap from_feed c.self.view_is

pub returns-clause-line : goal.returns-clause-line
returns-clause-line c = λ text seen.
    let inside = c.self.inside in
    let part =
    taken c.text_len-len.result _ c.text_len-len.ensures
    ∙ ap (λ (bs : List ℕ). before_feed (take (inside.end - inside.start) (drop inside.start bs))) c.deref.ensures.value
    ∙ ap before_feed c.self.view_is in
    subst (λ (part : List ℕ). script_line (text ++ part) ≡ seen_line c.take_part-result.result c.take_part-result.new.line)
    part (c.take_part-result.ensures text seen)
