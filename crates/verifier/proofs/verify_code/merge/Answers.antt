use Rattle.std.proofs.Common.{◌≡◌, ap, sym, ◌∙◌, Some, None}
use Rattle.abstract_value.specs.States.{put, view, view_join}
use Rattle.abstract_value.specs.Pending.{boxed_view, held, with_joined}
use Rattle.verifier.proofs.Waits.{put_here, put_back}
use Rattle.verifier.proofs.verify_code.merge.Goals.{in-Some, in-None+in_ok-merged-in-None}
use Rattle.verifier.proofs.verify_code.merge.Goals as goal

pub returns-clause-states : goal.returns-clause-states
returns-clause-states g c =
    let o = g.D.Domain.ops in
    let s = held c.args.pending.now in
    let to = c.args.to in
    let new = view c.match-take.merged.value in
    let one : new ≡ with_joined o (s to) (view c.args.state) =
    elim c.match-take.branch [
      | in-Some w ↦
          let old : s to ≡ Some (view w.in-Some.waiting.value) =
          sym c.take.ensures.state ∙ ap boxed_view w.in-Some.is in
          ap (λ b. view b.value) w.merged-is ∙ w.join.ensures
          ∙ ap (λ x. view_join o (view x) (view c.args.state)) w.deref_mut.ensures.value
          ∙ sym (ap (λ x. with_joined o x (view c.args.state)) old)
      | in-None+in_ok-merged-in-None w ↦
          let old : s to ≡ None = sym c.take.ensures.state ∙ ap boxed_view w.in-None.is in
          ap (λ b. view b.value) w.merged-is ∙ ap view w.in_ok-merged-in-None.ensures.ok
          ∙ sym (ap (λ x. with_joined o x (view c.args.state)) old)
    ] in
    let none : held c.take.new.self to ≡ None = ap (λ f. f to) c.take.ensures.states ∙ put_here s to None in
    c.put.ensures.states ∙ ap (λ x. put (held c.take.new.self) to (Some (with_joined o x new))) none
    ∙ ap (λ f. put f to (Some new)) c.take.ensures.states ∙ put_back s to None (Some new)
    ∙ ap (λ x. put s to (Some x)) one
