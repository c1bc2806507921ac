use Rattle.std.proofs.Common.{◌≡◌, ap, sym, ◌∙◌, Some, None, arith}
use Rattle.abstract_value.specs.States.{put, view, view_join}
use Rattle.abstract_value.specs.Pending.{boxed_view, held, room, with_joined}
use Rattle.abstract_value.proofs.Held.{put_here, put_back}
use Rattle.abstract_value.proofs.pending.Pending.put.Goals.{in-Some, in-None}
use Rattle.abstract_value.proofs.pending.Pending.put.Goals as goal

pub insert-requires : goal.insert-requires
insert-requires g c =
    let r : room c.take.new.self ≡ room c.args.self.now = c.take.ensures.room in
    let none = ap (λ f. f c.args.at) c.take.ensures.states ∙ put_here (held c.args.self.now) c.args.at None in
    (g.met.D.Domain.fits, (omega arith, none))

pub returns-clause-states : goal.returns-clause-states
returns-clause-states g c =
    let o = g.D.Domain.ops in
    let s = held c.args.self.now in
    let at = c.args.at in
    let one : view c.match-take.joined.value ≡ with_joined o (s at) (view c.args.state.value) =
    elim c.match-take.branch [
      | in-Some w ↦
          let old : s at ≡ Some (view w.in-Some.old.value) = sym c.take.ensures.state ∙ ap boxed_view w.in-Some.is in
          ap (λ b. view b.value) w.joined-is ∙ w.join.ensures
          ∙ ap (λ x. view_join o (view x) (view w.deref.result.now)) w.deref_mut.ensures.value
          ∙ ap (λ x. view_join o (view w.in-Some.old.value) (view x)) w.deref.ensures
          ∙ sym (ap (λ x. with_joined o x (view c.args.state.value)) old)
      | in-None w ↦
          let old : s at ≡ None = sym c.take.ensures.state ∙ ap boxed_view w.in-None.is in
          ap (λ b. view b.value) w.joined-is ∙ sym (ap (λ x. with_joined o x (view c.args.state.value)) old)
    ] in
    c.insert.ensures.states ∙ ap (λ f. put f at (Some (view c.match-take.joined.value))) c.take.ensures.states
    ∙ put_back s at None (Some (view c.match-take.joined.value)) ∙ ap (λ x. put s at (Some x)) one
