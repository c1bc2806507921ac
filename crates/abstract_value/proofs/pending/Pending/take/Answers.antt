use Rattle.std.proofs.Common.{◌≡◌, ◌<◌, ◌-◌, ◌^◌, arith, ap, sym, subst, ◌∙◌, None, get_or, set}
use Rattle.std.specs.Prelude.{is_some}
use Rattle.std.proofs.lemmas.List.{get_or_default, length-set}
use Rattle.abstract_value.specs.States.{put}
use Rattle.abstract_value.specs.Counts.{held_in}
use Rattle.abstract_value.specs.Pending.{boxed_view, held}
use Rattle.abstract_value.proofs.Held.{held_less, held_set}
use Rattle.abstract_value.proofs.pending.Pending.take.Goals as goal

pub overflow_sub-self : goal.overflow_sub-self
overflow_sub-self g c =
    let xs = c.args.self.now.states.items in
    let r : c.take-state.result ≡ get_or xs c.args.at None =
    c.take-state.ensures.value ∙ c.index_mut.ensures.value
    ∙ get_or_default xs c.args.at c.index_mut.result.now None c.requires in
    let h = held_less xs c.args.at c.requires (ap is_some (sym r) ∙ sym c.is_some.ensures ∙ c.if-is_some.true) in
    let k : c.args.self.now.count ≡ held_in xs = c.args.self.now.counted in
    omega arith

pub invariant_of-self-clause-counted : goal.invariant_of-self-clause-counted
invariant_of-self-clause-counted g c =
    let xs = c.args.self.now.states.items in
    let r : c.take-state.result ≡ get_or xs c.args.at None =
    c.take-state.ensures.value ∙ c.index_mut.ensures.value
    ∙ get_or_default xs c.args.at c.index_mut.result.now None c.requires in
    let h = held_less xs c.args.at c.requires (ap is_some (sym r) ∙ sym c.is_some.ensures ∙ c.if-is_some.true) in
    let k : c.args.self.now.count ≡ held_in xs = c.args.self.now.counted in
    subst (λ x. c.args.self.now.count - 1 ≡ held_in (set xs c.args.at x)) (sym c.take-state.ensures.after) (omega arith)

pub returns-then-is_some-clause-states : goal.returns-then-is_some-clause-states
returns-then-is_some-clause-states g c =
    held_set c.args.self.now.states.items c.args.at c.take-state.new.self c.requires
    ∙ ap (λ x. put (held c.args.self.now) c.args.at (boxed_view x)) c.take-state.ensures.after

pub returns-else-is_some-clause-states : goal.returns-else-is_some-clause-states
returns-else-is_some-clause-states g c =
    held_set c.args.self.now.states.items c.args.at c.take-state.new.self c.requires
    ∙ ap (λ x. put (held c.args.self.now) c.args.at (boxed_view x)) c.take-state.ensures.after

pub invariant_of-self-clause-short : goal.invariant_of-self-clause-short
invariant_of-self-clause-short g c =
    subst (λ n. n < 2 ^ 32) (sym (length-set c.args.self.now.states.items c.args.at c.take-state.new.self))
    c.args.self.now.short
