use Rattle.std.proofs.Common.{◌≡◌, ◌<◌, ◌^◌, arith, ap, sym, subst, ◌∙◌, Some, None, length, get_or, set}
use Rattle.std.specs.Prelude.{is_some}
use Rattle.std.proofs.lemmas.List.{length-set}
use Rattle.abstract_value.specs.Counts.{held_in}
use Rattle.abstract_value.proofs.Held.{held_more, held_within, held_set, some_viewed}
use Rattle.abstract_value.proofs.pending.Pending.insert.Goals as goal

pub overflow_add-self : goal.overflow_add-self
overflow_add-self g c =
    let xs = c.args.self.now.states.items in
    let h = held_more xs c.args.at c.args.state c.requires.place
    (sym (some_viewed (get_or xs c.args.at None)) ∙ ap is_some c.requires.none) in
    let w = held_within (set xs c.args.at (Some c.args.state)) in
    let l : length (set xs c.args.at (Some c.args.state)) ≡ length xs = length-set xs c.args.at (Some c.args.state) in
    let k : c.args.self.now.count ≡ held_in xs = c.args.self.now.counted in
    let s : length xs < 2 ^ 32 = c.args.self.now.short in
    omega arith

pub invariant_of-self-clause-counted : goal.invariant_of-self-clause-counted
invariant_of-self-clause-counted g c =
    let xs = c.args.self.now.states.items in
    let h = held_more xs c.args.at c.args.state c.requires.place
    (sym (some_viewed (get_or xs c.args.at None)) ∙ ap is_some c.requires.none) in
    let k : c.args.self.now.count ≡ held_in xs = c.args.self.now.counted in
    omega arith

pub returns-clause-states : goal.returns-clause-states
returns-clause-states g c =
    held_set c.args.self.now.states.items c.args.at (Some c.args.state) c.requires.place

pub invariant_of-self-clause-short : goal.invariant_of-self-clause-short
invariant_of-self-clause-short g c =
    subst (λ n. n < 2 ^ 32) (sym (length-set c.args.self.now.states.items c.args.at (Some c.args.state)))
    c.args.self.now.short
