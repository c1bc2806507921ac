use Rattle.std.proofs.Common.{◌≡◌, ◌∙◌, ap, sym, subst, arith, ℤ, to_z, of_z}
use Rattle.std.specs.Prelude.{IsTrue, ◌≤ℤ◌, ◌+ℤ◌}
use Rattle.std.specs.Int.{w16}
use Rattle.std.proofs.lemmas.Int.{ints}
use Rattle.abstract_value.specs.States.{view}
use Rattle.verifier.specs.Rules.{in_stack, reach_of, stack_index}
use Rattle.verifier.proofs.Spans.{stored_exact}
use Rattle.verifier.proofs.transfer.after_store.Goals as goal

pub stack_bytes-first-requires : goal.stack_bytes-first-requires
stack_bytes-first-requires g c =
    let e : c.args.offset ≡ to_z w16 (of_z w16 c.args.offset) = omega (arith, ints) in
    subst (λ (o : ℤ). IsTrue (in_stack (reach_of c.in-Stack.span o c.args.size))) e
    (c.requires c.in-Stack.span (sym c.register.ensures ∙ c.in-Stack.is))

pub returns-then-span : goal.returns-then-span
returns-then-span g c =
    let one : c.in-Stack.span.hi ≤ℤ c.in-Stack.span.lo = grind (arith, ints) in
    let e : to_z w16 (of_z w16 c.args.offset) ≡ c.args.offset = omega (arith, ints) in
    c.mark.ensures
    ∙ stored_exact (view c.args.state.now) ((view c.args.state.now).registers c.args.base.number) c.in-Stack.span
    c.args.offset c.args.size c.stack_bytes-first.result.0 c.bytes_of.result
    (sym c.register.ensures ∙ c.in-Stack.is) one (c.stack_bytes-first.ensures.first
    ∙ ap (λ (o : ℤ). stack_index (c.in-Stack.span.lo +ℤ o)) e) c.bytes_of.ensures.value
