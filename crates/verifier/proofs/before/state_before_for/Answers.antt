use Rattle.std.proofs.Common.{◌≡◌, ◌∙◌, sym, arith}
use Rattle.instruction_set.specs.Machine.{slot_count}
use Rattle.verifier.proofs.StatesBefore.{is_structured, past_last}
use Rattle.verifier.proofs.before.state_before_for.Goals as goal

pub returns-then-slot-slot_count : goal.returns-then-slot-slot_count
returns-then-slot-slot_count g c =
    let count : c.slot_count.result ≡ slot_count c.args.code.now = c.slot_count.ensures.count in
    past_last g.met.D.Domain.laws c.args.context_len c.args.code.now c.args.slot
    (omega (arith, count, c.if-slot-slot_count.true))

pub find_state-requires : goal.find_state-requires
find_state-requires g c =
    let count : c.slot_count.result ≡ slot_count c.args.code.now = c.slot_count.ensures.count in (
      g.met.D.Domain.fits,
      (
        omega (arith, count, c.if-slot-slot_count.false),
        (
          is_structured c.args.code.now _ c.check_structure.result (sym c.is_some.ensures ∙ c.if-is_some.false)
              c.check_structure.ensures,
          (
            c.in_ok-pending.ensures.room ∙ c.slot_count-2.ensures.count,
            (c.in_ok-pending.ensures.states, c.in_ok-pending.ensures.peak),
          ),
        ),
      ),
    )
