use Rattle.std.proofs.Common.{◌≡◌, ◌+◌, ◌<◌, ◌≤◌, max, ◌∙◌, ap, sym, subst, arith, None}
use Rattle.instruction_set.specs.Machine.{slots_of, slot_count}
use Rattle.instruction_set.specs.Slots.{IsListed}
use Rattle.instruction_set.specs.laws.Places.{insn_all}
use Rattle.abstract_value.specs.States.{view, put}
use Rattle.abstract_value.specs.Pending.{boxed_view, held, room, size, count_held, peak_of}
use Rattle.verifier.specs.declared.rule.Rule.TheVariants.{OutsideStack}
use Rattle.verifier.specs.Rules.{PassesFor, FailsFirstFor}
use Rattle.verifier.specs.Peak.{IsPeakFor}
use Rattle.verifier.specs.model.Flow.{sent_on}
use Rattle.verifier.specs.model.Pending.{IsPending}
use Rattle.verifier.proofs.Marks.{leads_inside}
use Rattle.verifier.proofs.Waits.{waits_skipped, waits_passed, waits_refused, waits_peak, waits_size, sent_few, one_taken, next_inside, size_is}
use Rattle.verifier.proofs.verify_code.visit.Goals as goal

pub returns-in_default-clause-least : goal.returns-in_default-clause-least
returns-in_default-clause-least g c =
    let o = g.D.Domain.ops in
    let code = c.args.code.now in
    let at = c.args.here.slot in
    let i = c.args.here.insn in
    let next = at + slots_of i in
    let w = waits_skipped g.met.D.Domain.laws c.args.context_len code at i (held c.args.pending.now)
    (peak_of c.args.pending.now) c.requires.least c.requires.is_at
    (sym c.take.ensures.state ∙ ap boxed_view c.in_default.is) in
    subst (λ states. IsPending c.args.context_len o code next states (peak_of c.take.new.self))
    (sym c.take.ensures.states)
    (subst (IsPending c.args.context_len o code next (put (held c.args.pending.now) at None))
    (sym c.take.ensures.peak) w)

pub returns-in-Some-check-clause-least : goal.returns-in-Some-check-clause-least
returns-in-Some-check-clause-least g c =
    waits_refused g.met.D.Domain.laws c.args.context_len c.args.code.now c.args.here.slot c.args.here.insn
    (held c.args.pending.now) (view c.in-Some.state.value) (peak_of c.args.pending.now) c.in-Some-check.rule
    c.requires.structured c.requires.least c.requires.is_at (sym c.take.ensures.state ∙ ap boxed_view c.in-Some.is)
    (subst (λ s. FailsFirstFor c.args.context_len g.D.Domain.ops c.args.here.insn (view s) c.in-Some-check.rule)
    c.deref.ensures c.in-Some-check.ensures)

pub returns-in-Some-check-clause-stops : goal.returns-in-Some-check-clause-stops
returns-in-Some-check-clause-stops g c =
    subst (IsPeakFor c.args.context_len g.D.Domain.ops c.args.code.now c.args.here.slot) (sym c.take.ensures.peak)
    (waits_peak g.met.D.Domain.laws c.args.context_len c.args.code.now c.args.here.slot (held c.args.pending.now)
    (peak_of c.args.pending.now)
    c.requires.least)

pub send_on-requires : goal.send_on-requires
send_on-requires g c =
    let code = c.args.code.now in
    let at = c.args.here.slot in
    let i = c.args.here.insn in
    let states = held c.args.pending.now in
    let s = view c.in-Some.state.value in
    let within : at < slot_count code = c.requires.place in
    let few : slot_count code ≤ 1024 = c.known.ensures.few in
    let long : room c.take.new.self ≡ slot_count code = c.take.ensures.room ∙ c.requires.room in
    let before = waits_size g.met.D.Domain.laws c.args.context_len code at states (peak_of c.args.pending.now)
    c.requires.least in
    let fewer = one_taken states at (slot_count code) s within
    (sym c.take.ensures.state ∙ ap boxed_view c.in-Some.is) in
    let after : size c.take.new.self ≡ count_held (put states at None) (slot_count code) =
    size_is c.take.new.self (put states at None) (slot_count code) c.take.ensures.states long in
    let peak : peak_of c.take.new.self ≡ peak_of c.args.pending.now = c.take.ensures.peak in (
      g.met.D.Domain.fits,
      (
        omega arith,
        (
          (insn_all IsListed code at i c.known.ensures.listed c.requires.is_at).selected,
          (
            subst (λ s. PassesFor c.args.context_len g.D.Domain.ops i (view s)) c.deref.ensures c.in-None.ensures
                OutsideStack,
            (
              λ t e.
                  let h = next_inside g.D.Domain.ops code at i s t c.requires.structured c.requires.is_at e in
                  omega arith,
              (
                λ to e.
                    let h = leads_inside code at i (λ rule. c.requires.structured.meets at i rule c.requires.is_at)
                    to e in
                    omega arith,
                omega arith,
              ),
            ),
          ),
        ),
      ),
    )

pub returns-in_ok-send_on-in-None-clause-least : goal.returns-in_ok-send_on-in-None-clause-least
returns-in_ok-send_on-in-None-clause-least g c =
    let o = g.D.Domain.ops in
    let code = c.args.code.now in
    let at = c.args.here.slot in
    let i = c.args.here.insn in
    let s = view c.in-Some.state.value in
    let old = peak_of c.args.pending.now in
    let taken = put (held c.args.pending.now) at None in
    let last = c.in_ok-send_on-in-None.ensures.states ∙ ap (λ states. sent_on o states at i s) c.take.ensures.states in
    let counted = c.in_ok-send_on-in-None.ensures.peak ∙ ap (λ peak. max peak (size c.send_on.new.pending)) c.take.ensures.peak
    ∙ ap (max old) (size_is c.send_on.new.pending (sent_on o taken at i s) (slot_count code) last
    (c.send_on.ensures.room ∙ c.take.ensures.room ∙ c.requires.room)) in
    subst (λ x. IsPending c.args.context_len o code (at + slots_of i) x (peak_of c.send_on.new.pending)) (sym last)
    (waits_passed g.met.D.Domain.laws c.args.context_len code at i (held c.args.pending.now) s old
    (peak_of c.send_on.new.pending) c.known.ensures c.requires.structured c.requires.least c.requires.is_at
    (sym c.take.ensures.state ∙ ap boxed_view c.in-Some.is)
    (subst (λ x. PassesFor c.args.context_len o i (view x)) c.deref.ensures c.in-None.ensures) counted)

pub returns-in_ok-send_on-in-None-clause-peak : goal.returns-in_ok-send_on-in-None-clause-peak
returns-in_ok-send_on-in-None-clause-peak g c =
    let o = g.D.Domain.ops in
    let code = c.args.code.now in
    let at = c.args.here.slot in
    let i = c.args.here.insn in
    let s = view c.in-Some.state.value in
    let last = c.in_ok-send_on-in-None.ensures.states ∙ ap (λ states. sent_on o states at i s) c.take.ensures.states in
    let few = sent_few g.met.D.Domain.laws c.args.context_len code at i (held c.args.pending.now) s
    (peak_of c.args.pending.now) c.requires.least c.requires.is_at in
    let size_last = size_is c.send_on.new.pending (sent_on o (put (held c.args.pending.now) at None) at i s)
    (slot_count code) last (c.send_on.ensures.room ∙ c.take.ensures.room ∙ c.requires.room) in
    let a : peak_of c.take.new.self ≡ peak_of c.args.pending.now = c.take.ensures.peak in
    let b : peak_of c.send_on.new.pending ≡ max (peak_of c.take.new.self) (size c.send_on.new.pending) =
    c.in_ok-send_on-in-None.ensures.peak in
    omega (arith, few, size_last, a, b)
