use Rattle.std.proofs.Common.{◌≡◌, ◌≤◌, ◌<◌, length, take, ◌+◌, ◌^◌, refl, sym, subst, arith}
use Rattle.std.specs.Prelude.{All}
use Rattle.std.proofs.lemmas.List.{length-take-le}
use Rattle.std.proofs.lemmas.List.Elements.{All-from_get_or, All-take}
use Rattle.std.proofs.Math.Facts.{Fits-of_lt}
use Rattle.instruction_set.specs.Machine.{EndsFor, home_for, entry_for}
use Rattle.instruction_set.specs.Slots.{IsCode, IsLaidOutAs}
use Rattle.bpf.specs.Running.{HasRoomFor}
use Rattle.bpf.proofs.Instructions.{Mirrors}
use Rattle.bpf.proofs.Runs.{starts, holds_at_start, meaning_is}
use Rattle.bpf.proofs.Loop.{here, some_left, Turn, turn, over, context_kept, ready_here, length_le_slots}
use Rattle.bpf.proofs.running.run_code.Goals as goal

pub loop-next-init : goal.loop-next-init
unfolding entry_for
loop-next-init c =
    let len = c.args.context_len in
    let code = c.args.code.now in
    let memory = c.args.memory.now in
    let bytes = take len memory in
    let room : HasRoomFor len code memory = c.requires.room in
    let is_code : IsCode code = c.known.ensures in
    let laid : IsLaidOutAs c.slots-slots.result.now code = c.slots-slots.ensures.laid in
    let whole : length bytes ≡ len = length-take-le len memory room.context_fits in
    let fits : len < 2 ^ 16 = omega arith in
    let small : All (λ byte. byte < 256) memory =
    All-from_get_or (λ byte. byte < 256) memory 0 (λ i _. omega (arith, c.type_inv.memory i)) in
    record {
      known = record {
        small = fits;
        whole = whole;
        few = is_code.few;
        count = c.layout_theorem.ensures.count _ code laid;
        fronts = λ slot i. c.layout_theorem.ensures.front _ code slot i laid is_code.listed;
        structured = c.requires.structured;
        ends = c.requires.safe bytes (whole, All-take (λ byte. byte < 256) len memory small);
      };
      state = entry_for len (home_for len) bytes;
      reached = refl;
      mirrors = subst (λ w. Mirrors 0 w memory (entry_for len (home_for len) bytes)) (sym c.start_for-registers.ensures)
          (starts len fits memory room.context_fits);
      holds = holds_at_start len bytes;
      room = room;
      from = refl;
    }

pub overflow_add-steps : goal.overflow_add-steps
overflow_add-steps c =
    let h = here _ _ _ _ _ _ _ _ c.loop-next.invariant in
    Fits-of_lt (omega (arith, h.few, length_le_slots c.args.code.now, c.loop-next.invariant.known.few))

pub bounds-slots-0 : goal.bounds-slots-0
bounds-slots-0 c = some_left _ _ _ _ _ _ _ _ c.loop-next.invariant

pub execute-requires-clause-some : goal.execute-requires-clause-some
execute-requires-clause-some c = some_left _ _ _ _ _ _ _ _ c.loop-next.invariant

pub execute-requires-clause-ready : goal.execute-requires-clause-ready
execute-requires-clause-ready c =
    ready_here _ _ _ _ _ _ _ _ c.loop-next.invariant c.index-slots-0.result c.index-slots-0.is

turn_of : (c : goal.In-Some)
    → Turn c.args.context_len c.args.code.now c.slots-slots.result.now (take c.args.context_len c.args.memory.now)
    c.loop-next.steps
    c.execute.new.registers.words c.execute.new.memory c.loop-next.slots.now c.in-Some.next.now
turn_of c =
    turn _ _ _ _ _ _ _ _ c.loop-next.invariant _ _ _ c.index-slots-0.result c.index-slots-0.is
    (c.in-Some.ensures.next, c.in-Some.ensures.registers, c.in-Some.ensures.memory)

pub loop-next-smaller : goal.loop-next-smaller
loop-next-smaller c = (turn_of c).fewer

pub loop-next-preserved : goal.loop-next-preserved
loop-next-preserved c = (turn_of c).reached

ends : (c : goal.After-answer) → EndsFor c.args.context_len c.args.code.now
    (take c.args.context_len c.args.memory.now) c.answer.result (c.loop-next.steps + 1)
ends c =
    let e =
    over _ _ _ _ _ _ _ _ c.loop-next.invariant _ _ c.index-slots-0.result c.index-slots-0.is
    (c.in-None.ensures.next, c.in-None.ensures.registers, c.in-None.ensures.memory) in
    subst (λ v. EndsFor c.args.context_len c.args.code.now (take c.args.context_len c.args.memory.now) v
    (c.loop-next.steps + 1)) (sym c.answer.ensures) e

few : (c : goal.After-answer) → c.loop-next.steps + 1 ≤ length c.args.code.now
few c = (here _ _ _ _ _ _ _ _ c.loop-next.invariant).few

pub returns-in-None-clause-ends : goal.returns-in-None-clause-ends
returns-in-None-clause-ends c = ends c

pub returns-in-None-clause-meaning : goal.returns-in-None-clause-meaning
returns-in-None-clause-meaning c =
    sym (meaning_is c.args.context_len (omega arith) c.args.code.now (take c.args.context_len c.args.memory.now)
    c.answer.result (c.loop-next.steps + 1) (few c) (ends c))

pub returns-in-None-clause-few : goal.returns-in-None-clause-few
returns-in-None-clause-few c = few c

pub returns-in-None-clause-kept : goal.returns-in-None-clause-kept
returns-in-None-clause-kept c =
    context_kept _ _ _ _ _ _ _ _ c.loop-next.invariant _ _ c.index-slots-0.result c.index-slots-0.is
    (c.in-None.ensures.next, c.in-None.ensures.registers, c.in-None.ensures.memory)
