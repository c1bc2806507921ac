use Rattle.std.proofs.Common.{arith, ℤ}
use Rattle.std.specs.Prelude.{pos, ◌-ℤ◌, ◌+ℤ◌}
use Rattle.std.proofs.lemmas.Int.{ints}
use Rattle.instruction_set.specs.Machine.{bytes_of}
use Rattle.verifier.proofs.Spans.{in_stack_is, whole_is, whole_sum}
use Rattle.verifier.proofs.memory_access.stack_bytes.Goals as goal

pub returns : goal.returns
returns c =
    let lo : ℤ = c.args.span.lo +ℤ c.args.offset in
    let hi : ℤ = c.args.span.hi +ℤ c.args.offset in
    let i = in_stack_is lo hi (bytes_of c.args.size) c.requires in
    record {
      first = whole_is (lo +ℤ pos 512) _ (omega (arith, ints));
      count = whole_sum (hi -ℤ lo) _ (bytes_of c.args.size) (omega (arith, ints)) (omega (arith, ints));
      inside = omega (arith, ints);
    }

pub overflow_cast-first-2 : goal.overflow_cast-first-2
overflow_cast-first-2 c =
    let lo : ℤ = c.args.span.lo +ℤ c.args.offset in
    let hi : ℤ = c.args.span.hi +ℤ c.args.offset in
    let i = in_stack_is lo hi (bytes_of c.args.size) c.requires in
    (omega (arith, ints), omega (arith, ints))
