use Rattle.std.proofs.Common.{◌≡◌, drop, map}
use Rattle.clash_fields.specs.Fields.{with_parts}
use Rattle.clash_fields.specs.model.Views.{words_by}
use Rattle.clash_fields.proofs.reading.with_parts.Given as goal

-- the parts that are left do the rest
abbrev pub invariant-loop-part : goal.invariant-loop-part
invariant-loop-part l =
    with_parts (words_by l.fn.words) (map (λ part. part.now) l.parts)
    ≡ with_parts (words_by l.set) (map (λ part. part.now) (drop l.part-index l.parts))
