use Rattle.std.proofs.Common.{◌≡◌, ◌∙◌, ℕ, ◌+◌, ◌-◌, ap, arith, List, length, take, drop, take-add, length-drop, take_all}
use Rattle.std.proofs.KnownBytes.{Appends-kept, Appends-trans}
use Rattle.std.proofs.lemmas.List.{drop-drop}
use Rattle.device.proofs.sending.send.Goals as goal
use Rattle.device.proofs.sending.send.Goals.{in-Ok-2, in-Err+else-not-is_interruption}

-- what is left of a rest from a place in it on
left : (bytes rest : List ℕ) (sent n : ℕ) → rest ≡ drop sent bytes
    → take (length rest - n) (drop n rest) ≡ drop (sent + n) bytes
left bytes rest sent n e =
    take_all (length rest - n) (drop n rest) (omega (arith, length-drop n rest))
    ∙ ap (drop n) e ∙ drop-drop n sent bytes

pub returns-in-Ok-clause-front : goal.returns-in-Ok-clause-front
returns-in-Ok-clause-front g c =
    let before = c.writes.invariant in
    let more = rw before.2 at c.in-Ok.ensures.bytes in (
      before.0 + c.in-Ok.n,
      rw (take-add before.0 c.in-Ok.n c.args.bytes.now)
          (Appends-trans _ _ _ _ _ before.3 more),
    )

pub writes-preserved : goal.writes-preserved
writes-preserved g c =
    let before = c.writes.invariant in
    elim c.match-write.branch [
      | in-Ok-2 w ↦
          let more = rw before.2 at w.in-Ok.ensures.bytes in
          let bound = rw before.2 at w.in-Ok.ensures.bound in
          rw w.rest-is (
            before.0 + w.in-Ok.n,
            omega (arith, before.1, bound, length-drop before.0 c.args.bytes.now),
            left c.args.bytes.now c.writes.rest.now before.0 w.in-Ok.n before.2,
            rw (take-add before.0 w.in-Ok.n c.args.bytes.now) (Appends-trans _ _ _ _ _ before.3 more),
          )
      | in-Err+else-not-is_interruption w ↦ rw w.rest-is
          (before.0, before.1, before.2, Appends-kept _ _ _ _ before.3 w.in-Err.ensures.bytes)
    ]
