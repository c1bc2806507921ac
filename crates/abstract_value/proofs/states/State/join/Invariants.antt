use Rattle.std.proofs.Common.{◌≡◌, ℕ, cond, ltb}
use Rattle.abstract_value.specs.States.{view, reg_join}
use Rattle.abstract_value.proofs.states.State.join.Given as goal

-- the registers before this one are joined
abbrev pub invariant-loop-i : goal.invariant-loop-i
invariant-loop-i g l = record {
  joined : (r : ℕ)
      → (view l.self).registers r
      ≡ cond (ltb r l.i) (reg_join g.D.Domain.ops ((view l.fn.self).registers r) ((view l.other).registers r))
      ((view l.fn.self).registers r);
  written : (view l.self).written ≡ (view l.fn.self).written;
}
