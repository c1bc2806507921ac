use Rattle.std.proofs.Common.{◌≡◌, ℕ, ◌∙◌, ◌≤◌, ◌&&◌, ap, sym}
use Rattle.abstract_value.specs.StackBytes.{is_written}
use Rattle.abstract_value.specs.States.{View, view, reg_join, view_join}
use Rattle.abstract_value.proofs.JoinPlaceByPlace.{view_ext, registers_past, joined_more, not_yet, joined_all}
use Rattle.abstract_value.proofs.states.State.join.Goals as goal

pub loop-i-preserved : goal.loop-i-preserved
loop-i-preserved g c =
    let o = g.D.Domain.ops in
    let old = view c.args.self.now in
    let other = view c.args.other.now in
    let joined = view c.loop-i.self in
    let i = c.loop-i.i in
    let both = λ (r : ℕ). reg_join o (old.registers r) (other.registers r) in
    record {
      joined = joined_more both old.registers joined.registers (view c.join_register.new.self).registers i
          (reg_join o (joined.registers i) (other.registers i)) c.loop-i.invariant.joined
          (λ r. ap (λ (s : View g.row.D.Denot). s.registers r) c.join_register.ensures)
          (ap (λ x. reg_join o x (other.registers i))
          (not_yet both old.registers joined.registers i c.loop-i.invariant.joined));
      written = ap (λ (s : View g.row.D.Denot). s.written) c.join_register.ensures ∙ c.loop-i.invariant.written;
    }

pub returns : goal.returns
returns g c =
    let o = g.D.Domain.ops in
    let old = view c.args.self.now in
    let other = view c.args.other.now in
    let both = λ (r : ℕ). reg_join o (old.registers r) (other.registers r) in
    let past : (r : ℕ) → 11 ≤ r → both r ≡ old.registers r = λ r h.
    ap (λ x. reg_join o x (other.registers r)) (registers_past c.args.self.now r h)
    ∙ sym (registers_past c.args.self.now r h) in
    view_ext _ (view_join o old other)
    (joined_all both old.registers (view c.loop-i.self).registers 11 c.loop-i.i c.loop-i-test.false past
    c.loop-i.invariant.joined)
    (λ k. c.intersect.ensures k
    ∙ ap (λ (w : ℕ → _). w k && is_written c.args.other.now.stack k) c.loop-i.invariant.written)
