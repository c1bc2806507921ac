-- States over a domain are ordered, and their join is the least above both.
use Rattle.std.specs.Prelude.{◌≡◌, ℕ, IsTrue}
use Rattle.abstract_value.specs.Domain.{Ops}
use Rattle.abstract_value.specs.StackBytes.{with_marks}
use Rattle.abstract_value.specs.States.{reg_below, reg_join, View, ViewBelow, view_join, with_register, with_written}
use Rattle.abstract_value.specs.declared.states.RegState.{RegState}

pub record StateOrder {D : Type 0} (o : Ops D) : Type 0 where
  -- registers: below is an order, and the join is the least above both
  pub reg_same : (a : RegState D) → IsTrue (reg_below o a a)
  pub reg_through : (a b c : RegState D) → IsTrue (reg_below o a b) → IsTrue (reg_below o b c)
      → IsTrue (reg_below o a c)
  pub reg_both : (a b : RegState D) → IsTrue (reg_below o a b) → IsTrue (reg_below o b a) → a ≡ b
  pub reg_left : (a b : RegState D) → IsTrue (reg_below o a (reg_join o a b))
  pub reg_right : (a b : RegState D) → IsTrue (reg_below o b (reg_join o a b))
  pub reg_least : (a b c : RegState D) → IsTrue (reg_below o a c) → IsTrue (reg_below o b c)
      → IsTrue (reg_below o (reg_join o a b) c)
  -- states: below is reflexive and transitive, and the join is the least above both
  pub view_same : (s : View D) → ViewBelow o s s
  pub view_through : (s t u : View D) → ViewBelow o s t → ViewBelow o t u → ViewBelow o s u
  pub view_left : (s t : View D) → ViewBelow o s (view_join o s t)
  pub view_right : (s t : View D) → ViewBelow o t (view_join o s t)
  pub view_least : (s t u : View D) → ViewBelow o s u → ViewBelow o t u → ViewBelow o (view_join o s t) u
  -- a change of a register, and a mark of bytes, keep the order
  pub register_below : (s t : View D) (r : ℕ) (x y : RegState D) → ViewBelow o s t → IsTrue (reg_below o x y)
      → ViewBelow o (with_register s r x) (with_register t r y)
  pub mark_below : (s t : View D) (from n : ℕ) → ViewBelow o s t
      → ViewBelow o (with_written s (with_marks s.written from n)) (with_written t (with_marks t.written from n))
