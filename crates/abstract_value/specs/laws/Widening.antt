-- A domain that knows no less than another: each value of the other has one in it, and each operation on those gives
-- no more than the other's result.
use Rattle.std.specs.Prelude.{◌≡◌, ℕ, Bool, IsTrue, Option, Some, None}
use Rattle.instruction_set.specs.Operations.{IsMovSxBits, IsEndBits}
use Rattle.instruction_set.specs.declared.insn.Width.{Width}
use Rattle.instruction_set.specs.declared.insn.AluOp.{AluOp}
use Rattle.instruction_set.specs.declared.insn.EndKind.{EndKind}
use Rattle.instruction_set.specs.declared.insn.Size.{Size}
use Rattle.instruction_set.specs.declared.insn.Test.{Test}
use Rattle.abstract_value.specs.Domain.{Ops, BelowPair}

abbrev pub lift_pair : {D E : Type 0} → (D → E) → Option (D × D) → Option (E × E)
lift_pair f None = None
lift_pair f (Some p) = Some (f p.0, f p.1)

pub record Widens {D E : Type 0} (o : Ops D) (p : Ops E) : Type 0 where
  -- the same words in the other domain, with the same bounds
  pub lift : D → E
  pub low : (a : D) → p.low (lift a) ≡ o.low a
  pub high : (a : D) → p.high (lift a) ≡ o.high a
  pub single : (v : ℕ) → p.single v ≡ lift (o.single v)
  pub below : (a b : D) → IsTrue (o.below a b) → IsTrue (p.below (lift a) (lift b))
  -- each operation gives no more
  pub alu : (w : Width) (op : AluOp) (a b : D) → IsTrue (p.below (p.alu w op (lift a) (lift b)) (lift (o.alu w op a b)))
  pub neg : (w : Width) (a : D) → IsTrue (p.below (p.neg w (lift a)) (lift (o.neg w a)))
  pub mov_sx : (w : Width) (bits : ℕ) (a : D) → IsMovSxBits w bits
      → IsTrue (p.below (p.mov_sx w bits (lift a)) (lift (o.mov_sx w bits a)))
  pub end : (kind : EndKind) (bits : ℕ) (a : D) → IsEndBits bits
      → IsTrue (p.below (p.end kind bits (lift a)) (lift (o.end kind bits a)))
  pub load : (size : Size) (signed : Bool) → IsTrue (p.below (p.load size signed) (lift (o.load size signed)))
  pub refine : (w : Width) (t : Test) (taken : Bool) (a b : D)
      → BelowPair p (p.refine w t taken (lift a) (lift b)) (lift_pair lift (o.refine w t taken a b))
