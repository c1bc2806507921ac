-- The operations of a domain, and their laws.
use Rattle.std.specs.Prelude.{◌≡◌, ℕ, ◌*◌, ◌≤◌, ◌<◌, ◌^◌, Bool, true, false, IsTrue, Option, Some, None}
use Rattle.instruction_set.specs.Machine.{bytes_of}
use Rattle.instruction_set.specs.Operations.{alu_of, neg_of, mov_sx_of, end_of, is_taken, IsMovSxBits, IsEndBits}
use Rattle.instruction_set.specs.declared.insn.Width.{Width}
use Rattle.instruction_set.specs.declared.insn.Width.TheVariants.{W64}
use Rattle.instruction_set.specs.declared.insn.AluOp.{AluOp}
use Rattle.instruction_set.specs.declared.insn.EndKind.{EndKind}
use Rattle.instruction_set.specs.declared.insn.Size.{Size}
use Rattle.instruction_set.specs.declared.insn.Test.{Test}

-- the result of each method
pub record Ops (D : Type 0) : Type 1 where
  -- the words that a value holds
  pub holds : D → ℕ → Type 0
  pub full : D
  pub single : ℕ → D
  pub low : D → ℕ
  pub high : D → ℕ
  pub below : D → D → Bool
  pub join : D → D → D
  pub alu : Width → AluOp → D → D → D
  pub neg : Width → D → D
  pub mov_sx : Width → ℕ → D → D
  pub end : EndKind → ℕ → D → D
  pub load : Size → Bool → D
  pub refine : Width → Test → Bool → D → D → Option (D × D)

-- a refined pair that holds both words; a dead edge holds none
abbrev pub Keeps : {D : Type 0} → Ops D → Option (D × D) → ℕ → ℕ → Type 0
Keeps o None v w = ⊥
Keeps o (Some p) v w = o.holds p.0 v × o.holds p.1 w

-- a refined pair below another; a dead edge is below all
abbrev pub BelowPair : {D : Type 0} → Ops D → Option (D × D) → Option (D × D) → Type 0
BelowPair o None q = Unit {0}
BelowPair o (Some p) None = ⊥
BelowPair o (Some p) (Some q) = IsTrue (o.below p.0 q.0) × IsTrue (o.below p.1 q.1)

-- the laws of the operations
pub record Laws {D : Type 0} (o : Ops D) : Type 0 where
  -- below is an order, and a greater value holds more
  pub below_same : (a : D) → IsTrue (o.below a a)
  pub below_through : (a b c : D) → IsTrue (o.below a b) → IsTrue (o.below b c) → IsTrue (o.below a c)
  pub below_both : (a b : D) → IsTrue (o.below a b) → IsTrue (o.below b a) → a ≡ b
  pub holds_above : (a b : D) (v : ℕ) → IsTrue (o.below a b) → o.holds a v → o.holds b v
  -- full is above all and holds all words
  pub full_above : (a : D) → IsTrue (o.below a o.full)
  pub full_holds : (v : ℕ) → v < 2 ^ 64 → o.holds o.full v
  pub single_holds : (v : ℕ) → v < 2 ^ 64 → o.holds (o.single v) v
  -- the bounds are words in order, hold, and widen
  pub bounds_hold : (a : D) (v : ℕ) → o.holds a v → (o.low a ≤ v) × (v ≤ o.high a)
  pub bounds_ordered : (a : D) → o.low a ≤ o.high a
  pub bounds_fit : (a : D) → o.high a < 2 ^ 64
  pub bounds_widen : (a b : D) → IsTrue (o.below a b) → (o.low b ≤ o.low a) × (o.high a ≤ o.high b)
  -- the join is the least above both
  pub join_left : (a b : D) → IsTrue (o.below a (o.join a b))
  pub join_right : (a b : D) → IsTrue (o.below b (o.join a b))
  pub join_least : (a b c : D) → IsTrue (o.below a c) → IsTrue (o.below b c) → IsTrue (o.below (o.join a b) c)
  -- each operation holds every result on held words, and is monotone
  pub alu_holds : (w : Width) (op : AluOp) (a b : D) (v u : ℕ) → o.holds a v → o.holds b u
      → o.holds (o.alu w op a b) (alu_of w op v u)
  pub alu_monotone : (w : Width) (op : AluOp) (a b c d : D) → IsTrue (o.below a c) → IsTrue (o.below b d)
      → IsTrue (o.below (o.alu w op a b) (o.alu w op c d))
  pub neg_holds : (w : Width) (a : D) (v : ℕ) → o.holds a v → o.holds (o.neg w a) (neg_of w v)
  pub neg_monotone : (w : Width) (a c : D) → IsTrue (o.below a c) → IsTrue (o.below (o.neg w a) (o.neg w c))
  pub mov_sx_holds : (w : Width) (bits : ℕ) (a : D) (v : ℕ) → IsMovSxBits w bits → o.holds a v
      → o.holds (o.mov_sx w bits a) (mov_sx_of w bits v)
  pub mov_sx_monotone : (w : Width) (bits : ℕ) (a c : D) → IsMovSxBits w bits → IsTrue (o.below a c)
      → IsTrue (o.below (o.mov_sx w bits a) (o.mov_sx w bits c))
  pub end_holds : (kind : EndKind) (bits : ℕ) (a : D) (v : ℕ) → IsEndBits bits → o.holds a v
      → o.holds (o.end kind bits a) (end_of kind bits v)
  pub end_monotone : (kind : EndKind) (bits : ℕ) (a c : D) → IsEndBits bits → IsTrue (o.below a c)
      → IsTrue (o.below (o.end kind bits a) (o.end kind bits c))
  pub load_holds : (size : Size) (v : ℕ) → v < 2 ^ (8 * bytes_of size) → o.holds (o.load size false) v
  pub load_sx_holds : (size : Size) (v : ℕ) → v < 2 ^ (8 * bytes_of size)
      → o.holds (o.load size true) (mov_sx_of W64 (8 * bytes_of size) v)
  -- a refined pair keeps all words that take the edge, and is monotone
  pub refine_keeps : (w : Width) (t : Test) (taken : Bool) (a b : D) (v u : ℕ) → o.holds a v → o.holds b u
      → is_taken w t v u ≡ taken → Keeps o (o.refine w t taken a b) v u
  pub refine_monotone : (w : Width) (t : Test) (taken : Bool) (a b c d : D) → IsTrue (o.below a c)
      → IsTrue (o.below b d) → BelowPair o (o.refine w t taken a b) (o.refine w t taken c d)
