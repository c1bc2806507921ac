-- The meaning and the results of ranges in both orders, in terms of signed numbers.
use Rattle.std.specs.Prelude.{◌≡◌, ◌≢◌, ℕ, ◌-◌, ◌*◌, ◌≤◌, ◌^◌, ◌⊎◌, Bool, true, false, IsTrue, ℤ, pos, ◌+ℤ◌, ◌-ℤ◌, ◌≤ℤ◌, ◌<ℤ◌, Option, Some, None}
use Rattle.std.specs.Int.{int_shr, int_min, int_max}
use Rattle.instruction_set.specs.Machine.{bytes_of}
use Rattle.instruction_set.specs.Operations.{signed, shift_amount, IsMovSxBits, IsEndBits}
use Rattle.instruction_set.specs.declared.insn.Width.{Width}
use Rattle.instruction_set.specs.declared.insn.Width.TheVariants.{W32, W64}
use Rattle.instruction_set.specs.declared.insn.AluOp.{AluOp}
use Rattle.instruction_set.specs.declared.insn.AluOp.TheVariants.{Add, Sub, Mov, Arsh}
use Rattle.instruction_set.specs.declared.insn.EndKind.{EndKind}
use Rattle.instruction_set.specs.declared.insn.Size.{Size}
use Rattle.instruction_set.specs.declared.insn.Test.{Test}
use Rattle.instruction_set.specs.declared.insn.Test.TheVariants.{Jeq, Jne, Jsgt, Jsge, Jslt, Jsle}
use Rattle.abstract_value.specs.Ranges.{full_at, interval_ops, interval_alu, interval_neg, interval_mov_sx, interval_end, interval_load, interval_refine}
use Rattle.abstract_value.specs.Boths.{both_ops}
use Rattle.abstract_value.specs.declared.intervals.Interval.{Interval}
use Rattle.abstract_value.specs.declared.boths.Both.{Both}

-- ---- signed ranges

-- the number that a word with its sign bit flipped represents
abbrev pub number : ℕ → ℤ
number n = pos n -ℤ pos (2 ^ 63)

-- the least and the greatest number of a signed range
abbrev pub least : Interval → ℤ
least s = number s.lo

abbrev pub greatest : Interval → ℤ
greatest s = number s.hi

pub record HasEnds (s : Interval) (lo hi : ℤ) : Type 0 where
  pub low : least s ≡ lo
  pub high : greatest s ≡ hi

-- the least and the greatest signed number of a number of bits
abbrev pub least_of : ℕ → ℤ
least_of bits = pos 0 -ℤ pos (2 ^ (bits - 1))

abbrev pub greatest_of : ℕ → ℤ
greatest_of bits = pos (2 ^ (bits - 1)) -ℤ pos 1

abbrev pub HasNumbersOf : ℕ → Interval → Type 0
HasNumbersOf bits s = HasEnds s (least_of bits) (greatest_of bits)

abbrev pub HasAll : Interval → Type 0
HasAll s = HasNumbersOf 64 s

-- ---- values

-- a word lies in u and, read as a signed number, in s
pub record LiesIn (u s : Interval) (v : ℕ) : Type 0 where
  pub from : u.lo ≤ v
  pub to : v ≤ u.hi
  pub signed_from : least s ≤ℤ signed W64 v
  pub signed_to : signed W64 v ≤ℤ greatest s

-- a value represents the words that lie in two ranges
pub record StandsFor (u s : Interval) (a : Both) : Type 0 where
  pub kept : (v : ℕ) → LiesIn u s v → both_ops.holds a v
  pub exact : (v : ℕ) → both_ops.holds a v → LiesIn u s v

-- each end of its two ranges is such a word: the ranges are the hulls of its words
pub record IsHull (a : Both) : Type 0 where
  pub low : both_ops.holds a a.u.lo
  pub high : both_ops.holds a a.u.hi
  pub least : (v : ℕ) × (signed W64 v ≡ least a.s) × both_ops.holds a v
  pub greatest : (v : ℕ) × (signed W64 v ≡ greatest a.s) × both_ops.holds a v

-- ---- the signed range of a result, before it is cut to the words of both

-- the ends, if they are numbers of 64 bits, else all numbers
pub record ExactOrAll (lo hi : ℤ) (s : Interval) : Type 0 where
  pub stays : least_of 64 ≤ℤ lo → hi ≤ℤ greatest_of 64 → HasEnds s lo hi
  pub leaves : (lo <ℤ least_of 64) ⊎ (greatest_of 64 <ℤ hi) → HasAll s

-- shifted by one amount, else all numbers
pub record IsShifted (a by s : Interval) : Type 0 where
  pub once : by.lo ≡ by.hi
      → HasEnds s (int_shr (least a) (shift_amount W64 by.lo)) (int_shr (greatest a) (shift_amount W64 by.lo))
  pub several : by.lo ≢ by.hi → HasAll s

abbrev pub SignedAlu : Width → AluOp → Both → Both → Interval → Type 0
SignedAlu W64 Mov a b s = HasEnds s (least b.s) (greatest b.s)
SignedAlu W64 Add a b s = ExactOrAll (least a.s +ℤ least b.s) (greatest a.s +ℤ greatest b.s) s
SignedAlu W64 Sub a b s = ExactOrAll (least a.s -ℤ greatest b.s) (greatest a.s -ℤ least b.s) s
SignedAlu W64 Arsh a b s = IsShifted a.s b.u s
SignedAlu w op a b s = HasAll s

-- the range if it lies within the ends, else these
pub record KeptOrEnds (lo hi : ℤ) (a s : Interval) : Type 0 where
  pub inside : lo ≤ℤ least a → greatest a ≤ℤ hi → HasEnds s (least a) (greatest a)
  pub outside : (least a <ℤ lo) ⊎ (hi <ℤ greatest a) → HasEnds s lo hi

abbrev pub SignedMovSx : Width → ℕ → Both → Interval → Type 0
SignedMovSx W32 bits a s = HasAll s
SignedMovSx W64 bits a s = KeptOrEnds (least_of bits) (greatest_of bits) a.s s

abbrev pub SignedLoad : Size → Bool → Interval → Type 0
SignedLoad size false s = HasAll s
SignedLoad size true s = HasNumbersOf (8 * bytes_of size) s

-- ---- edges

-- two ranges with these ends; none where one has no number
abbrev pub HaveEnds : Option (Interval × Interval) → ℤ → ℤ → ℤ → ℤ → Type 0
HaveEnds None lo hi lo' hi' = (hi <ℤ lo) ⊎ (hi' <ℤ lo')
HaveEnds (Some p) lo hi lo' hi' = HasEnds p.0 lo hi × HasEnds p.1 lo' hi'

abbrev pub AreEqual : Interval → Interval → Option (Interval × Interval) → Type 0
AreEqual a b x =
    HaveEnds x (int_max (least a) (least b)) (int_min (greatest a) (greatest b))
    (int_max (least a) (least b)) (int_min (greatest a) (greatest b))

abbrev pub IsGreater : Interval → Interval → Option (Interval × Interval) → Type 0
IsGreater a b x =
    HaveEnds x (int_max (least a) (least b +ℤ pos 1)) (greatest a)
    (least b) (int_min (greatest b) (greatest a -ℤ pos 1))

abbrev pub IsAtLeast : Interval → Interval → Option (Interval × Interval) → Type 0
IsAtLeast a b x =
    HaveEnds x (int_max (least a) (least b)) (greatest a) (least b) (int_min (greatest b) (greatest a))

abbrev pub IsLess : Interval → Interval → Option (Interval × Interval) → Type 0
IsLess a b x =
    HaveEnds x (least a) (int_min (greatest a) (greatest b -ℤ pos 1))
    (int_max (least b) (least a +ℤ pos 1)) (greatest b)

abbrev pub IsAtMost : Interval → Interval → Option (Interval × Interval) → Type 0
IsAtMost a b x =
    HaveEnds x (least a) (int_min (greatest a) (greatest b)) (int_max (least b) (least a)) (greatest b)

-- both signed ranges on an edge: a signed test of 64 bits cuts them, and so does that two words are equal
abbrev pub SignedCut : Width → Test → Bool → Interval → Interval → Option (Interval × Interval) → Type 0
SignedCut W64 Jeq true a b x = AreEqual a b x
SignedCut W64 Jne false a b x = AreEqual a b x
SignedCut W64 Jsgt true a b x = IsGreater a b x
SignedCut W64 Jsgt false a b x = IsAtMost a b x
SignedCut W64 Jsge true a b x = IsAtLeast a b x
SignedCut W64 Jsge false a b x = IsLess a b x
SignedCut W64 Jslt true a b x = IsLess a b x
SignedCut W64 Jslt false a b x = IsAtLeast a b x
SignedCut W64 Jsle true a b x = IsAtMost a b x
SignedCut W64 Jsle false a b x = IsGreater a b x
SignedCut w test taken a b x = x ≡ Some (a, b)

-- both operands represent the words of both their ranges; an edge on which one has no word is dead
abbrev pub StandFor : Option (Interval × Interval) → Option (Interval × Interval) → Option (Both × Both) → Type 0
StandFor (Some p) (Some q) (Some r) = StandsFor p.0 q.0 r.0 × StandsFor p.1 q.1 r.1
StandFor (Some p) (Some q) None = ((v : ℕ) → LiesIn p.0 q.0 v → ⊥) ⊎ ((v : ℕ) → LiesIn p.1 q.1 v → ⊥)
StandFor p q r = r ≡ None

-- ---- all of them

pub record BothIsExact : Type 0 where
  -- a value represents the words of its ranges, which are their hulls
  pub value : (a : Both) → StandsFor a.u a.s a
  pub hull : (a : Both) → IsHull a
  -- with the same words it is the same value, and what has no other words is below
  pub same : (a b : Both) → ((v : ℕ) → both_ops.holds a v → both_ops.holds b v)
      → ((v : ℕ) → both_ops.holds b v → both_ops.holds a v) → a ≡ b
  pub below : (a b : Both) → ((v : ℕ) → both_ops.holds a v → both_ops.holds b v) → IsTrue (both_ops.below a b)
  -- the bounds are those of u, and the join is the hull of each range
  pub low : (a : Both) → both_ops.low a ≡ a.u.lo
  pub high : (a : Both) → both_ops.high a ≡ a.u.hi
  pub join_u : (a b : Both) → (both_ops.join a b).u ≡ interval_ops.join a.u b.u
  pub join_s : (a b : Both) → (both_ops.join a b).s ≡ interval_ops.join a.s b.s
  -- each operation computes u as for ranges of words, and s as above
  pub full : StandsFor (full_at 64) (full_at 64) both_ops.full
  pub single : (v : ℕ) → StandsFor (interval_ops.single v) (full_at 64) (both_ops.single v)
  pub alu : (w : Width) (op : AluOp) (a b : Both)
      → (s : Interval) × SignedAlu w op a b s × StandsFor (interval_alu w op a.u b.u) s (both_ops.alu w op a b)
  pub neg : (w : Width) (a : Both) → StandsFor (interval_neg w a.u) (full_at 64) (both_ops.neg w a)
  pub mov_sx : (w : Width) (bits : ℕ) (a : Both) → IsMovSxBits w bits
      → (s : Interval) × SignedMovSx w bits a s × StandsFor (interval_mov_sx w bits a.u) s (both_ops.mov_sx w bits a)
  pub end : (kind : EndKind) (bits : ℕ) (a : Both) → IsEndBits bits
      → StandsFor (interval_end kind bits a.u) (full_at 64) (both_ops.end kind bits a)
  pub load : (size : Size) (extended : Bool)
      → (s : Interval) × SignedLoad size extended s × StandsFor (interval_load size extended) s
      (both_ops.load size extended)
  pub refine : (w : Width) (test : Test) (taken : Bool) (a b : Both)
      → (x : Option (Interval × Interval)) × SignedCut w test taken a.s b.s x
      × StandFor (interval_refine w test taken a.u b.u) x (both_ops.refine w test taken a b)
