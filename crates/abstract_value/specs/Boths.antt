-- The operations on pairs of ranges. The range u is the operation's on ranges of words, s has separate rows, and then
-- the pair is normalized.
use Rattle.std.specs.Prelude.{ℕ, ◌+◌, ◌-◌, ◌*◌, ◌/◌, ◌^◌, Bool, true, false, ◌&&◌, nat_lt, nat_le, if◌then◌else◌, Option, Some, None}
use Rattle.instruction_set.specs.Machine.{bytes_of}
use Rattle.instruction_set.specs.Operations.{shift_amount}
use Rattle.instruction_set.specs.declared.insn.Width.{Width}
use Rattle.instruction_set.specs.declared.insn.Width.TheVariants.{W32, W64}
use Rattle.instruction_set.specs.declared.insn.AluOp.{AluOp}
use Rattle.instruction_set.specs.declared.insn.AluOp.TheVariants.{Add, Sub, Mov, Arsh}
use Rattle.instruction_set.specs.declared.insn.Size.{Size}
use Rattle.instruction_set.specs.declared.insn.Test.{Test}
use Rattle.instruction_set.specs.declared.insn.Test.TheVariants.{Jeq, Jgt, Jge, Jne, Jsgt, Jsge, Jlt, Jle, Jslt, Jsle}
use Rattle.abstract_value.specs.Domain.{Ops}
use Rattle.abstract_value.specs.SignedWords.{InBoth}
use Rattle.abstract_value.specs.model.NormalForms.{shaped, normal, lift}
use Rattle.abstract_value.specs.laws.Halves.{joined_normal}
use Rattle.abstract_value.specs.Ranges.{make, only, is_single, full_at, interval_ops, interval_alu, interval_neg, interval_mov_sx, interval_end, interval_load, interval_refine, refine_row}
use Rattle.abstract_value.specs.declared.intervals.Interval.{Interval}
use Rattle.abstract_value.specs.declared.boths.Both.{Both}

-- ---- the rows of s

-- the sums, if none leaves the signed range
abbrev pub signed_add : Interval → Interval → Interval
signed_add a b =
    if nat_le (2 ^ 63) (a.lo + b.lo) && nat_lt (a.hi + b.hi) (2 ^ 64 + 2 ^ 63)
    then make (a.lo + b.lo - 2 ^ 63) (a.hi + b.hi - 2 ^ 63)
    else full_at 64

-- the differences, if none leaves the signed range
abbrev pub signed_sub : Interval → Interval → Interval
signed_sub a b =
    if nat_le b.hi (a.lo + 2 ^ 63) && nat_lt (a.hi + 2 ^ 63) (b.lo + 2 ^ 64)
    then make (a.lo + 2 ^ 63 - b.hi) (a.hi + 2 ^ 63 - b.lo)
    else full_at 64

-- by one amount: a flipped word shifted is 2 ^ 63 / 2 ^ n in place of 2 ^ 63 above the number shifted
abbrev pub signed_shift : Interval → Interval → Interval
signed_shift a by =
    let n = shift_amount W64 by.lo in
    if is_single by then make (a.lo / 2 ^ n + (2 ^ 63 - 2 ^ (63 - n))) (a.hi / 2 ^ n + (2 ^ 63 - 2 ^ (63 - n)))
    else full_at 64

abbrev pub signed_alu : Width → AluOp → Both → Both → Interval
signed_alu W64 Mov a b = b.s
signed_alu W64 Add a b = signed_add a.s b.s
signed_alu W64 Sub a b = signed_sub a.s b.s
signed_alu W64 Arsh a b = signed_shift a.s b.u
signed_alu w op a b = full_at 64

-- the signed numbers of a number of bits
abbrev pub signed_bits : ℕ → Interval
signed_bits bits = make (2 ^ 63 - 2 ^ (bits - 1)) (2 ^ 63 + 2 ^ (bits - 1) - 1)

abbrev pub signed_mov_sx : Width → ℕ → Both → Interval
signed_mov_sx W32 bits a = full_at 64
signed_mov_sx W64 bits a = if interval_ops.below a.s (signed_bits bits) then a.s else signed_bits bits

abbrev pub signed_load : Size → Bool → Interval
signed_load size false = full_at 64
signed_load size true = signed_bits (8 * bytes_of size)

-- a signed test of 64 bits cuts s as its unsigned kin cuts u, and where two words are equal both are in both
abbrev pub signed_refine : Width → Test → Bool → Interval → Interval → Option (Interval × Interval)
signed_refine W64 Jeq true a b = refine_row Jeq true a b
signed_refine W64 Jne false a b = refine_row Jne false a b
signed_refine W64 Jsgt taken a b = refine_row Jgt taken a b
signed_refine W64 Jsge taken a b = refine_row Jge taken a b
signed_refine W64 Jslt taken a b = refine_row Jlt taken a b
signed_refine W64 Jsle taken a b = refine_row Jle taken a b
signed_refine w test taken a b = Some (a, b)

-- ---- all of them

-- the hull of each range
abbrev pub both_join : Both → Both → Both
both_join a b = record {
  u = interval_ops.join a.u b.u;
  s = interval_ops.join a.s b.s;
  normal = joined_normal a.u a.s b.u b.s a.normal b.normal;
}

abbrev pub pair_of : Option Both → Option Both → Option (Both × Both)
pair_of None b = None
pair_of (Some a) None = None
pair_of (Some a) (Some b) = Some (a, b)

abbrev pub normal_pair : Option (Interval × Interval) → Option (Interval × Interval) → Option (Both × Both)
normal_pair None q = None
normal_pair (Some p) None = None
normal_pair (Some p) (Some q) = pair_of (normal p.0 q.0) (normal p.1 q.1)

abbrev pub both_ops : Ops Both
both_ops = record {
  holds = λ a v. InBoth a.u a.s v;
  full = lift (full_at 64);
  single = λ v. lift (only v);
  low = λ a. a.u.lo;
  high = λ a. a.u.hi;
  below = λ a b. interval_ops.below a.u b.u && interval_ops.below a.s b.s;
  join = both_join;
  alu = λ w op a b. shaped (interval_alu w op a.u b.u) (signed_alu w op a b);
  neg = λ w a. lift (interval_neg w a.u);
  mov_sx = λ w bits a. shaped (interval_mov_sx w bits a.u) (signed_mov_sx w bits a);
  end = λ kind bits a. lift (interval_end kind bits a.u);
  load = λ size signed. shaped (interval_load size signed) (signed_load size signed);
  refine = λ w test taken a b. normal_pair (interval_refine w test taken a.u b.u) (signed_refine w test taken a.s b.s);
}
