-- The operations on ranges of words, row by row. A range represents the words from its low end to its high end.
use Rattle.std.specs.Prelude.{ℕ, ◌+◌, ◌-◌, ◌*◌, ◌/◌, ◌%◌, ◌≤◌, ◌^◌, min, max, Bool, true, false, ◌&&◌, ◌==◌, nat_lt, nat_le, if◌then◌else◌, Option, Some, None}
use Rattle.std.specs.Int.{w64, leading_zeros}
use Rattle.instruction_set.specs.Machine.{bytes_of}
use Rattle.instruction_set.specs.Operations.{bits_of, shift_amount, alu_of, neg_of, mov_sx_of, end_of}
use Rattle.instruction_set.specs.declared.insn.Width.{Width}
use Rattle.instruction_set.specs.declared.insn.Width.TheVariants.{W32, W64}
use Rattle.instruction_set.specs.declared.insn.AluOp.{AluOp}
use Rattle.instruction_set.specs.declared.insn.AluOp.TheVariants.{Add, Sub, Mul, Div, SDiv, Or, And, Lsh, Rsh, Mod, SMod, Xor, Mov, Arsh}
use Rattle.instruction_set.specs.declared.insn.EndKind.{EndKind}
use Rattle.instruction_set.specs.declared.insn.EndKind.TheVariants.{Little, Big, Swap}
use Rattle.instruction_set.specs.declared.insn.Size.{Size}
use Rattle.instruction_set.specs.declared.insn.Test.{Test}
use Rattle.instruction_set.specs.declared.insn.Test.TheVariants.{Jeq, Jgt, Jge, Jset, Jne, Jsgt, Jsge, Jlt, Jle, Jslt, Jsle}
use Rattle.abstract_value.specs.Domain.{Ops}
use Rattle.abstract_value.specs.laws.Ends.{range_ordered, range_fits}
use Rattle.abstract_value.specs.declared.intervals.Interval.{Interval}

-- ---- ranges

-- from lo to hi, where these are in order and are words
abbrev pub make : ℕ → ℕ → Interval
make lo hi = record {
  lo = min lo (min hi (2 ^ 64 - 1));
  hi = min hi (2 ^ 64 - 1);
  ordered = range_ordered lo hi;
  fits = range_fits hi;
}

-- one word alone
abbrev pub only : ℕ → Interval
only v = make v v

abbrev pub is_single : Interval → Bool
is_single a = a.lo == a.hi

-- all words of a number of bits
abbrev pub full_at : ℕ → Interval
full_at bits = make 0 (2 ^ bits - 1)

-- from lo to hi; none where these aren't in order
abbrev pub nonempty : ℕ → ℕ → Option Interval
nonempty lo hi = if nat_le lo hi then Some (make lo hi) else None

-- ---- operations on two operands

-- the sums, if no pair wraps or every pair does
abbrev pub add_row : ℕ → Interval → Interval → Interval
add_row bits a b =
    if nat_lt (a.hi + b.hi) (2 ^ bits) then make (a.lo + b.lo) (a.hi + b.hi)
    else (if nat_le (2 ^ bits) (a.lo + b.lo) then make (a.lo + b.lo - 2 ^ bits) (a.hi + b.hi - 2 ^ bits)
    else full_at bits)

-- the differences, if no pair wraps or every pair does
abbrev pub sub_row : ℕ → Interval → Interval → Interval
sub_row bits a b =
    if nat_le b.hi a.lo then make (a.lo - b.hi) (a.hi - b.lo)
    else (if nat_lt a.hi b.lo then make (a.lo + 2 ^ bits - b.hi) (a.hi + 2 ^ bits - b.lo)
    else full_at bits)

-- the products, if none wraps
abbrev pub mul_row : ℕ → Interval → Interval → Interval
mul_row bits a b = if nat_lt (a.hi * b.hi) (2 ^ bits) then make (a.lo * b.lo) (a.hi * b.hi) else full_at bits

-- the quotients; a quotient by zero is 0
abbrev pub div_row : Interval → Interval → Interval
div_row a b = if nat_lt 0 b.lo then make (a.lo / b.hi) (a.hi / b.lo) else make 0 a.hi

-- the remainders; a remainder by zero is the number itself
abbrev pub mod_row : Interval → Interval → Interval
mod_row a b =
    if b.lo == 0 then make 0 a.hi
    else (if nat_lt a.hi b.lo then a
    else make 0 (min a.hi (b.hi - 1)))

-- an and is at most either word
abbrev pub and_row : Interval → Interval → Interval
and_row a b = make 0 (min a.hi b.hi)

-- the number of binary digits of a word
abbrev pub bit_length : ℕ → ℕ
bit_length n = 64 - leading_zeros w64 n

-- from a low end to the greatest word of as many binary digits as the greater high end has
abbrev pub digits_row : ℕ → Interval → Interval → Interval
digits_row lo a b = make lo (2 ^ bit_length (max a.hi b.hi) - 1)

-- by one amount, if no bit is lost
abbrev pub lsh_row : Width → Interval → Interval → Interval
lsh_row w a b =
    let factor = 2 ^ shift_amount w b.lo in
    if is_single b && nat_lt (a.hi * factor) (2 ^ bits_of w) then make (a.lo * factor) (a.hi * factor) else full_at
    (bits_of w)

-- by one amount; more amounts leave no more than the number
abbrev pub rsh_row : Width → Interval → Interval → Interval
rsh_row w a b =
    let factor = 2 ^ shift_amount w b.lo in
    if is_single b then make (a.lo / factor) (a.hi / factor) else make 0 a.hi

-- filled by zeros, if the sign bit can't be set
abbrev pub arsh_row : Width → Interval → Interval → Interval
arsh_row w a b = if nat_lt a.hi (2 ^ (bits_of w - 1)) then rsh_row w a b else full_at (bits_of w)

-- the row of an operation on operands that aren't both single
abbrev pub alu_row : Width → AluOp → Interval → Interval → Interval
alu_row w Add a b = add_row (bits_of w) a b
alu_row w Sub a b = sub_row (bits_of w) a b
alu_row w Mul a b = mul_row (bits_of w) a b
alu_row w Div a b = div_row a b
alu_row w SDiv a b = full_at (bits_of w)
alu_row w Or a b = digits_row (max a.lo b.lo) a b
alu_row w And a b = and_row a b
alu_row w Lsh a b = lsh_row w a b
alu_row w Rsh a b = rsh_row w a b
alu_row w Mod a b = mod_row a b
alu_row w SMod a b = full_at (bits_of w)
alu_row w Xor a b = digits_row 0 a b
alu_row w Mov a b = b
alu_row w Arsh a b = arsh_row w a b

-- an operand of a 32-bit operation is its low half
abbrev pub cut : Width → Interval → Interval
cut W64 a = a
cut W32 a = if nat_lt a.hi (2 ^ 32) then a else (if is_single a then only (a.lo % 2 ^ 32) else full_at 32)

-- on operands of the width
abbrev pub alu_of_cut : Width → AluOp → Interval → Interval → Interval
alu_of_cut w op a b = if is_single a && is_single b then only (alu_of w op a.lo b.lo) else alu_row w op a b

abbrev pub interval_alu : Width → AluOp → Interval → Interval → Interval
interval_alu w op a b = alu_of_cut w op (cut w a) (cut w b)

-- ---- operations on one operand

-- only a single word is tracked
abbrev pub neg_of_cut : Width → Interval → Interval
neg_of_cut w a = if is_single a then only (neg_of w a.lo) else full_at (bits_of w)

abbrev pub interval_neg : Width → Interval → Interval
interval_neg w a = neg_of_cut w (cut w a)

-- numbers below the sign bit stay
abbrev pub mov_sx_of_cut : Width → ℕ → Interval → Interval
mov_sx_of_cut w bits a =
    if is_single a then only (mov_sx_of w bits a.lo)
    else (if nat_lt a.hi (2 ^ (bits - 1)) then a
    else full_at (bits_of w))

abbrev pub interval_mov_sx : Width → ℕ → Interval → Interval
interval_mov_sx w bits a = mov_sx_of_cut w bits (cut w a)

-- numbers of that many bits stay, if the bytes keep their order
abbrev pub end_row : EndKind → ℕ → Interval → Interval
end_row Little bits a = if nat_lt a.hi (2 ^ bits) then a else full_at bits
end_row Big bits a = full_at bits
end_row Swap bits a = full_at bits

abbrev pub interval_end : EndKind → ℕ → Interval → Interval
interval_end kind bits a = if is_single a then only (end_of kind bits a.lo) else end_row kind bits a

-- all words of the size; a sign may be extended to any word
abbrev pub interval_load : Size → Bool → Interval
interval_load size false = full_at (8 * bytes_of size)
interval_load size true = full_at 64

-- ---- refinement

-- two ranges that may be empty as a pair; none if one of them is
abbrev pub both : Option Interval → Option Interval → Option (Interval × Interval)
both None y = None
both (Some x) None = None
both (Some x) (Some y) = Some (x, y)

abbrev pub where_equal : Interval → Interval → Option (Interval × Interval)
where_equal a b = both (nonempty (max a.lo b.lo) (min a.hi b.hi)) (nonempty (max a.lo b.lo) (min a.hi b.hi))

-- a without its ends that are b's only word
abbrev pub without_end : Interval → Interval → Option Interval
without_end a b =
    if is_single b then nonempty (if a.lo == b.lo then a.lo + 1 else a.lo) (if a.hi == b.lo then a.hi - 1 else a.hi)
    else Some a

abbrev pub where_different : Interval → Interval → Option (Interval × Interval)
where_different a b = both (without_end a b) (without_end b a)

abbrev pub where_greater : Interval → Interval → Option (Interval × Interval)
where_greater a b = both (nonempty (max a.lo (b.lo + 1)) a.hi) (nonempty b.lo (min b.hi (a.hi - 1)))

abbrev pub where_at_least : Interval → Interval → Option (Interval × Interval)
where_at_least a b = both (nonempty (max a.lo b.lo) a.hi) (nonempty b.lo (min b.hi a.hi))

abbrev pub where_less : Interval → Interval → Option (Interval × Interval)
where_less a b = both (nonempty a.lo (min a.hi (b.hi - 1))) (nonempty (max b.lo (a.lo + 1)) b.hi)

abbrev pub where_at_most : Interval → Interval → Option (Interval × Interval)
where_at_most a b = both (nonempty a.lo (min a.hi b.hi)) (nonempty (max b.lo a.lo) b.hi)

-- the edge that is taken, and the one that isn't; a bitwise test and the signed ones cut nothing
abbrev pub refine_row : Test → Bool → Interval → Interval → Option (Interval × Interval)
refine_row Jeq true a b = where_equal a b
refine_row Jeq false a b = where_different a b
refine_row Jne true a b = where_different a b
refine_row Jne false a b = where_equal a b
refine_row Jgt true a b = where_greater a b
refine_row Jgt false a b = where_at_most a b
refine_row Jge true a b = where_at_least a b
refine_row Jge false a b = where_less a b
refine_row Jlt true a b = where_less a b
refine_row Jlt false a b = where_at_least a b
refine_row Jle true a b = where_at_most a b
refine_row Jle false a b = where_greater a b
refine_row Jset taken a b = Some (a, b)
refine_row Jsgt taken a b = Some (a, b)
refine_row Jsge taken a b = Some (a, b)
refine_row Jslt taken a b = Some (a, b)
refine_row Jsle taken a b = Some (a, b)

-- a test of the low halves cuts only words that are their low halves
abbrev pub interval_refine : Width → Test → Bool → Interval → Interval → Option (Interval × Interval)
interval_refine w test taken a b =
    if nat_lt a.hi (2 ^ bits_of w) && nat_lt b.hi (2 ^ bits_of w) then refine_row test taken a b else Some (a, b)

-- ---- all of them

abbrev pub interval_ops : Ops Interval
interval_ops = record {
  holds = λ a v. (a.lo ≤ v) × (v ≤ a.hi);
  full = full_at 64;
  single = only;
  low = λ a. a.lo;
  high = λ a. a.hi;
  below = λ a b. nat_le b.lo a.lo && nat_le a.hi b.hi;
  join = λ a b. make (min a.lo b.lo) (max a.hi b.hi);
  alu = interval_alu;
  neg = interval_neg;
  mov_sx = interval_mov_sx;
  end = interval_end;
  load = interval_load;
  refine = interval_refine;
}
