-- What passes the rules passes them in each state below, and what is carried keeps the order.
use Rattle.std.proofs.Common.{◌≡◌, ℕ, ◌+◌, ◌≤◌, Bool, true, false, cond, ◌==◌, ◌&&◌, ◌||◌, inl, inr, refl, ap, ap₂, ◌∙◌, sym, subst, arith, List, [], ◌∷◌, Option, Some, None, ℤ}
use Rattle.std.specs.Prelude.{IsTrue, pos, ◌≤ℤ◌, ◌+ℤ◌, ◌-ℤ◌, nat_le, nat_lt, int_le, not}
use Rattle.std.specs.List.{list_all}
use Rattle.std.specs.Int.{w64, cast_unsigned}
use Rattle.std.proofs.lemmas.Int.{ints}
use Rattle.instruction_set.specs.Slots.{IsListed}
use Rattle.instruction_set.specs.Machine.{stack_len, bytes_of}
use Rattle.instruction_set.specs.Operations.{low}
use Rattle.instruction_set.specs.declared.insn.Size.{Size}
use Rattle.instruction_set.specs.declared.insn.Width.{Width}
use Rattle.instruction_set.specs.declared.insn.Width.TheVariants.{W32, W64}
use Rattle.instruction_set.specs.declared.insn.Test.{Test}
use Rattle.instruction_set.specs.declared.insn.AluOp.{AluOp}
use Rattle.instruction_set.specs.declared.insn.AluOp.TheVariants.{Add, Sub, Mov}
use Rattle.instruction_set.specs.declared.insn.Register.{Register}
use Rattle.instruction_set.specs.declared.insn.Source.{Source}
use Rattle.instruction_set.specs.declared.insn.Source.TheVariants.{Imm, Reg}
use Rattle.instruction_set.specs.declared.insn.Insn.{Insn}
use Rattle.instruction_set.specs.declared.insn.Insn.TheVariants.{Alu, Neg, MovSx, End, LoadWide, Load, LoadSx, Store, StoreImm, Jump, JumpLong, JumpIf, Exit}
use Rattle.abstract_value.specs.Domain.{Ops, Laws, BelowPair}
use Rattle.abstract_value.specs.StackBytes.{all_written, with_marks}
use Rattle.abstract_value.specs.States.{View, ViewBelow, span_below, reg_below, with_register}
use Rattle.abstract_value.specs.laws.OrderOfStates.{span_within}
use Rattle.abstract_value.specs.declared.states.Span.{Span}
use Rattle.abstract_value.specs.declared.states.RegState.{RegState}
use Rattle.abstract_value.specs.declared.states.RegState.TheVariants.{Scalar}
use Rattle.verifier.specs.declared.rule.Rule.TheVariants.{Backward, Outside, IntoWide, FallsOff, NoEdge, Unreadable as UnreadableRule, WritesR10, PointerOperation, PointerRange, PointerCompared, PointerStored, OutsideRecord, WritesRecord, OutsideStack, UnwrittenStack, ScalarAddress, PointerResult}
use Rattle.verifier.specs.Rules.{is_readable, is_pointer, is_scalar, reads, source_reads, operand_state, reach_of, whole, stack_index, is_written_at, Access, inside_record, spares_record, inside_stack, finds_written, of_access, meets_for, PassesFor, operation_in_range, result_of, marks, after_store, cut_one, cut_both, refined_imm, refined_pair, on_edge, fall, jump}
use Rattle.verifier.proofs.Accesses.{whole_of}
use Rattle.verifier.proofs.Moves.{truth, is_mov}
use Rattle.verifier.proofs.Steps.{reads_alu, source_readable}
use Rattle.verifier.proofs.Order.{both, and, Readable, numbers, records, stacks, is_below, readable_down, same_pointer, same_scalar, same_fit, all_written_down, range_down, result_up, scalar_up, mov_up}

-- ---- accesses

le_tells : (x y : ℤ) → int_le x y ≡ true → x ≤ℤ y
le_tells x y h = grind (arith, ints)

le_holds : (x y : ℤ) → x ≤ℤ y → int_le x y ≡ true
le_holds x y h = grind (arith, ints)

inside_down : (first end : ℤ) (a b : Span) (offset : ℤ) (n : ℕ) → IsTrue (span_below a b)
    → IsTrue (int_le first (b.lo +ℤ offset) && int_le ((b.hi +ℤ offset) +ℤ pos n) end)
    → IsTrue (int_le first (a.lo +ℤ offset) && int_le ((a.hi +ℤ offset) +ℤ pos n) end)
inside_down first end a b offset n h k =
    let w = span_within a b h in
    let q = both (int_le first (b.lo +ℤ offset)) (int_le ((b.hi +ℤ offset) +ℤ pos n) end) k in
    let l = le_tells first (b.lo +ℤ offset) q.0 in
    let u = le_tells ((b.hi +ℤ offset) +ℤ pos n) end q.1 in
    and (int_le first (a.lo +ℤ offset)) (int_le ((a.hi +ℤ offset) +ℤ pos n) end)
    (le_holds first (a.lo +ℤ offset) (omega (arith, ints)))
    (le_holds ((a.hi +ℤ offset) +ℤ pos n) end (omega (arith, ints)))

inside_record_down : {D : Type 0} {o : Ops D} {a b : RegState D} (len : ℕ) (r : Access) → Readable o a b
    → IsTrue (inside_record len b r) → IsTrue (inside_record len a r)
inside_record_down len r (numbers a b h) k = k
inside_record_down len r (records a b h) k = inside_down (pos 0) (pos len) a b r.offset (bytes_of r.size) h k
inside_record_down len r (stacks a b h) k = k

leaves_record_down : {D : Type 0} {o : Ops D} {a b : RegState D} (r : Access) → Readable o a b
    → IsTrue (spares_record b r) → IsTrue (spares_record a r)
leaves_record_down r (numbers a b h) k = k
leaves_record_down r (records a b h) k = k
leaves_record_down r (stacks a b h) k = k

inside_stack_down : {D : Type 0} {o : Ops D} {a b : RegState D} (r : Access) → Readable o a b
    → IsTrue (inside_stack b r) → IsTrue (inside_stack a r)
inside_stack_down r (numbers a b h) k = k
inside_stack_down r (records a b h) k = k
inside_stack_down r (stacks a b h) k = inside_down (pos 0 -ℤ pos stack_len) (pos 0) a b r.offset (bytes_of r.size) h k

-- where an access to the stack begins, in both states
record Begins (a b : Span) (offset : ℤ) : Type 0 where
  from : ℕ
  wide : ℕ
  from' : ℕ
  wide' : ℕ
  from_is : stack_index (b.lo +ℤ offset) ≡ from
  wide_is : whole ((b.hi +ℤ offset) -ℤ (b.lo +ℤ offset)) ≡ wide
  from'_is : stack_index (a.lo +ℤ offset) ≡ from'
  wide'_is : whole ((a.hi +ℤ offset) -ℤ (a.lo +ℤ offset)) ≡ wide'
  above : from ≤ from'
  below : from' + wide' ≤ from + wide
  single : b.hi ≤ℤ b.lo → (a.hi ≤ℤ a.lo) × (from ≡ from')

begins : (a b : Span) (offset : ℤ) (n : ℕ) → IsTrue (span_below a b)
    → IsTrue (int_le (pos 0 -ℤ pos stack_len) (b.lo +ℤ offset) && int_le ((b.hi +ℤ offset) +ℤ pos n) (pos 0))
    → Begins a b offset
begins a b offset n h inside =
    let w = span_within a b h in
    let q = both (int_le (pos 0 -ℤ pos stack_len) (b.lo +ℤ offset)) (int_le ((b.hi +ℤ offset) +ℤ pos n) (pos 0))
    inside in
    let l = le_tells (pos 0 -ℤ pos stack_len) (b.lo +ℤ offset) q.0 in
    let u = le_tells ((b.hi +ℤ offset) +ℤ pos n) (pos 0) q.1 in
    let ao : a.lo ≤ℤ a.hi = a.ordered in
    let bo : b.lo ≤ℤ b.hi = b.ordered in
    let f = whole_of ((b.lo +ℤ offset) +ℤ pos stack_len) (omega (arith, ints)) in
    let g = whole_of ((b.hi +ℤ offset) -ℤ (b.lo +ℤ offset)) (omega (arith, ints)) in
    let f' = whole_of ((a.lo +ℤ offset) +ℤ pos stack_len) (omega (arith, ints)) in
    let g' = whole_of ((a.hi +ℤ offset) -ℤ (a.lo +ℤ offset)) (omega (arith, ints)) in
    let ef : ((b.lo +ℤ offset) +ℤ pos stack_len) ≡ pos f.0 = f.1 in
    let eg : ((b.hi +ℤ offset) -ℤ (b.lo +ℤ offset)) ≡ pos g.0 = g.1 in
    let ef' : ((a.lo +ℤ offset) +ℤ pos stack_len) ≡ pos f'.0 = f'.1 in
    let eg' : ((a.hi +ℤ offset) -ℤ (a.lo +ℤ offset)) ≡ pos g'.0 = g'.1 in
    record {
      from = f.0;
      wide = g.0;
      from' = f'.0;
      wide' = g'.0;
      from_is = ap whole ef;
      wide_is = ap whole eg;
      from'_is = ap whole ef';
      wide'_is = ap whole eg';
      above = omega (arith, ints);
      below = omega (arith, ints);
      single = λ s. (omega (arith, ints), omega (arith, ints));
    }

written_at_down : (w v : ℕ → Bool) (a b : Span) (offset : ℤ) (size : Size) → ((k : ℕ) → IsTrue (v k) → IsTrue (w k))
    → Begins a b offset → IsTrue (is_written_at v (reach_of b offset size))
    → IsTrue (is_written_at w (reach_of a offset size))
written_at_down w v a b offset size up q h =
    let n = bytes_of size in
    let above : q.from ≤ q.from' = q.above in
    let below : q.from' + q.wide' ≤ q.from + q.wide = q.below in
    let h' : IsTrue (all_written v q.from (q.wide + n)) = subst (λ i. IsTrue (all_written v i (q.wide + n))) q.from_is
    (subst (λ i. IsTrue (all_written v (stack_index (b.lo +ℤ offset)) (i + n))) q.wide_is h) in
    let k : IsTrue (all_written w q.from' (q.wide' + n)) = all_written_down w v q.from (q.wide + n) q.from' (q.wide'
    + n) up above (omega arith) h' in
    subst (λ i. IsTrue (all_written w (stack_index (a.lo +ℤ offset)) (i + n))) (sym q.wide'_is)
    (subst (λ i. IsTrue (all_written w i (q.wide' + n))) (sym q.from'_is) k)

or_true : (a b c : Bool) → (IsTrue b → IsTrue c) → IsTrue (a || b) → IsTrue (a || c)
or_true true b c f h = refl
or_true false b c f h = f h

finds_down : {D : Type 0} {o : Ops D} (w v : ℕ → Bool) {a b : RegState D} (r : Access)
    → ((k : ℕ) → IsTrue (v k) → IsTrue (w k)) → Readable o a b → IsTrue (inside_stack b r)
    → IsTrue (finds_written v b r) → IsTrue (finds_written w a r)
finds_down w v r up (numbers a b h) is k = k
finds_down w v r up (records a b h) is k = k
finds_down w v r up (stacks a b h) is k =
    or_true r.is_store (is_written_at v (reach_of b r.offset r.size)) (is_written_at w (reach_of a r.offset r.size))
    (written_at_down w v a b r.offset r.size up (begins a b r.offset (bytes_of r.size) h is)) k

-- ---- tests

all_down : (p q : ℕ → Bool) (rs : List ℕ) → ((r : ℕ) → IsTrue (q r) → IsTrue (p r)) → IsTrue (list_all q rs)
    → IsTrue (list_all p rs)
all_down p q [] f h = refl
all_down p q (r ∷ rs) f h = let k = both (q r) (list_all q rs) h in
    and (p r) (list_all p rs) (f r k.0) (all_down p q rs f k.1)

reads_mov : (w : Width) (op : AluOp) (dst : Register) (src : Source) → is_mov op ≡ true
    → reads (Alu w op dst src) ≡ source_reads src
reads_mov w Mov dst src n = refl
reads_mov w op dst src n = absurd (cc)

mov_range : {D : Type 0} (o : Ops D) (w : Width) (op : AluOp) (a b : RegState D) → is_mov op ≡ true
    → IsTrue (operation_in_range o w op a b)
mov_range o W32 op a b n = refl
mov_range o W64 Mov a b n = refl
mov_range o W64 Add a b n = absurd (cc)
mov_range o W64 Sub a b n = absurd (cc)
mov_range o W64 op a b n = refl

same_not : (a b : Bool) → a ≡ b → IsTrue (not b) → IsTrue (not a)
same_not a b e h = subst (λ x. IsTrue (not x)) (sym e) h

module _ {D : Type 0} {o : Ops D} (laws : Laws o) (len : ℕ) (s t : View D) (below : ViewBelow o s t) where
  readable_at : (r : ℕ) → IsTrue (is_readable (t.registers r)) → Readable o (s.registers r) (t.registers r)
  readable_at r h = is_below o (s.registers r) (t.registers r) (below.registers r) h

  operand_at : (src : Source) → IsTrue (is_readable (operand_state o t src))
      → Readable o (operand_state o s src) (operand_state o t src)
  operand_at (Imm n) h = numbers (o.single (cast_unsigned w64 n)) (o.single (cast_unsigned w64 n))
      (laws.below_same (o.single (cast_unsigned w64 n)))
  operand_at (Reg r) h = readable_at r.number h

  reads_down : (i : Insn) → IsTrue (meets_for len o i t UnreadableRule) → IsTrue (meets_for len o i s UnreadableRule)
  reads_down i h = all_down (λ r. is_readable (s.registers r)) (λ r. is_readable (t.registers r)) (reads i)
      (λ r k. readable_down (readable_at r k)) h

  -- the operands of an operation are readable
  alu_source : (w : Width) (op : AluOp) (dst : Register) (src : Source) → PassesFor len o (Alu w op dst src) t
      → Readable o (operand_state o s src) (operand_state o t src)
  alu_source w op dst src p =
      elim (truth (is_mov op)) [
        | inl n ↦ operand_at src (source_readable o t src (subst
            (λ rs. IsTrue (list_all (λ r. is_readable (t.registers r)) rs)) (reads_mov w op dst src n)
            (p UnreadableRule)))
        | inr n ↦
            let h : IsTrue (list_all (λ r. is_readable (t.registers r)) (dst.number ∷ source_reads src)) =
            subst (λ rs. IsTrue (list_all (λ r. is_readable (t.registers r)) rs)) (reads_alu w op dst src n)
            (p UnreadableRule) in
            operand_at src (source_readable o t src (both (is_readable (t.registers dst.number))
            (list_all (λ r. is_readable (t.registers r)) (source_reads src)) h).1)
      ]

  alu_target : (w : Width) (op : AluOp) (dst : Register) (src : Source) → is_mov op ≡ false
      → PassesFor len o (Alu w op dst src) t → Readable o (s.registers dst.number) (t.registers dst.number)
  alu_target w op dst src n p =
      let h : IsTrue (list_all (λ r. is_readable (t.registers r)) (dst.number ∷ source_reads src)) =
      subst (λ rs. IsTrue (list_all (λ r. is_readable (t.registers r)) rs)) (reads_alu w op dst src n)
      (p UnreadableRule) in
      readable_at dst.number (both (is_readable (t.registers dst.number))
      (list_all (λ r. is_readable (t.registers r)) (source_reads src)) h).0

  -- the first register that is read, and the second
  first_at : (r : ℕ) (rs : List ℕ) → IsTrue (list_all (λ k. is_readable (t.registers k)) (r ∷ rs))
      → Readable o (s.registers r) (t.registers r)
  first_at r rs h = readable_at r (both (is_readable (t.registers r)) (list_all (λ k. is_readable (t.registers k)) rs)
      h).0

  rest_at : (r : ℕ) (rs : List ℕ) → IsTrue (list_all (λ k. is_readable (t.registers k)) (r ∷ rs))
      → IsTrue (list_all (λ k. is_readable (t.registers k)) rs)
  rest_at r rs h = (both (is_readable (t.registers r)) (list_all (λ k. is_readable (t.registers k)) rs) h).1

  operation_down : (i : Insn) → PassesFor len o i t → IsTrue (meets_for len o i s PointerOperation)
  operation_down (Alu w op dst src) p =
      let e = same_fit w op (s.registers dst.number) (t.registers dst.number) (operand_state o s src) (operand_state o t src)
      (λ n. same_pointer (alu_target w op dst src n p)) (same_pointer (alu_source w op dst src p)) in
      subst IsTrue (sym e) (p PointerOperation)
  operation_down (Neg w dst) p = same_not (is_pointer (s.registers dst.number)) (is_pointer (t.registers dst.number))
      (same_pointer (first_at dst.number [] (p UnreadableRule))) (p PointerOperation)
  operation_down (MovSx w bits dst src) p = same_not (is_pointer (s.registers src.number))
      (is_pointer (t.registers src.number)) (same_pointer (first_at src.number [] (p UnreadableRule)))
      (p PointerOperation)
  operation_down (End kind bits dst) p = same_not (is_pointer (s.registers dst.number))
      (is_pointer (t.registers dst.number)) (same_pointer (first_at dst.number [] (p UnreadableRule)))
      (p PointerOperation)
  operation_down i p = refl

  ranges_down : (i : Insn) → PassesFor len o i t → IsTrue (meets_for len o i s PointerRange)
  ranges_down (Alu w op dst src) p =
      elim (truth (is_mov op)) [
        | inl n ↦ mov_range o w op (s.registers dst.number) (operand_state o s src) n
        | inr n ↦ range_down laws w op (alu_target w op dst src n p) (alu_source w op dst src p) (p PointerRange)
      ]
  ranges_down i p = refl

  comparison_down : (i : Insn) → PassesFor len o i t → IsTrue (meets_for len o i s PointerCompared)
  comparison_down (JumpIf w test dst src distance) p =
      let a = first_at dst.number (source_reads src) (p UnreadableRule) in
      let b = operand_at src (source_readable o t src (rest_at dst.number (source_reads src) (p UnreadableRule))) in
      same_not (is_pointer (s.registers dst.number) || is_pointer (operand_state o s src))
      (is_pointer (t.registers dst.number) || is_pointer (operand_state o t src))
      (ap₂ (λ x y. x || y) (same_pointer a) (same_pointer b)) (p PointerCompared)
  comparison_down i p = refl

  stored_down : (i : Insn) → PassesFor len o i t → IsTrue (meets_for len o i s PointerStored)
  stored_down (Store size base offset src) p =
      let a = first_at src.number [] (rest_at base.number (src.number ∷ []) (p UnreadableRule)) in
      same_not (is_pointer (s.registers src.number)) (is_pointer (t.registers src.number)) (same_pointer a)
      (p PointerStored)
  stored_down i p = refl

  result_down : (i : Insn) → PassesFor len o i t → IsTrue (meets_for len o i s PointerResult)
  result_down Exit p = same_not (is_pointer (s.registers 0)) (is_pointer (t.registers 0))
      (same_pointer (first_at 0 [] (p UnreadableRule))) (p PointerResult)
  result_down i p = refl

  -- a test of an access holds, if it holds of bases that are readable
  reach_down : (i : Insn) (f g : RegState D → Access → Bool) → PassesFor len o i t
      → ((r : Access) → Readable o (s.registers r.base) (t.registers r.base)
      → IsTrue (inside_stack (t.registers r.base) r) → IsTrue (g (t.registers r.base) r)
      → IsTrue (f (s.registers r.base) r))
      → IsTrue (of_access i t g) → IsTrue (of_access i s f)
  reach_down (Load size dst base offset) f g p k h =
      k _ (first_at base.number [] (p UnreadableRule)) (p OutsideStack) h
  reach_down (LoadSx size dst base offset) f g p k h =
      k _ (first_at base.number [] (p UnreadableRule)) (p OutsideStack) h
  reach_down (Store size base offset src) f g p k h =
      k _ (first_at base.number (src.number ∷ []) (p UnreadableRule)) (p OutsideStack) h
  reach_down (StoreImm size base offset imm) f g p k h =
      k _ (first_at base.number [] (p UnreadableRule)) (p OutsideStack) h
  reach_down i f g p k h = refl

  -- what passes passes in each state below
  pub passes_down : (i : Insn) → PassesFor len o i t → PassesFor len o i s
  passes_down i p UnreadableRule = reads_down i (p UnreadableRule)
  passes_down i p WritesR10 = p WritesR10
  passes_down i p PointerOperation = operation_down i p
  passes_down i p PointerRange = ranges_down i p
  passes_down i p PointerCompared = comparison_down i p
  passes_down i p PointerStored = stored_down i p
  passes_down i p OutsideRecord = reach_down i (inside_record len) (inside_record len) p
      (λ r q is h. inside_record_down len r q h) (p OutsideRecord)
  passes_down i p WritesRecord = reach_down i spares_record spares_record p (λ r q is h. leaves_record_down r q h)
      (p WritesRecord)
  passes_down i p OutsideStack = reach_down i inside_stack inside_stack p (λ r q is h. inside_stack_down r q h)
      (p OutsideStack)
  passes_down i p UnwrittenStack = reach_down i (finds_written s.written) (finds_written t.written) p
      (λ r q is h. finds_down s.written t.written r below.written q is h) (p UnwrittenStack)
  passes_down i p ScalarAddress = reach_down i (λ base r. not (is_scalar base)) (λ base r. not (is_scalar base)) p
      (λ r q is h. same_not (is_scalar (s.registers r.base)) (is_scalar (t.registers r.base)) (same_scalar q) h)
      (p ScalarAddress)
  passes_down i p PointerResult = result_down i p
  passes_down i p Backward = refl
  passes_down i p Outside = refl
  passes_down i p IntoWide = refl
  passes_down i p FallsOff = refl
  passes_down i p NoEdge = refl

-- ---- what is carried

-- a state that goes on is below another
abbrev pub FlowBelow : {D : Type 0} → Ops D → Option (View D) → Option (View D) → Type 0
FlowBelow o None t = Unit {0}
FlowBelow o (Some s) None = ⊥
FlowBelow o (Some s) (Some t) = ViewBelow o s t

pub put_below : {D : Type 0} (o : Ops D) (s t : View D) (d : ℕ) (a b : RegState D) → ViewBelow o s t
    → IsTrue (reg_below o a b) → ViewBelow o (with_register s d a) (with_register t d b)
put_below o s t d a b h k = record {
  registers = λ r. elim (r == d) as (λ x. IsTrue (reg_below o (cond x a (s.registers r)) (cond x b (t.registers r))))
      [ true ↦ k | false ↦ h.registers r ];
  written = h.written;
}

-- more is marked by a store at one of fewer places
marks_down : (w v : ℕ → Bool) (a b : Span) (offset : ℤ) (size : Size) → ((k : ℕ) → IsTrue (v k) → IsTrue (w k))
    → Begins a b offset → (k : ℕ) → IsTrue (marks v (reach_of b offset size) k)
    → IsTrue (marks w (reach_of a offset size) k)
marks_down w v a b offset size up q k h =
    let n = bytes_of size in
    elim (truth (int_le (b.hi +ℤ offset) (b.lo +ℤ offset))) [
      | inl t ↦
          let single = q.single (let g = le_tells (b.hi +ℤ offset) (b.lo +ℤ offset) t in omega (arith, ints)) in
          let t' : int_le (a.hi +ℤ offset) (a.lo +ℤ offset) ≡ true =
          le_holds (a.hi +ℤ offset) (a.lo +ℤ offset) (omega (arith, ints)) in
          let e : stack_index (b.lo +ℤ offset) ≡ stack_index (a.lo +ℤ offset) = q.from_is ∙ single.1 ∙ sym q.from'_is in
          let m : IsTrue (with_marks v (stack_index (b.lo +ℤ offset)) n k) = rw t at h in
          let m' : IsTrue (with_marks v (stack_index (a.lo +ℤ offset)) n k) =
          subst (λ i. IsTrue (with_marks v i n k)) e m in
          rw t' (or_true (nat_le (stack_index (a.lo +ℤ offset)) k && nat_lt k (stack_index (a.lo +ℤ offset) + n)) (v k)
          (w k) (up k) m')
      | inr f ↦
          let m : IsTrue (v k) = rw f at h in
          elim (truth (int_le (a.hi +ℤ offset) (a.lo +ℤ offset))) [
            | inl t' ↦ rw t' (or_right (nat_le (stack_index (a.lo +ℤ offset)) k
                && nat_lt k (stack_index (a.lo +ℤ offset) + n)) (w k) (up k m))
            | inr f' ↦ rw f' (up k m)
          ]
    ]
  where
    or_right : (a b : Bool) → IsTrue b → IsTrue (a || b)
    or_right true b h = refl
    or_right false b h = h

stored_up : {D : Type 0} {o : Ops D} (s t : View D) {a b : RegState D} (r : Access) → ViewBelow o s t → Readable o a b
    → IsTrue (inside_stack b r) → ViewBelow o (after_store s a r.offset r.size) (after_store t b r.offset r.size)
stored_up s t r h (numbers a b k) is = h
stored_up s t r h (records a b k) is = h
stored_up s t r h (stacks a b k) is = record {
  registers = h.registers;
  written = marks_down s.written t.written a b r.offset r.size h.written (begins a b r.offset (bytes_of r.size) k is);
}

module _ {D : Type 0} {o : Ops D} (laws : Laws o) (len : ℕ) (s t : View D) (below : ViewBelow o s t) where
  cut_one_up : (d : ℕ) (p q : Option (D × D)) → BelowPair o p q → FlowBelow o (cut_one s d p) (cut_one t d q)
  cut_one_up d None q k = tt
  cut_one_up d (Some p) None k = k
  cut_one_up d (Some p) (Some q) k = put_below o s t d (Scalar p.0) (Scalar q.0) below k.0

  cut_both_up : (d r : ℕ) (p q : Option (D × D)) → BelowPair o p q → FlowBelow o (cut_both s d r p) (cut_both t d r q)
  cut_both_up d r None q k = tt
  cut_both_up d r (Some p) None k = k
  cut_both_up d r (Some p) (Some q) k = put_below o (with_register s d (Scalar p.0)) (with_register t d (Scalar q.0)) r
      (Scalar p.1) (Scalar q.1) (put_below o s t d (Scalar p.0) (Scalar q.0) below k.0) k.1

  refined_imm_up : (w : Width) (test : Test) (taken : Bool) (d n : ℕ) {a b : RegState D} → Readable o a b
      → FlowBelow o (refined_imm o w test taken s d n a) (refined_imm o w test taken t d n b)
  refined_imm_up w test taken d n (numbers a b h) =
      cut_one_up d (o.refine w test taken a (o.single (low w n))) (o.refine w test taken b (o.single (low w n)))
      (laws.refine_monotone w test taken a (o.single (low w n)) b (o.single (low w n)) h
      (laws.below_same (o.single (low w n))))
  refined_imm_up w test taken d n (records a b h) = tt
  refined_imm_up w test taken d n (stacks a b h) = tt

  refined_pair_up : (w : Width) (test : Test) (taken : Bool) (d r : ℕ) {a b c e : RegState D} → Readable o a b
      → Readable o c e → FlowBelow o (refined_pair o w test taken s d r a c) (refined_pair o w test taken t d r b e)
  refined_pair_up w test taken d r (numbers a b h) (numbers c e k) =
      cut_both_up d r (o.refine w test taken a c) (o.refine w test taken b e)
      (laws.refine_monotone w test taken a c b e h k)
  refined_pair_up w test taken d r (numbers a b h) (records c e k) = tt
  refined_pair_up w test taken d r (numbers a b h) (stacks c e k) = tt
  refined_pair_up w test taken d r (records a b h) k = tt
  refined_pair_up w test taken d r (stacks a b h) k = tt

  same_or_pair : (x : Bool) (p q : Option (View D)) → FlowBelow o p q
      → FlowBelow o (cond x (Some s) p) (cond x (Some t) q)
  same_or_pair true p q k = below
  same_or_pair false p q k = k

  refined_up : (w : Width) (test : Test) (taken : Bool) (dst : Register) (src : Source) (distance : ℤ)
      → PassesFor len o (JumpIf w test dst src distance) t → FlowBelow o (on_edge o w test taken s dst.number src)
      (on_edge o w test taken t dst.number src)
  refined_up w test taken dst (Imm n) distance p = refined_imm_up w test taken dst.number (cast_unsigned w64 n)
      (first_at laws len s t below dst.number [] (p UnreadableRule))
  refined_up w test taken dst (Reg r) distance p =
      let a = first_at laws len s t below dst.number (r.number ∷ []) (p UnreadableRule) in
      let b = first_at laws len s t below r.number [] (rest_at laws len s t below dst.number (r.number ∷ [])
      (p UnreadableRule)) in
      same_or_pair (dst.number == r.number) (refined_pair o w test taken s dst.number r.number (s.registers dst.number)
      (s.registers r.number)) (refined_pair o w test taken t dst.number r.number (t.registers dst.number)
      (t.registers r.number))
      (refined_pair_up w test taken dst.number r.number a b)

  alu_up : (w : Width) (op : AluOp) (dst : Register) (src : Source) → PassesFor len o (Alu w op dst src) t
      → IsTrue (reg_below o (result_of o w op (s.registers dst.number) (operand_state o s src))
      (result_of o w op (t.registers dst.number) (operand_state o t src)))
  alu_up w Mov dst src p = mov_up laws w (s.registers dst.number) (t.registers dst.number)
      (alu_source laws len s t below w Mov dst src p) (operand_below src)
    where
      operand_below : (src : Source) → IsTrue (reg_below o (operand_state o s src) (operand_state o t src))
      operand_below (Imm n) = laws.below_same (o.single (cast_unsigned w64 n))
      operand_below (Reg r) = below.registers r.number
  alu_up w op dst src p = result_up laws w op refl (alu_target laws len s t below w op dst src refl p)
      (alu_source laws len s t below w op dst src p)

  -- what falls through keeps the order
  pub fall_up : (i : Insn) → IsListed i → PassesFor len o i t → FlowBelow o (fall o i s) (fall o i t)
  fall_up (Alu w op dst src) l p = put_below o s t dst.number
      (result_of o w op (s.registers dst.number) (operand_state o s src))
      (result_of o w op (t.registers dst.number) (operand_state o t src)) below (alu_up w op dst src p)
  fall_up (Neg w dst) l p = put_below o s t dst.number _ _ below
      (scalar_up laws (o.neg w) (o.neg w) (laws.neg_monotone w)
      (first_at laws len s t below dst.number [] (p UnreadableRule)))
  fall_up (MovSx w bits dst src) l p = put_below o s t dst.number _ _ below
      (scalar_up laws (o.mov_sx w bits) (o.mov_sx w bits) (λ a b h. laws.mov_sx_monotone w bits a b l.selected h)
      (first_at laws len s t below src.number [] (p UnreadableRule)))
  fall_up (End kind bits dst) l p = put_below o s t dst.number _ _ below
      (scalar_up laws (o.end kind bits) (o.end kind bits) (λ a b h. laws.end_monotone kind bits a b l.selected h)
      (first_at laws len s t below dst.number [] (p UnreadableRule)))
  fall_up (LoadWide dst value) l p = put_below o s t dst.number (Scalar (o.single value)) (Scalar (o.single value))
      below (laws.below_same (o.single value))
  fall_up (Load size dst base offset) l p = put_below o s t dst.number (Scalar (o.load size false))
      (Scalar (o.load size false)) below (laws.below_same (o.load size false))
  fall_up (LoadSx size dst base offset) l p = put_below o s t dst.number (Scalar (o.load size true))
      (Scalar (o.load size true)) below (laws.below_same (o.load size true))
  fall_up (Store size base offset src) l p = stored_up s t _ below (first_at laws len s t below base.number (src.number ∷ []) (p UnreadableRule))
      (p OutsideStack)
  fall_up (StoreImm size base offset imm) l p = stored_up s t _ below (first_at laws len s t below base.number [] (p UnreadableRule)) (p OutsideStack)
  fall_up (Jump distance) l p = tt
  fall_up (JumpLong distance) l p = tt
  fall_up (JumpIf w test dst src distance) l p = refined_up w test false dst src distance p
  fall_up Exit l p = tt

  -- what jumps keeps the order
  pub jump_up : (i : Insn) → PassesFor len o i t → FlowBelow o (jump o i s) (jump o i t)
  jump_up (Jump distance) p = below
  jump_up (JumpLong distance) p = below
  jump_up (JumpIf w test dst src distance) p = refined_up w test true dst src distance p
  jump_up i p = tt
