-- Code that fulfils the rules over one domain fulfils them over every more precise one.
use Rattle.std.proofs.Common.{◌≡◌, ℕ, ◌+◌, ◌-◌, ◌^◌, Bool, true, false, cond, ◌==◌, ◌&&◌, ◌||◌, refl, ap, ap₂, ◌∙◌, sym, subst, List, [], ◌∷◌, Option, Some, None, ℤ}
use Rattle.std.specs.Prelude.{IsTrue, pos, ◌-ℤ◌, nat_le, not}
use Rattle.std.specs.List.{list_all}
use Rattle.std.specs.Int.{w64, cast_unsigned}
use Rattle.instruction_set.specs.Slots.{IsListed, IsCode}
use Rattle.instruction_set.specs.Machine.{slots_of, slot_count}
use Rattle.instruction_set.specs.Operations.{low}
use Rattle.instruction_set.specs.declared.insn.Width.{Width}
use Rattle.instruction_set.specs.declared.insn.Width.TheVariants.{W32, W64}
use Rattle.instruction_set.specs.declared.insn.Size.{Size}
use Rattle.instruction_set.specs.declared.insn.AluOp.{AluOp}
use Rattle.instruction_set.specs.declared.insn.AluOp.TheVariants.{Add, Sub, Mov}
use Rattle.instruction_set.specs.declared.insn.Test.{Test}
use Rattle.instruction_set.specs.declared.insn.Source.{Source}
use Rattle.instruction_set.specs.declared.insn.Source.TheVariants.{Imm, Reg}
use Rattle.instruction_set.specs.declared.insn.Insn.{Insn}
use Rattle.instruction_set.specs.declared.insn.Insn.TheVariants.{Alu, Neg, MovSx, End, LoadWide, Load, LoadSx, Store, StoreImm, Jump, JumpLong, JumpIf, Exit}
use Rattle.abstract_value.specs.Domain.{Ops, Laws, BelowPair}
use Rattle.abstract_value.specs.laws.Widening.{Widens, lift_pair}
use Rattle.abstract_value.specs.States.{View, ViewBelow, make_span, reg_below, first_view, with_register}
use Rattle.abstract_value.specs.laws.OrderOfStates.{state_order}
use Rattle.abstract_value.specs.declared.states.Span.{Span}
use Rattle.abstract_value.specs.declared.states.RegState.{RegState}
use Rattle.abstract_value.specs.declared.states.RegState.TheVariants.{Scalar, Record, Stack, Unreadable}
use Rattle.verifier.specs.declared.rule.Rule.{Rule}
use Rattle.verifier.specs.declared.rule.Rule.TheVariants.{Backward, Outside, IntoWide, FallsOff, NoEdge, Unreadable as UnreadableRule, WritesR10, PointerOperation, PointerRange, PointerCompared, PointerStored, OutsideRecord, WritesRecord, OutsideStack, UnwrittenStack, ScalarAddress, PointerResult}
use Rattle.verifier.specs.Structure.{leads_to}
use Rattle.verifier.specs.Rules.{is_readable, is_pointer, is_scalar, reads, operand_state, steps_of, moved_by, moved_span, is_move, pointers_fit, sum_in_range, operation_in_range, Access, access_of, inside_record, spares_record, inside_stack, finds_written, of_access, meets_operation, meets_range, meets_comparison, meets_stored, meets_result, meets_for, PassesFor, to_record, to_stack, sum_of, of_scalar, of_scalars, result_of, after_store, cut_one, cut_both, refined_imm, refined_pair, on_edge, fall, jump}
use Rattle.verifier.specs.Assignments.{Assignment, Carries, EdgeCarries, FulfilsBeforeFor, IsTypableFor}
use Rattle.verifier.proofs.RuleOrder.{FlowBelow}
use Rattle.instruction_set.specs.laws.Places.{insn_all}

-- ---- registers and states over the other domain

abbrev pub lift_register : {D E : Type 0} → (D → E) → RegState D → RegState E
lift_register f (Scalar a) = Scalar (f a)
lift_register f (Record a) = Record a
lift_register f (Stack a) = Stack a
lift_register f Unreadable = Unreadable

abbrev pub lift_view : {D E : Type 0} → (D → E) → View D → View E
lift_view f s = record { registers = λ r. lift_register f (s.registers r); written = s.written }

abbrev pub lift_flow : {D E : Type 0} → (D → E) → Option (View D) → Option (View E)
lift_flow f None = None
lift_flow f (Some s) = Some (lift_view f s)

readable_same : {D E : Type 0} (f : D → E) (a : RegState D) → is_readable (lift_register f a) ≡ is_readable a
readable_same f (Scalar a) = refl
readable_same f (Record a) = refl
readable_same f (Stack a) = refl
readable_same f Unreadable = refl

pointer_same : {D E : Type 0} (f : D → E) (a : RegState D) → is_pointer (lift_register f a) ≡ is_pointer a
pointer_same f (Scalar a) = refl
pointer_same f (Record a) = refl
pointer_same f (Stack a) = refl
pointer_same f Unreadable = refl

all_same : (p q : ℕ → Bool) (rs : List ℕ) → ((r : ℕ) → p r ≡ q r) → list_all p rs ≡ list_all q rs
all_same p q [] h = refl
all_same p q (r ∷ rs) h = ap₂ (λ x y. x && y) (h r) (all_same p q rs h)

fit_same : {D E : Type 0} (f : D → E) (w : Width) (op : AluOp) (a b : RegState D)
    → pointers_fit w op (lift_register f a) (lift_register f b) ≡ pointers_fit w op a b
fit_same f W64 Mov a b = refl
fit_same f W32 Mov a b = ap (λ x. not x) (pointer_same f b)
fit_same f W64 Add a b = ap₂ (λ x y. not (x && y)) (pointer_same f a) (pointer_same f b)
fit_same f W64 Sub a b = ap (λ x. not x) (pointer_same f b)
fit_same f W32 op a b = ap₂ (λ x y. not (x || y)) (pointer_same f a) (pointer_same f b)
fit_same f W64 op a b = ap₂ (λ x y. not (x || y)) (pointer_same f a) (pointer_same f b)

access_same : {D E : Type 0} (f : D → E) (i : Insn) (s : View D) (x : RegState E → Access → Bool)
    (y : RegState D → Access → Bool)
    → ((a : RegState D) (r : Access) → x (lift_register f a) r ≡ y a r)
    → of_access i (lift_view f s) x ≡ of_access i s y
access_same f i s x y h = by_access (access_of i)
  where
    by_access : (r : Option Access)
        → ◌≡◌ {A = Bool} (elim r [ None ↦ true | Some r ↦ x (lift_register f (s.registers r.base)) r ])
        (elim r [ None ↦ true | Some r ↦ y (s.registers r.base) r ])
    by_access None = refl
    by_access (Some r) = h (s.registers r.base) r

inside_record_same : {D E : Type 0} (len : ℕ) (f : D → E) (a : RegState D) (r : Access)
    → inside_record len (lift_register f a) r ≡ inside_record len a r
inside_record_same len f (Scalar a) r = refl
inside_record_same len f (Record a) r = refl
inside_record_same len f (Stack a) r = refl
inside_record_same len f Unreadable r = refl

spares_record_same : {D E : Type 0} (f : D → E) (a : RegState D) (r : Access)
    → spares_record (lift_register f a) r ≡ spares_record a r
spares_record_same f (Scalar a) r = refl
spares_record_same f (Record a) r = refl
spares_record_same f (Stack a) r = refl
spares_record_same f Unreadable r = refl

inside_stack_same : {D E : Type 0} (f : D → E) (a : RegState D) (r : Access)
    → inside_stack (lift_register f a) r ≡ inside_stack a r
inside_stack_same f (Scalar a) r = refl
inside_stack_same f (Record a) r = refl
inside_stack_same f (Stack a) r = refl
inside_stack_same f Unreadable r = refl

finds_same : {D E : Type 0} (f : D → E) (w : ℕ → Bool) (a : RegState D) (r : Access)
    → finds_written w (lift_register f a) r ≡ finds_written w a r
finds_same f w (Scalar a) r = refl
finds_same f w (Record a) r = refl
finds_same f w (Stack a) r = refl
finds_same f w Unreadable r = refl

scalar_same : {D E : Type 0} (f : D → E) (a : RegState D) (r : Access)
    → not (is_scalar (lift_register f a)) ≡ not (is_scalar a)
scalar_same f (Scalar a) r = refl
scalar_same f (Record a) r = refl
scalar_same f (Stack a) r = refl
scalar_same f Unreadable r = refl

abbrev steps : ℕ → ℕ → Option (ℤ × ℤ)
steps least most =
    cond (nat_le most 65535) (Some (pos least, pos most))
    (cond (nat_le (2 ^ 64 - 65536) least) (Some (pos least -ℤ pos (2 ^ 64), pos most -ℤ pos (2 ^ 64))) None)

abbrev entry_kind : {D : Type 0} → Bool → Bool → RegState D
entry_kind x y = cond x (Record (make_span (pos 0) (pos 0))) (cond y (Stack (make_span (pos 0) (pos 0))) Unreadable)

kind_same : {D E : Type 0} (f : D → E) (x y : Bool) → lift_register f (entry_kind x y) ≡ entry_kind x y
kind_same f true y = refl
kind_same f false true = refl
kind_same f false false = refl

entry_same : {D E : Type 0} (f : D → E) (r : ℕ)
    → lift_register f ((first_view {D = D}).registers r) ≡ (first_view {D = E}).registers r
entry_same f r = kind_same f (r == 1) (r == 10)

module _ {D E : Type 0} {o : Ops D} {p : Ops E} (laws : Laws p) (wide : Widens o p) where
  -- ---- the rules

  steps_same : (b : D) → steps_of p (wide.lift b) ≡ steps_of o b
  steps_same b = ap₂ steps (wide.low b) (wide.high b)

  moved_same : (op : AluOp) (a : Span) (b : D) → moved_span p op a (wide.lift b) ≡ moved_span o op a b
  moved_same op a b = ap (moved_by op a) (steps_same b)

  operand_same : (s : View D) (src : Source)
      → operand_state p (lift_view wide.lift s) src ≡ lift_register wide.lift (operand_state o s src)
  operand_same s (Imm n) = ap Scalar (wide.single (cast_unsigned w64 n))
  operand_same s (Reg r) = refl

  pair_same : (op : AluOp) (a b : RegState D)
      → sum_in_range p op (lift_register wide.lift a) (lift_register wide.lift b) ≡ sum_in_range o op a b
  pair_same op (Record a) (Scalar b) = ap is_move (moved_same op a b)
  pair_same op (Stack a) (Scalar b) = ap is_move (moved_same op a b)
  pair_same Add (Scalar a) (Record b) = ap is_move (moved_same Add b a)
  pair_same Add (Scalar a) (Stack b) = ap is_move (moved_same Add b a)
  pair_same op a b = refl

  range_same : (w : Width) (op : AluOp) (a b : RegState D)
      → operation_in_range p w op (lift_register wide.lift a) (lift_register wide.lift b) ≡ operation_in_range o w op a
      b
  range_same W64 Add a b = pair_same Add a b
  range_same W64 Sub a b = pair_same Sub a b
  range_same w op a b = refl

  operation_same : (i : Insn) (s : View D) → meets_operation p i (lift_view wide.lift s) ≡ meets_operation o i s
  operation_same (Alu w op dst src) s =
      ap (pointers_fit w op (lift_register wide.lift (s.registers dst.number))) (operand_same s src) ∙ fit_same
      wide.lift w op (s.registers dst.number) (operand_state o s src)
  operation_same (Neg w dst) s = ap (λ x. not x) (pointer_same wide.lift (s.registers dst.number))
  operation_same (MovSx w bits dst src) s = ap (λ x. not x) (pointer_same wide.lift (s.registers src.number))
  operation_same (End kind bits dst) s = ap (λ x. not x) (pointer_same wide.lift (s.registers dst.number))
  operation_same i s = refl

  ranges_same : (i : Insn) (s : View D) → meets_range p i (lift_view wide.lift s) ≡ meets_range o i s
  ranges_same (Alu w op dst src) s =
      ap (operation_in_range p w op (lift_register wide.lift (s.registers dst.number))) (operand_same s src) ∙
      range_same w op (s.registers dst.number) (operand_state o s src)
  ranges_same i s = refl

  comparison_same : (i : Insn) (s : View D) → meets_comparison p i (lift_view wide.lift s) ≡ meets_comparison o i s
  comparison_same (JumpIf w test dst src distance) s =
      ap₂ (λ x y. not (x || y)) (pointer_same wide.lift (s.registers dst.number))
      (ap is_pointer (operand_same s src) ∙ pointer_same wide.lift (operand_state o s src))
  comparison_same i s = refl

  stored_same : (i : Insn) (s : View D) → meets_stored i (lift_view wide.lift s) ≡ meets_stored i s
  stored_same (Store size base offset src) s = ap (λ x. not x) (pointer_same wide.lift (s.registers src.number))
  stored_same i s = refl

  result_same : (i : Insn) (s : View D) → meets_result i (lift_view wide.lift s) ≡ meets_result i s
  result_same Exit s = ap (λ x. not x) (pointer_same wide.lift (s.registers 0))
  result_same i s = refl

  meets_same : (len : ℕ) (i : Insn) (s : View D) (rule : Rule)
      → meets_for len p i (lift_view wide.lift s) rule ≡ meets_for len o i s rule
  meets_same len i s UnreadableRule =
      all_same (λ r. is_readable (lift_register wide.lift (s.registers r))) (λ r. is_readable (s.registers r)) (reads i)
      (λ r. readable_same wide.lift (s.registers r))
  meets_same len i s WritesR10 = refl
  meets_same len i s PointerOperation = operation_same i s
  meets_same len i s PointerRange = ranges_same i s
  meets_same len i s PointerCompared = comparison_same i s
  meets_same len i s PointerStored = stored_same i s
  meets_same len i s OutsideRecord =
      access_same wide.lift i s (inside_record len) (inside_record len) (inside_record_same len wide.lift)
  meets_same len i s WritesRecord = access_same wide.lift i s spares_record spares_record (spares_record_same wide.lift)
  meets_same len i s OutsideStack = access_same wide.lift i s inside_stack inside_stack (inside_stack_same wide.lift)
  meets_same len i s UnwrittenStack =
      access_same wide.lift i s (finds_written s.written) (finds_written s.written) (finds_same wide.lift s.written)
  meets_same len i s ScalarAddress =
      access_same wide.lift i s (λ base r. not (is_scalar base)) (λ base r. not (is_scalar base))
      (scalar_same wide.lift)
  meets_same len i s PointerResult = result_same i s
  meets_same len i s Backward = refl
  meets_same len i s Outside = refl
  meets_same len i s IntoWide = refl
  meets_same len i s FallsOff = refl
  meets_same len i s NoEdge = refl

  passes_wider : (len : ℕ) (i : Insn) (s : View D) → PassesFor len o i s → PassesFor len p i (lift_view wide.lift s)
  passes_wider len i s h rule = subst IsTrue (sym (meets_same len i s rule)) (h rule)

  -- ---- what is carried on

  same : (a : RegState E) → IsTrue (reg_below p a a)
  same a = (state_order laws).reg_same a

  register_wider : (a b : RegState D) → IsTrue (reg_below o a b)
      → IsTrue (reg_below p (lift_register wide.lift a) (lift_register wide.lift b))
  register_wider (Scalar a) (Scalar b) h = wide.below a b h
  register_wider (Record a) (Record b) h = h
  register_wider (Stack a) (Stack b) h = h
  register_wider a Unreadable h = refl
  register_wider a b h = absurd (cc)

  view_wider : (s t : View D) → ViewBelow o s t → ViewBelow p (lift_view wide.lift s) (lift_view wide.lift t)
  view_wider s t h =
      record { registers = λ r. register_wider (s.registers r) (t.registers r) (h.registers r); written = h.written }

  scalar_wider : (f : D → D) (g : E → E) (a : RegState D)
      → ((x : D) → IsTrue (p.below (g (wide.lift x)) (wide.lift (f x))))
      → IsTrue (reg_below p (of_scalar g (lift_register wide.lift a)) (lift_register wide.lift (of_scalar f a)))
  scalar_wider f g (Scalar a) h = h a
  scalar_wider f g (Record a) h = refl
  scalar_wider f g (Stack a) h = refl
  scalar_wider f g Unreadable h = refl

  scalars_wider : (f : D → D → D) (g : E → E → E) (a b : RegState D)
      → ((x y : D) → IsTrue (p.below (g (wide.lift x) (wide.lift y)) (wide.lift (f x y))))
      → IsTrue (reg_below p (of_scalars g (lift_register wide.lift a) (lift_register wide.lift b))
      (lift_register wide.lift (of_scalars f a b)))
  scalars_wider f g (Scalar a) (Scalar b) h = h a b
  scalars_wider f g a b h = refl

  record_wider : (x y : Option Span) → x ≡ y
      → IsTrue (reg_below p (to_record x) (lift_register wide.lift (to_record y)))
  record_wider x y e = subst (λ z. IsTrue (reg_below p (to_record x) (lift_register wide.lift (to_record z)))) e (go x)
    where
      go : (x : Option Span) → IsTrue (reg_below p (to_record x) (lift_register wide.lift (to_record x)))
      go None = refl
      go (Some a) = same (Record a)

  stack_wider : (x y : Option Span) → x ≡ y → IsTrue (reg_below p (to_stack x) (lift_register wide.lift (to_stack y)))
  stack_wider x y e = subst (λ z. IsTrue (reg_below p (to_stack x) (lift_register wide.lift (to_stack z)))) e (go x)
    where
      go : (x : Option Span) → IsTrue (reg_below p (to_stack x) (lift_register wide.lift (to_stack x)))
      go None = refl
      go (Some a) = same (Stack a)

  sum_wider : (op : AluOp) (a b : RegState D)
      → IsTrue (reg_below p (sum_of p op (lift_register wide.lift a) (lift_register wide.lift b))
      (lift_register wide.lift (sum_of o op a b)))
  sum_wider op (Scalar a) (Scalar b) = wide.alu W64 op a b
  sum_wider op (Record a) (Scalar b) =
      record_wider (moved_span p op a (wide.lift b)) (moved_span o op a b) (moved_same op a b)
  sum_wider op (Stack a) (Scalar b) =
      stack_wider (moved_span p op a (wide.lift b)) (moved_span o op a b) (moved_same op a b)
  sum_wider Add (Scalar a) (Record b) =
      record_wider (moved_span p Add b (wide.lift a)) (moved_span o Add b a) (moved_same Add b a)
  sum_wider Add (Scalar a) (Stack b) =
      stack_wider (moved_span p Add b (wide.lift a)) (moved_span o Add b a) (moved_same Add b a)
  sum_wider op a b = refl

  result_wider : (w : Width) (op : AluOp) (a b : RegState D)
      → IsTrue (reg_below p (result_of p w op (lift_register wide.lift a) (lift_register wide.lift b))
      (lift_register wide.lift (result_of o w op a b)))
  result_wider W64 Mov a b = same (lift_register wide.lift b)
  result_wider W32 Mov a b = scalars_wider (o.alu W32 Mov) (p.alu W32 Mov) b b (wide.alu W32 Mov)
  result_wider W64 Add a b = sum_wider Add a b
  result_wider W64 Sub a b = sum_wider Sub a b
  result_wider w op a b = scalars_wider (o.alu w op) (p.alu w op) a b (wide.alu w op)

  put_wider : (s : View D) (t : View E) (d : ℕ) (a : RegState D) (b : RegState E)
      → ViewBelow p t (lift_view wide.lift s) → IsTrue (reg_below p b (lift_register wide.lift a))
      → ViewBelow p (with_register t d b) (lift_view wide.lift (with_register s d a))
  put_wider s t d a b h k = record {
    registers =
        λ r. elim (r == d) as (λ x. IsTrue (reg_below p (cond x b (t.registers r))
        (lift_register wide.lift (cond x a (s.registers r))))) [ true ↦ k | false ↦ h.registers r ];
    written = h.written;
  }

  view_same : (s : View E) → ViewBelow p s s
  view_same s = (state_order laws).view_same s

  stored_wider : (s : View D) (a : RegState D) (offset : ℤ) (size : Size)
      → ViewBelow p (after_store (lift_view wide.lift s) (lift_register wide.lift a) offset size)
      (lift_view wide.lift (after_store s a offset size))
  stored_wider s (Scalar a) offset size = view_same (lift_view wide.lift s)
  stored_wider s (Record a) offset size = view_same (lift_view wide.lift s)
  stored_wider s (Stack a) offset size = view_same (lift_view wide.lift (after_store s (Stack a) offset size))
  stored_wider s Unreadable offset size = view_same (lift_view wide.lift s)

  cut_one_wider : (s : View D) (d : ℕ) (x : Option (E × E)) (y : Option (D × D)) → BelowPair p x (lift_pair wide.lift y)
      → FlowBelow p (cut_one (lift_view wide.lift s) d x) (lift_flow wide.lift (cut_one s d y))
  cut_one_wider s d None y h = tt
  cut_one_wider s d (Some x) None h = h
  cut_one_wider s d (Some x) (Some y) h =
      put_wider s (lift_view wide.lift s) d (Scalar y.0) (Scalar x.0) (view_same (lift_view wide.lift s)) h.0

  cut_both_wider : (s : View D) (d r : ℕ) (x : Option (E × E)) (y : Option (D × D))
      → BelowPair p x (lift_pair wide.lift y)
      → FlowBelow p (cut_both (lift_view wide.lift s) d r x) (lift_flow wide.lift (cut_both s d r y))
  cut_both_wider s d r None y h = tt
  cut_both_wider s d r (Some x) None h = h
  cut_both_wider s d r (Some x) (Some y) h =
      put_wider (with_register s d (Scalar y.0)) (with_register (lift_view wide.lift s) d (Scalar x.0)) r (Scalar y.1)
      (Scalar x.1)
      (put_wider s (lift_view wide.lift s) d (Scalar y.0) (Scalar x.0) (view_same (lift_view wide.lift s)) h.0) h.1

  imm_wider : (w : Width) (test : Test) (taken : Bool) (s : View D) (d n : ℕ) (a : RegState D)
      → FlowBelow p (refined_imm p w test taken (lift_view wide.lift s) d n (lift_register wide.lift a))
      (lift_flow wide.lift (refined_imm o w test taken s d n a))
  imm_wider w test taken s d n (Scalar a) =
      cut_one_wider s d (p.refine w test taken (wide.lift a) (p.single (low w n)))
      (o.refine w test taken a (o.single (low w n)))
      (subst (λ b. BelowPair p (p.refine w test taken (wide.lift a) b)
      (lift_pair wide.lift (o.refine w test taken a (o.single (low w n))))) (sym (wide.single (low w n)))
      (wide.refine w test taken a (o.single (low w n))))
  imm_wider w test taken s d n (Record a) = tt
  imm_wider w test taken s d n (Stack a) = tt
  imm_wider w test taken s d n Unreadable = tt

  pair_wider : (w : Width) (test : Test) (taken : Bool) (s : View D) (d r : ℕ) (a b : RegState D)
      → FlowBelow p (refined_pair p w test taken (lift_view wide.lift s) d r (lift_register wide.lift a)
      (lift_register wide.lift b)) (lift_flow wide.lift (refined_pair o w test taken s d r a b))
  pair_wider w test taken s d r (Scalar a) (Scalar b) =
      cut_both_wider s d r (p.refine w test taken (wide.lift a) (wide.lift b)) (o.refine w test taken a b)
      (wide.refine w test taken a b)
  pair_wider w test taken s d r a b = tt

  refined_wider : (w : Width) (test : Test) (taken : Bool) (s : View D) (d : ℕ) (src : Source)
      → FlowBelow p (on_edge p w test taken (lift_view wide.lift s) d src)
      (lift_flow wide.lift (on_edge o w test taken s d src))
  refined_wider w test taken s d (Imm n) = imm_wider w test taken s d (cast_unsigned w64 n) (s.registers d)
  refined_wider w test taken s d (Reg r) =
      elim (d == r.number) as (λ x. FlowBelow p (cond x (Some (lift_view wide.lift s))
      (refined_pair p w test taken (lift_view wide.lift s) d r.number (lift_register wide.lift (s.registers d))
      (lift_register wide.lift (s.registers r.number))))
      (lift_flow wide.lift (cond x (Some s) (refined_pair o w test taken s d r.number (s.registers d)
      (s.registers r.number))))) [
        | true ↦ view_same (lift_view wide.lift s)
        | false ↦ pair_wider w test taken s d r.number (s.registers d) (s.registers r.number)
      ]

  here : (s : View D) (d : ℕ) (a : RegState D) (b : RegState E) → IsTrue (reg_below p b (lift_register wide.lift a))
      → ViewBelow p (with_register (lift_view wide.lift s) d b) (lift_view wide.lift (with_register s d a))
  here s d a b h = put_wider s (lift_view wide.lift s) d a b (view_same (lift_view wide.lift s)) h

  fall_wider : (i : Insn) (s : View D) → IsListed i
      → FlowBelow p (fall p i (lift_view wide.lift s)) (lift_flow wide.lift (fall o i s))
  fall_wider (Alu w op dst src) s l =
      here s dst.number (result_of o w op (s.registers dst.number) (operand_state o s src))
      (result_of p w op (lift_register wide.lift (s.registers dst.number)) (operand_state p (lift_view wide.lift s) src))
      (subst (λ b. IsTrue (reg_below p (result_of p w op (lift_register wide.lift (s.registers dst.number)) b)
      (lift_register wide.lift (result_of o w op (s.registers dst.number) (operand_state o s src)))))
      (sym (operand_same s src)) (result_wider w op (s.registers dst.number) (operand_state o s src)))
  fall_wider (Neg w dst) s l =
      here s dst.number _ _ (scalar_wider (o.neg w) (p.neg w) (s.registers dst.number) (wide.neg w))
  fall_wider (MovSx w bits dst src) s l =
      here s dst.number _ _ (scalar_wider (o.mov_sx w bits) (p.mov_sx w bits) (s.registers src.number)
      (λ a. wide.mov_sx w bits a l.selected))
  fall_wider (End kind bits dst) s l =
      here s dst.number _ _ (scalar_wider (o.end kind bits) (p.end kind bits) (s.registers dst.number)
      (λ a. wide.end kind bits a l.selected))
  fall_wider (LoadWide dst value) s l =
      here s dst.number (Scalar (o.single value)) (Scalar (p.single value))
      (subst (λ a. IsTrue (p.below (p.single value) a)) (wide.single value) (laws.below_same (p.single value)))
  fall_wider (Load size dst base offset) s l =
      here s dst.number (Scalar (o.load size false)) (Scalar (p.load size false)) (wide.load size false)
  fall_wider (LoadSx size dst base offset) s l =
      here s dst.number (Scalar (o.load size true)) (Scalar (p.load size true)) (wide.load size true)
  fall_wider (Store size base offset src) s l = stored_wider s (s.registers base.number) offset size
  fall_wider (StoreImm size base offset imm) s l = stored_wider s (s.registers base.number) offset size
  fall_wider (Jump distance) s l = tt
  fall_wider (JumpLong distance) s l = tt
  fall_wider (JumpIf w test dst src distance) s l = refined_wider w test false s dst.number src
  fall_wider Exit s l = tt

  jump_wider : (i : Insn) (s : View D)
      → FlowBelow p (jump p i (lift_view wide.lift s)) (lift_flow wide.lift (jump o i s))
  jump_wider (Jump distance) s = view_same (lift_view wide.lift s)
  jump_wider (JumpLong distance) s = view_same (lift_view wide.lift s)
  jump_wider (JumpIf w test dst src distance) s = refined_wider w test true s dst.number src
  jump_wider i s = tt

  -- ---- assignments

  lifted : Assignment D → Assignment E
  lifted states slot = lift_flow wide.lift (states slot)

  carries_wider : (states : Assignment D) (slot : ℕ) (s : View D) (t : View E) → Carries o states slot s
      → ViewBelow p t (lift_view wide.lift s) → Carries p (lifted states) slot t
  unfolding lifted
  carries_wider states slot s t c h = (
    lift_view wide.lift c.0,
    ap (lift_flow wide.lift) c.1,
    (state_order laws).view_through t (lift_view wide.lift s)
        (lift_view wide.lift c.0) h (view_wider s c.0 c.2),
  )

  edge_wider : (states : Assignment D) (to : Option ℕ) (x : Option (View E)) (y : Option (View D))
      → EdgeCarries o states to y → FlowBelow p x (lift_flow wide.lift y) → EdgeCarries p (lifted states) to x
  edge_wider states None x y h k = tt
  edge_wider states (Some slot) None y h k = tt
  edge_wider states (Some slot) (Some x) None h k = absurd k
  edge_wider states (Some slot) (Some x) (Some y) h k = carries_wider states slot y x h k

  -- a state of the lifted assignment is a lifted state
  was : (x : Option (View D)) (t : View E) → lift_flow wide.lift x ≡ Some t
      → (s : View D) × (x ≡ Some s) × (lift_view wide.lift s ≡ t)
  was None t e = absurd (cc)
  was (Some s) t e = (s, refl, cc)

  fulfils_wider : (len : ℕ) (code : List Insn) (end : ℕ) (states : Assignment D) → IsCode code
      → FulfilsBeforeFor len o code end states → FulfilsBeforeFor len p code end (lifted states)
  unfolding lifted
  fulfils_wider len code end states c f = record {
    start =
        carries_wider states 0 first_view first_view f.start (record {
          registers = λ r. subst (λ a. IsTrue (reg_below p (first_view.registers r) a)) (sym (entry_same wide.lift r))
              (same (first_view.registers r));
          written = λ k h. h;
        });
    inside = λ slot t e. let w = was (states slot) t e in f.inside slot w.0 w.1;
    passes =
        λ slot i t l at e. let w = was (states slot) t e in subst (λ z. PassesFor len p i z) w.2
        (passes_wider len i w.0 (f.passes slot i w.0 l at w.1));
    falls = λ slot i t l at e. let w = was (states slot) t e in
        subst (λ z. EdgeCarries p (lifted states) (Some (slot + slots_of i)) (fall p i z)) w.2
        (edge_wider states (Some (slot + slots_of i)) (fall p i (lift_view wide.lift w.0)) (fall o i w.0)
        (f.falls slot i w.0 l at w.1) (fall_wider i w.0 (insn_all IsListed code slot i c.listed at)));
    jumps = λ slot i t l at e. let w = was (states slot) t e in
        subst (λ z. EdgeCarries p (lifted states) (leads_to slot i) (jump p i z)) w.2
        (edge_wider states (leads_to slot i) (jump p i (lift_view wide.lift w.0)) (jump o i w.0)
        (f.jumps slot i w.0 l at w.1) (jump_wider i w.0));
  }

  pub typable_wider : (len : ℕ) (code : List Insn) → IsCode code → IsTypableFor len o code → IsTypableFor len p code
  typable_wider len code c h = (lifted h.0, fulfils_wider len code (slot_count code) h.0 c h.1)
