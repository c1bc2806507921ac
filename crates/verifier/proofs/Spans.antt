-- Spans of offsets: how an address moves, and which bytes of the stack an access reaches.
use Rattle.std.proofs.Common.{◌≡◌, ℕ, ◌+◌, true, refl, ap, ap₂, ◌∙◌, sym, subst, arith, Option, Some, None, ℤ, to_z, of_z, w32}
use Rattle.std.specs.Prelude.{IsTrue, FitsSigned, int_le, pos, negsuc, ◌≤ℤ◌, ◌+ℤ◌, ◌-ℤ◌, if◌then◌else◌}
use Rattle.std.proofs.lemmas.Int.{ints}
use Rattle.instruction_set.specs.Machine.{bytes_of}
use Rattle.instruction_set.specs.declared.insn.Insn.{Insn}
use Rattle.instruction_set.specs.declared.insn.Size.{Size}
use Rattle.instruction_set.specs.declared.insn.AluOp.{AluOp}
use Rattle.instruction_set.specs.declared.insn.AluOp.TheVariants.{Add, Sub, Mul, Div, SDiv, Or, And, Lsh, Rsh, Mod, SMod, Xor, Mov, Arsh}
use Rattle.abstract_value.specs.StackBytes.{with_marks}
use Rattle.abstract_value.specs.States.{make_span, View, with_written}
use Rattle.abstract_value.specs.declared.states.RegState.{RegState}
use Rattle.abstract_value.specs.declared.states.RegState.TheVariants.{Stack}
use Rattle.abstract_value.specs.declared.states.Span.{Span}
use Rattle.std.specs.Int.{w16}
use Rattle.verifier.specs.Rules.{is_near, span_moved, reach_of, in_stack, whole, stack_index, after_store, Access, access_of, of_access, inside_stack}

-- every operation but a difference adds the steps
pub moved_otherwise : (op : AluOp) (a : Span) (steps : ℤ × ℤ) → (op ≡ Sub → ⊥)
    → (if is_near (a.lo +ℤ steps.0) (a.hi +ℤ steps.1) then Some (make_span (a.lo +ℤ steps.0) (a.hi +ℤ steps.1))
    else None) ≡ span_moved op a steps
moved_otherwise Add a steps n = refl
moved_otherwise Sub a steps n = absurd (n refl)
moved_otherwise Mul a steps n = refl
moved_otherwise Div a steps n = refl
moved_otherwise SDiv a steps n = refl
moved_otherwise Or a steps n = refl
moved_otherwise And a steps n = refl
moved_otherwise Lsh a steps n = refl
moved_otherwise Rsh a steps n = refl
moved_otherwise Mod a steps n = refl
moved_otherwise SMod a steps n = refl
moved_otherwise Xor a steps n = refl
moved_otherwise Mov a steps n = refl
moved_otherwise Arsh a steps n = refl

-- a span made of other terms for the same ends
pub near_exact : (lo hi lo' hi' : ℤ) (r : Option Span) → r ≡ (if is_near lo hi then Some (make_span lo hi) else None)
    → lo ≡ lo' → hi ≡ hi' → r ≡ (if is_near lo' hi' then Some (make_span lo' hi') else None)
near_exact lo hi lo' hi' r h e f = h ∙ ap₂ (λ (a b : ℤ). (if is_near a b then Some (make_span a b) else None)) e f

pub le_exact : (lo hi lo' hi' : ℤ) → lo ≡ lo' → hi ≡ hi' → lo' ≤ℤ hi' → lo ≤ℤ hi
le_exact lo hi lo' hi' e f h = subst (λ (x : ℤ). x ≤ℤ hi) (sym e) (subst (λ (y : ℤ). lo' ≤ℤ y) (sym f) h)

-- steps in order move the ends of a span in order
pub lowered_ordered : (a : Span) (least greatest : ℤ) → least ≤ℤ greatest → (a.lo -ℤ greatest) ≤ℤ (a.hi -ℤ least)
lowered_ordered a least greatest h = let o = a.ordered in omega (arith, ints)

pub raised_ordered : (a : Span) (least greatest : ℤ) → least ≤ℤ greatest → (a.lo +ℤ least) ≤ℤ (a.hi +ℤ greatest)
raised_ordered a least greatest h = let o = a.ordered in omega (arith, ints)

-- an access that lies inside the stack
pub record InStack (lo hi : ℤ) (len : ℕ) : Type 0 where
  pub above : negsuc 511 ≤ℤ lo
  pub below : (hi +ℤ pos len) ≤ℤ pos 0

pub in_stack_is : (lo hi : ℤ) (len : ℕ) → IsTrue (in_stack (record { lo = lo; hi = hi; len = len })) → InStack lo hi len
in_stack_is lo hi len h = record { above = grind (arith, ints); below = grind (arith, ints) }

pub whole_is : (z : ℤ) (n : ℕ) → z ≡ pos n → n ≡ whole z
whole_is z n e = sym (ap whole e)

pub whole_sum : (z : ℤ) (n m : ℕ) → pos 0 ≤ℤ z → pos n ≡ z +ℤ pos m → n ≡ whole z + m
whole_sum (pos k) n m h e = omega (arith, ints)
whole_sum (negsuc k) n m h e = absurd (omega (arith, ints))

-- a number as the machine's 32 bits hold it
abbrev pub cut : ℤ → ℤ
cut z = to_z w32 (of_z w32 z)

-- a near number
pub record Near (z : ℤ) : Type 0 where
  pub above : negsuc 65535 ≤ℤ z
  pub below : z ≤ℤ pos 65536

cut_small : (z : ℤ) → negsuc 131071 ≤ℤ z → z ≤ℤ pos 131072 → cut z ≡ z
cut_small z h k = omega (arith, ints)

pub cut_difference : (a b : ℤ) → Near a → Near b → cut (cut a -ℤ cut b) ≡ a -ℤ b
cut_difference a b h k =
    ap₂ (λ (x y : ℤ). cut (x -ℤ y)) (cut_small a (omega (arith, ints)) (omega (arith, ints)))
    (cut_small b (omega (arith, ints)) (omega (arith, ints)))
    ∙ cut_small (a -ℤ b) (omega (arith, ints)) (omega (arith, ints))

pub cut_sum : (a b : ℤ) → Near a → Near b → cut (cut a +ℤ cut b) ≡ a +ℤ b
cut_sum a b h k =
    ap₂ (λ (x y : ℤ). cut (x +ℤ y)) (cut_small a (omega (arith, ints)) (omega (arith, ints)))
    (cut_small b (omega (arith, ints)) (omega (arith, ints)))
    ∙ cut_small (a +ℤ b) (omega (arith, ints)) (omega (arith, ints))

-- both ends of a span, and the steps
pub span_near : (a : Span) → Near a.lo × Near a.hi
span_near a = let l = a.near_below in let h = a.near_above in let o = a.ordered in
    (record { above = l; below = omega (arith, ints) }, record { above = omega (arith, ints); below = h })

pub steps_near : (lo hi : ℤ) → (negsuc 65535 ≤ℤ lo) × (lo ≤ℤ hi) × (hi ≤ℤ pos 65535) → Near lo × Near hi
steps_near lo hi h = (
  record { above = h.0; below = omega (arith, ints) },
  record {
    above = omega (arith, ints);
    below = omega (arith, ints);
  },
)

at_one : (lo hi : ℤ) → hi ≤ℤ lo → int_le hi lo ≡ true
at_one lo hi h = grind (arith, ints)

-- a store at a single offset marks its bytes
pub stored_exact : {D : Type 0} (s : View D) (base : RegState D) (a : Span) (offset : ℤ) (size : Size) (first count : ℕ)
    → base ≡ Stack a → a.hi ≤ℤ a.lo
    → first ≡ stack_index (a.lo +ℤ offset) → count ≡ bytes_of size
    → with_written s (with_marks s.written first count) ≡ after_store s base offset size
stored_exact s base a offset size first count is one from long =
    let e : int_le (a.hi +ℤ offset) (a.lo +ℤ offset) ≡ true =
    at_one (a.lo +ℤ offset) (a.hi +ℤ offset) (omega (arith, ints)) in
    rw (is, e) (ap₂ (λ (f n : ℕ). with_written s (with_marks s.written f n)) from long)

-- an access that meets its rule lies inside the stack, where its address does
pub reach_inside : {D : Type 0} (i : Insn) (s : View D) (r : Access) (a : Span) → FitsSigned w16 r.offset
    → access_of i ≡ Some r → IsTrue (of_access i s inside_stack) → s.registers r.base ≡ Stack a
    → IsTrue (in_stack (reach_of a (to_z w16 (of_z w16 r.offset)) r.size))
reach_inside i s r a fits is h at =
    let k : IsTrue (inside_stack (s.registers r.base) r) = subst
    (λ (x : Option Access). IsTrue (elim x [ None ↦ true | Some q ↦ inside_stack (s.registers q.base) q ])) is
    h in
    let e : r.offset ≡ to_z w16 (of_z w16 r.offset) = omega (arith, ints) in
    subst (λ (z : ℤ). IsTrue (in_stack (reach_of a z r.size))) e (subst (λ x. IsTrue (inside_stack x r)) at k)
