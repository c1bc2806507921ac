-- Where each instruction that passes leads, wherever record and stack lie.
use Rattle.std.proofs.Common.{◌≡◌, ℕ, ◌+◌, ◌*◌, ◌^◌, ◌<◌, Bool, true, false, cond, ◌==◌, ◌&&◌, ◌||◌, ◌⊎◌, inl, inr, refl, ap, ◌∙◌, sym, subst, arith, List, length, ◌∷◌, Option, Some, None, ℤ}
use Rattle.std.specs.Prelude.{IsTrue, pos, negsuc, not, FitsSigned, All}
use Rattle.std.specs.List.{list_all}
use Rattle.std.specs.Int.{w16, w32, w64, cast_unsigned}
use Rattle.std.proofs.lemmas.Int.{ints}
use Rattle.instruction_set.specs.Slots.{IsListed, SourceFits}
use Rattle.instruction_set.specs.Machine.{Placement, State, ◌>>?◌, slots_of, read_bytes, bytes_of, address_of, store_at, word_in, operand as word_of, set_register, target, go_to, after}
use Rattle.instruction_set.specs.Operations.{alu_of, neg_of, mov_sx_of, end_of, low, cut_test, is_taken}
use Rattle.instruction_set.specs.declared.insn.Width.{Width}
use Rattle.instruction_set.specs.declared.insn.Width.TheVariants.{W32, W64}
use Rattle.instruction_set.specs.declared.insn.Size.{Size}
use Rattle.instruction_set.specs.declared.insn.AluOp.{AluOp}
use Rattle.instruction_set.specs.declared.insn.AluOp.TheVariants.{Add, Sub, Mul, Div, SDiv, Or, And, Lsh, Rsh, Mod, SMod, Xor, Mov, Arsh}
use Rattle.instruction_set.specs.declared.insn.Test.{Test}
use Rattle.instruction_set.specs.declared.insn.Register.{Register}
use Rattle.instruction_set.specs.declared.insn.Source.{Source}
use Rattle.instruction_set.specs.declared.insn.Source.TheVariants.{Imm, Reg}
use Rattle.instruction_set.specs.declared.insn.Insn.{Insn}
use Rattle.instruction_set.specs.declared.insn.Insn.TheVariants.{Alu, Neg, MovSx, End, LoadWide, Load, LoadSx, Store, StoreImm, Jump, JumpLong, JumpIf, Exit}
use Rattle.abstract_value.specs.Domain.{Ops, Laws, Keeps}
use Rattle.abstract_value.specs.States.{View, put, with_register}
use Rattle.abstract_value.specs.declared.states.RegState.{RegState}
use Rattle.abstract_value.specs.declared.states.RegState.TheVariants.{Scalar, Record, Stack, Unreadable}
use Rattle.verifier.specs.declared.rule.Rule.TheVariants.{Unreadable as UnreadableRule, WritesR10, PointerOperation, PointerRange, PointerCompared, PointerStored, OutsideRecord, WritesRecord, OutsideStack, UnwrittenStack, ScalarAddress, PointerResult}
use Rattle.verifier.specs.Structure.{distance_of, forward_target, leads_to}
use Rattle.verifier.specs.Rules.{is_readable, is_pointer, reads, source_reads, operand_state, PassesFor, of_scalar, of_scalars, result_of, cut_one, cut_both, refined_imm, refined_pair, on_edge, fall, jump}
use Rattle.verifier.proofs.Tags.{Tag, num, ptr, raw, raw_option, Tagged, Matches, tells, word_at, with_tag, Covers, Covered, covers_put, covers_cut, NumberAt}
use Rattle.verifier.proofs.Accesses.{both}
use Rattle.verifier.proofs.Moves.{truth, is_mov, word_fits, binary}
use Rattle.verifier.proofs.Onward.{bind, free, source_tag, source_at, Goes, goes_alu, goes_mov, goes_unary, goes_wide, goes_load, store_on}
use Rattle.verifier.proofs.Reaching.{size_bound, ReadAt, load_there, store_there}

-- where an instruction leads
pub data Onward {D : Type 0} (o : Ops D) (bytes : List ℕ) (i : Insn) (s : View D) (t : Tagged) : Type 0 where
  ends : (v : ℕ) → i ≡ Exit → t.registers 0 ≡ Some (num v) → Onward o bytes i s t
  falls_on : (s' : View D) (t' : Tagged) → fall o i s ≡ Some s' → t'.slot ≡ t.slot + slots_of i → Covered o s' t'
      → Goes bytes i t t' → Onward o bytes i s t
  jumps_on : (s' : View D) (t' : Tagged) (to : ℕ) → jump o i s ≡ Some s' → leads_to t.slot i ≡ Some to → t'.slot ≡ to
      → Covered o s' t' → Goes bytes i t t' → Onward o bytes i s t

-- ---- what is read

pub reads_alu : (w : Width) (op : AluOp) (dst : Register) (src : Source) → is_mov op ≡ false
    → reads (Alu w op dst src) ≡ dst.number ∷ source_reads src
reads_alu w Add dst src n = refl
reads_alu w Sub dst src n = refl
reads_alu w Mul dst src n = refl
reads_alu w Div dst src n = refl
reads_alu w SDiv dst src n = refl
reads_alu w Or dst src n = refl
reads_alu w And dst src n = refl
reads_alu w Lsh dst src n = refl
reads_alu w Rsh dst src n = refl
reads_alu w Mod dst src n = refl
reads_alu w SMod dst src n = refl
reads_alu w Xor dst src n = refl
reads_alu w Mov dst src n = absurd (cc)
reads_alu w Arsh dst src n = refl

pub source_readable : {D : Type 0} (o : Ops D) (s : View D) (src : Source)
    → IsTrue (list_all (λ r. is_readable (s.registers r)) (source_reads src)) → IsTrue (is_readable (operand_state o s src))
source_readable o s (Imm n) h = refl
source_readable o s (Reg r) h = (both (is_readable (s.registers r.number)) true h).0

pub tag_of : {D : Type 0} (o : Ops D) (a : RegState D) (x : Option Tag) → IsTrue (is_readable a) → Covers o a x
    → (y : Tag) × (x ≡ Some y)
tag_of o a (Some y) r h = (y, refl)
tag_of o Unreadable None r h = absurd (cc)
tag_of o (Scalar a) None r h = absurd h
tag_of o (Record a) None r h = absurd h
tag_of o (Stack a) None r h = absurd h

pub number_at : {D : Type 0} (o : Ops D) (a : RegState D) (x : Option Tag) → IsTrue (is_readable a)
    → IsTrue (not (is_pointer a)) → Covers o a x → NumberAt o a x
number_at o (Scalar a) (Some (num v)) r n h = record { value = a; word = v; is = refl; is_tag = refl; holds = h }
number_at o a x r n h = absurd (first_of (assumption, cc))

neither : (a b : Bool) → IsTrue (not (a || b)) → IsTrue (not a) × IsTrue (not b)
neither true b h = absurd (cc)
neither false b h = (refl, h)

word_64 : (z : ℤ) → FitsSigned w32 z → cast_unsigned w64 z < 2 ^ 64
word_64 z f = omega (arith, ints)

covered_with : {D : Type 0} (o : Ops D) (s : View D) (t : Tagged) (d : ℕ) (a : RegState D) (x : Tag) (slots : ℕ)
    → Covered o s t → Covers o a (Some x) → Covered o (with_register s d a) (with_tag t d x slots)
covered_with o s t d a x slots c h = record {
  registers = covers_put o s.registers t.registers d a x c.registers h;
  written = c.written;
  small = c.small;
}

-- ---- jumps

abbrev at_slot : Tagged → ℕ → Tagged
at_slot t slot = record { slot = slot; registers = t.registers; stack = t.stack }

covered_at : {D : Type 0} (o : Ops D) (s : View D) (t : Tagged) (slot : ℕ) → Covered o s t
    → Covered o s (at_slot t slot)
covered_at o s t slot c = record { registers = c.registers; written = c.written; small = c.small }

go_on : (p : Placement) (bytes : List ℕ) (t : Tagged) (u : State) → Matches p bytes t u → (raw_slot slot : ℕ)
    → raw_slot ≡ slot → (u' : State) × (go_to u raw_slot ≡ Some u') × Matches p bytes (at_slot t slot) u'
go_on p bytes t u m raw_slot slot e = (
  record { slot = raw_slot; registers = u.registers; memory = u.memory },
  refl,
  record {
    slot = e;
    long = m.long;
    registers = m.registers;
    memory = m.memory;
  },
)

-- a forward jump leads to its target
target_is : (slot to : ℕ) (distance : ℤ) → forward_target slot (Some distance) ≡ Some to → to < 2 ^ 64
    → target slot distance ≡ to
target_is slot to (pos n) e h = let f : slot + 1 + n ≡ to = cc in omega (arith, ints)
target_is slot to (negsuc n) e h = absurd (cc)

low_low : (w : Width) (n : ℕ) → low w (low w n) ≡ low w n
low_low W32 n = omega arith
low_low W64 n = omega arith

low_fits : (w : Width) (n : ℕ) → low w n < 2 ^ 64
low_fits W32 n = omega arith
low_fits W64 n = omega arith

module _ {D : Type 0} {o : Ops D} (laws : Laws o) (bytes : List ℕ) (each : All (λ byte. byte < 256) bytes) where
  covers_source : (s : View D) (t : Tagged) → Covered o s t → (src : Source) → SourceFits src
      → Covers o (operand_state o s src) (source_tag t src)
  covers_source s t c (Imm n) f = laws.single_holds (cast_unsigned w64 n) (word_64 n f)
  covers_source s t c (Reg r) f = c.registers r.number

  -- ---- operations

  alu_on : (w : Width) (op : AluOp) (dst : Register) (src : Source) (s : View D) (t : Tagged) → is_mov op ≡ false
      → SourceFits src → Covered o s t → PassesFor (length bytes) o (Alu w op dst src) s
      → Onward o bytes (Alu w op dst src) s t
  alu_on w op dst src s t n f c p =
      let all : IsTrue (list_all (λ r. is_readable (s.registers r)) (dst.number ∷ source_reads src)) =
      subst (λ rs. IsTrue (list_all (λ r. is_readable (s.registers r)) rs)) (reads_alu w op dst src n)
      (p UnreadableRule) in
      let q = both (is_readable (s.registers dst.number)) (list_all (λ r. is_readable (s.registers r))
      (source_reads src)) all in
      let b_readable = source_readable o s src q.1 in
      let a = s.registers dst.number in
      let b = operand_state o s src in
      let ca = c.registers dst.number in
      let cb = covers_source s t c src f in
      let x = tag_of o a (t.registers dst.number) q.0 ca in
      let y = tag_of o b (source_tag t src) b_readable cb in
      let r = binary laws w op a b x.0 y.0 n q.0 b_readable (subst (λ k. Covers o a k) x.1 ca)
      (subst (λ k. Covers o b k) y.1 cb) (p PointerOperation) (p PointerRange) in
      falls_on (with_register s dst.number (result_of o w op a b)) (with_tag t dst.number r.tag 1) refl refl
      (covered_with o s t dst.number (result_of o w op a b) r.tag 1 c r.covers)
      (goes_alu bytes w op dst src t x.0 y.0 r.tag n (free dst.number (p WritesR10)) x.1 y.1 r.word)

  -- a move of 64 bits copies
  copied : (b : RegState D) (y : Tag) → IsTrue (is_readable b) → Covers o b (Some y) → (p : Placement)
      → alu_of W64 Mov (raw p y) (raw p y) ≡ raw p y
  copied (Scalar a) (num v) r h p = let k : v < 2 ^ 64 = word_fits laws a v h in omega arith
  copied b (ptr region k) r h p = omega arith
  copied Unreadable (num v) r h p = absurd (cc)
  copied (Record a) (num v) r h p = absurd h
  copied (Stack a) (num v) r h p = absurd h

  mov_on : (w : Width) (dst : Register) (src : Source) (s : View D) (t : Tagged) → SourceFits src → Covered o s t
      → PassesFor (length bytes) o (Alu w Mov dst src) s → Onward o bytes (Alu w Mov dst src) s t
  mov_on W64 dst src s t f c p =
      let b_readable = source_readable o s src (p UnreadableRule) in
      let b = operand_state o s src in
      let cb = covers_source s t c src f in
      let y = tag_of o b (source_tag t src) b_readable cb in
      let cy = subst (λ k. Covers o b k) y.1 cb in
      falls_on (with_register s dst.number b) (with_tag t dst.number y.0 1) refl refl
      (covered_with o s t dst.number b y.0 1 c cy)
      (goes_mov bytes W64 dst src t y.0 y.0 (free dst.number (p WritesR10)) y.1 (copied b y.0 b_readable cy))
  mov_on W32 dst src s t f c p =
      let b_readable = source_readable o s src (p UnreadableRule) in
      let b = operand_state o s src in
      let v = number_at o b (source_tag t src) b_readable (p PointerOperation) (covers_source s t c src f) in
      let z = num (alu_of W32 Mov v.word v.word) in
      let covers : Covers o (result_of o W32 Mov (s.registers dst.number) b) (Some z) =
      subst (λ k. Covers o (of_scalars (o.alu W32 Mov) k k) (Some z)) (sym v.is)
      (laws.alu_holds W32 Mov v.value v.value v.word v.word v.holds v.holds) in
      falls_on (with_register s dst.number (result_of o W32 Mov (s.registers dst.number) b)) (with_tag t dst.number z 1)
      refl refl (covered_with o s t dst.number (result_of o W32 Mov (s.registers dst.number) b) z 1 c covers)
      (goes_mov bytes W32 dst src t (num v.word) z (free dst.number (p WritesR10)) v.is_tag (λ q. refl))

  unary_on : (i : Insn) (dst from : Register) (s : View D) (t : Tagged) (g : D → D) (f : ℕ → ℕ)
      → fall o i s ≡ Some (with_register s dst.number (of_scalar g (s.registers from.number))) → slots_of i ≡ 1
      → ((a : D) (v : ℕ) → o.holds a v → o.holds (g a) (f v))
      → ((stack_at : ℕ) (u : State) → after stack_at i u ≡ (word_in u from >>? λ a. set_register u dst (f a) 1))
      → IsTrue (not (dst.number == 10)) → IsTrue (is_readable (s.registers from.number))
      → IsTrue (not (is_pointer (s.registers from.number))) → Covered o s t → Onward o bytes i s t
  unary_on i dst from s t g f falls one holds is not_r10 readable number c =
      let v = number_at o (s.registers from.number) (t.registers from.number) readable number
      (c.registers from.number) in
      let a = of_scalar g (s.registers from.number) in
      let covers : Covers o a (Some (num (f v.word))) = subst (λ k. Covers o (of_scalar g k) (Some (num (f v.word))))
      (sym v.is) (holds v.value v.word v.holds) in
      falls_on (with_register s dst.number a) (with_tag t dst.number (num (f v.word)) 1) falls
      (ap (λ n. t.slot + n) (sym one)) (covered_with o s t dst.number a (num (f v.word)) 1 c covers)
      (goes_unary bytes i dst from t v.word f is (free dst.number not_r10) v.is_tag)

  -- ---- loads and stores

  load_on : (i : Insn) (dst base : Register) (size : Size) (offset : ℤ) (s : View D) (t : Tagged) (a : D) (f : ℕ → ℕ)
      → fall o i s ≡ Some (with_register s dst.number (Scalar a)) → slots_of i ≡ 1
      → ((v : ℕ) → v < 2 ^ (8 * bytes_of size) → o.holds a (f v))
      → ((stack_at : ℕ) (u : State) → after stack_at i u ≡ (word_in u base >>? λ at. read_bytes u.memory
      (address_of at offset) (bytes_of size) >>? λ v. set_register u dst (f v) 1))
      → IsTrue (not (dst.number == 10)) → Covered o s t → ReadAt bytes t.stack (t.registers base.number) offset
      (bytes_of size) → Onward o bytes i s t
  load_on i dst base size offset s t a f falls one holds is not_r10 c r =
      falls_on (with_register s dst.number (Scalar a)) (with_tag t dst.number (num (f r.word)) 1) falls
      (ap (λ n. t.slot + n) (sym one))
      (covered_with o s t dst.number (Scalar a) (num (f r.word)) 1 c (holds r.word (size_bound size r.word r.small)))
      (goes_load bytes i dst base size offset t r.tag r.word f is (free dst.number not_r10) r.is_tag r.reads)

  -- ---- tests

  cut_on_one : (s : View D) (t : Tagged) (d v w : ℕ) (q : Option (D × D)) → Covered o s t → t.registers d ≡ Some (num v)
      → Keeps o q v w → (s' : View D) × (cut_one s d q ≡ Some s') × Covered o s' t
  cut_on_one s t d v w None c e k = absurd k
  cut_on_one s t d v w (Some p) c e k = (
    with_register s d (Scalar p.0),
    refl,
    record {
      registers =
          covers_cut o s.registers t.registers d (Scalar p.0) c.registers
          (subst (λ x. Covers o (Scalar p.0) x) (sym e) k.0);
      written = c.written;
      small = c.small;
    },
  )

  cut_on_both : (s : View D) (t : Tagged) (d r v w : ℕ) (q : Option (D × D)) → Covered o s t
      → t.registers d ≡ Some (num v) → t.registers r ≡ Some (num w) → Keeps o q v w
      → (s' : View D) × (cut_both s d r q ≡ Some s') × Covered o s' t
  cut_on_both s t d r v w None c e f k = absurd k
  cut_on_both s t d r v w (Some p) c e f k =
      let first = covers_cut o s.registers t.registers d (Scalar p.0) c.registers
      (subst (λ x. Covers o (Scalar p.0) x) (sym e) k.0) in (
        with_register (with_register s d (Scalar p.0)) r (Scalar p.1),
        refl,
        record {
          registers = covers_cut o (put s.registers d (Scalar p.0)) t.registers r (Scalar p.1) first
              (subst (λ x. Covers o (Scalar p.1) x) (sym f) k.1);
          written = c.written;
          small = c.small;
        },
      )

  -- the state that an edge carries covers what takes it
  refined_on : (w : Width) (test : Test) (taken : Bool) (s : View D) (t : Tagged) (d : ℕ) (src : Source)
      → SourceFits src → Covered o s t → (a : NumberAt o (s.registers d) (t.registers d))
      → (b : NumberAt o (operand_state o s src) (source_tag t src))
      → is_taken w test a.word b.word ≡ taken → (s' : View D) × (on_edge o w test taken s d src ≡ Some s')
      × Covered o s' t
  refined_on w test taken s t d (Imm n) f c a b e =
      let u = cast_unsigned w64 n in
      let same : u ≡ b.word = word_is u b.word b.is_tag in
      let e' : is_taken w test a.word (low w u) ≡ taken = is_taken_low w test a.word u
      ∙ ap (is_taken w test a.word) same ∙ e in
      let k = laws.refine_keeps w test taken a.value (o.single (low w u)) a.word (low w u) a.holds
      (laws.single_holds (low w u) (low_fits w u)) e' in
      let q = cut_on_one s t d a.word (low w u) (o.refine w test taken a.value (o.single (low w u))) c a.is_tag k in
      (q.0, ap (λ x. refined_imm o w test taken s d u x) a.is ∙ q.1, q.2)
    where
      word_is : (u v : ℕ) → Some (num u) ≡ Some (num v) → u ≡ v
      word_is u v e = cc

      is_taken_low : (w : Width) (test : Test) (a u : ℕ) → is_taken w test a (low w u) ≡ is_taken w test a u
      is_taken_low w test a u = ap (λ x. cut_test w test (low w a) x) (low_low w u)
  refined_on w test taken s t d (Reg r) f c a b e =
      elim (tells d r.number) [
        | inl p ↦ (s, rw p.0 refl, c)
        | inr p ↦
            let k = laws.refine_keeps w test taken a.value b.value a.word b.word a.holds b.holds e in
            let q = cut_on_both s t d r.number a.word b.word (o.refine w test taken a.value b.value) c a.is_tag b.is_tag
            k in (
              q.0,
              rw p.0 (ap (λ x. refined_pair o w test taken s d r.number x (s.registers r.number)) a.is
                  ∙ ap (λ y. refined_pair o w test taken s d r.number (Scalar a.value) y) b.is ∙ q.1),
              q.2,
            )
      ]

  jump_if_on : (w : Width) (test : Test) (dst : Register) (src : Source) (distance : ℤ) (s : View D) (t : Tagged)
      → SourceFits src → Covered o s t → PassesFor (length bytes) o (JumpIf w test dst src distance) s
      → ((to : ℕ) → leads_to t.slot (JumpIf w test dst src distance) ≡ Some to → to < 2 ^ 64) → (to : ℕ)
      → leads_to t.slot (JumpIf w test dst src distance) ≡ Some to
      → Onward o bytes (JumpIf w test dst src distance) s t
  jump_if_on w test dst src distance s t f c p fits to leads =
      let q = both (is_readable (s.registers dst.number)) (list_all (λ r. is_readable (s.registers r))
      (source_reads src)) (p UnreadableRule) in
      let n = neither (is_pointer (s.registers dst.number)) (is_pointer (operand_state o s src)) (p PointerCompared) in
      let a = number_at o (s.registers dst.number) (t.registers dst.number) q.0 n.0 (c.registers dst.number) in
      let b = number_at o (operand_state o s src) (source_tag t src) (source_readable o s src q.1) n.1
      (covers_source s t c src f) in
      let turn : (taken : Bool) → is_taken w test a.word b.word ≡ taken → (q : Placement) (u : State)
      → Matches q bytes t u → after q.stack_at (JumpIf w test dst src distance) u
      ≡ go_to u (cond taken (target u.slot distance) (u.slot + 1)) = λ taken e q u m.
      bind (word_in u dst) a.word (λ x. word_of u src >>? λ y. go_to u
      (cond (is_taken w test x y) (target u.slot distance) (u.slot + 1))) _ (word_at q bytes t u m dst
      ∙ ap (raw_option q) a.is_tag)
      (bind (word_of u src) b.word (λ y. go_to u (cond (is_taken w test a.word y) (target u.slot distance) (u.slot
      + 1))) _ (source_at q bytes t u m src ∙ ap (raw_option q) b.is_tag)
      (ap (λ x. go_to u (cond x (target u.slot distance) (u.slot + 1))) e)) in
      elim (truth (is_taken w test a.word b.word)) [
        | inl e ↦
            let r = refined_on w test true s t dst.number src f c a b e in
            jumps_on r.0 (at_slot t to) to r.1 leads refl (covered_at o r.0 t to r.2)
            (λ q placed u m.
            let g = go_on q bytes t u m (target u.slot distance) to (ap (λ k. target k distance) m.slot
            ∙ target_is t.slot to distance leads (fits to leads)) in
            (g.0, turn true e q u m ∙ g.1, g.2))
        | inr e ↦
            let r = refined_on w test false s t dst.number src f c a b e in
            falls_on r.0 (at_slot t (t.slot + 1)) r.1 refl (covered_at o r.0 t (t.slot + 1) r.2)
            (λ q placed u m.
            let g = go_on q bytes t u m (u.slot + 1) (t.slot + 1) (ap (λ k. k + 1) m.slot) in
            (g.0, turn false e q u m ∙ g.1, g.2))
      ]

  jump_on : (i : Insn) (distance : ℤ) (s : View D) (t : Tagged) → jump o i s ≡ Some s
      → ((stack_at : ℕ) (u : State) → after stack_at i u ≡ go_to u (target u.slot distance))
      → leads_to t.slot i ≡ forward_target t.slot (Some distance) → Covered o s t → (to : ℕ)
      → leads_to t.slot i ≡ Some to → to < 2 ^ 64 → Onward o bytes i s t
  jump_on i distance s t jumps is at c to leads fits =
      jumps_on s (at_slot t to) to jumps leads refl (covered_at o s t to c)
      (λ q placed u m.
      let g = go_on q bytes t u m (target u.slot distance) to (ap (λ k. target k distance) m.slot
      ∙ target_is t.slot to distance (sym at ∙ leads) fits) in
      (g.0, is q.stack_at u ∙ g.1, g.2))

  -- a store goes to the stack
  store_imm_on : (size : Size) (base : Register) (offset imm : ℤ) (s : View D) (t : Tagged) → FitsSigned w16 offset
      → Covered o s t → PassesFor (length bytes) o (StoreImm size base offset imm) s
      → Onward o bytes (StoreImm size base offset imm) s t
  store_imm_on size base offset imm s t f c p =
      let q = both (is_readable (s.registers base.number)) true (p UnreadableRule) in
      let r = store_there o s t (s.registers base.number) (t.registers base.number) offset size base.number c f
      (c.registers base.number) q.0 (p WritesRecord) (p OutsideStack) (p ScalarAddress) in
      let word = cast_unsigned w64 imm in
      falls_on _ _ refl refl (r.covers word)
      (λ z placed u m.
      let g = store_on z bytes placed t u m (address_of (raw z r.tag) offset) r.index (bytes_of size) word
      (r.address z placed) r.room in (
        g.0,
        bind (word_in u base) (raw z r.tag) (λ at. store_at z.stack_at u (address_of at offset) (bytes_of size)
            word) (Some g.0) (word_at z bytes t u m base ∙ ap (raw_option z) r.is_tag) g.1,
        g.2,
      ))

  store_reg_on : (size : Size) (base : Register) (offset : ℤ) (src : Register) (s : View D) (t : Tagged)
      → FitsSigned w16 offset → Covered o s t → PassesFor (length bytes) o (Store size base offset src) s
      → Onward o bytes (Store size base offset src) s t
  store_reg_on size base offset src s t f c p =
      let q = both (is_readable (s.registers base.number)) (is_readable (s.registers src.number) && true)
      (p UnreadableRule) in
      let q' = both (is_readable (s.registers src.number)) true q.1 in
      let v = number_at o (s.registers src.number) (t.registers src.number) q'.0 (p PointerStored)
      (c.registers src.number) in
      let r = store_there o s t (s.registers base.number) (t.registers base.number) offset size base.number c f
      (c.registers base.number) q.0 (p WritesRecord) (p OutsideStack) (p ScalarAddress) in
      falls_on _ _ refl refl (r.covers v.word)
      (λ z placed u m.
      let g = store_on z bytes placed t u m (address_of (raw z r.tag) offset) r.index (bytes_of size) v.word
      (r.address z placed) r.room in (
        g.0,
        bind (word_in u base) (raw z r.tag) (λ at. word_in u src >>? λ word. store_at z.stack_at u
            (address_of at offset) (bytes_of size) word) (Some g.0) (word_at z bytes t u m base
            ∙ ap (raw_option z) r.is_tag)
            (bind (word_in u src) v.word (λ word. store_at z.stack_at u (address_of (raw z r.tag) offset)
            (bytes_of size) word) (Some g.0) (word_at z bytes t u m src ∙ ap (raw_option z) v.is_tag) g.1),
        g.2,
      ))

  exit_on : (s : View D) (t : Tagged) → Covered o s t → PassesFor (length bytes) o Exit s → Onward o bytes Exit s t
  exit_on s t c p =
      let q = both (is_readable (s.registers 0)) true (p UnreadableRule) in
      let v = number_at o (s.registers 0) (t.registers 0) q.0 (p PointerResult) (c.registers 0) in
      ends v.word refl v.is_tag

  -- every instruction
  pub onward : (i : Insn) (s : View D) (t : Tagged) → IsListed i → Covered o s t → PassesFor (length bytes) o i s
      → ((to : ℕ) → leads_to t.slot i ≡ Some to → to < 2 ^ 64)
      → (distance_of i ≡ None) ⊎ ((to : ℕ) × (leads_to t.slot i ≡ Some to)) → Onward o bytes i s t
  onward (Alu w Mov dst src) s t l c p fits forward = mov_on w dst src s t l.numbers c p
  onward (Alu w op dst src) s t l c p fits forward = alu_on w op dst src s t refl l.numbers c p
  onward (Neg w dst) s t l c p fits forward =
      let q = both (is_readable (s.registers dst.number)) true (p UnreadableRule) in
      unary_on (Neg w dst) dst dst s t (o.neg w) (neg_of w) refl refl (laws.neg_holds w) (λ at u. refl) (p WritesR10)
      q.0 (p PointerOperation) c
  onward (MovSx w bits dst src) s t l c p fits forward =
      let q = both (is_readable (s.registers src.number)) true (p UnreadableRule) in
      unary_on (MovSx w bits dst src) dst src s t (o.mov_sx w bits) (mov_sx_of w bits) refl refl
      (λ a v h. laws.mov_sx_holds w bits a v l.selected h) (λ at u. refl) (p WritesR10) q.0 (p PointerOperation) c
  onward (End kind bits dst) s t l c p fits forward =
      let q = both (is_readable (s.registers dst.number)) true (p UnreadableRule) in
      unary_on (End kind bits dst) dst dst s t (o.end kind bits) (end_of kind bits) refl refl
      (λ a v h. laws.end_holds kind bits a v l.selected h) (λ at u. refl) (p WritesR10) q.0 (p PointerOperation) c
  onward (LoadWide dst value) s t l c p fits forward =
      falls_on (with_register s dst.number (Scalar (o.single value))) (with_tag t dst.number (num value) 2) refl refl
      (covered_with o s t dst.number (Scalar (o.single value)) (num value) 2 c (laws.single_holds value l.numbers))
      (goes_wide bytes dst value t (free dst.number (p WritesR10)))
  onward (Load size dst base offset) s t l c p fits forward =
      let q = both (is_readable (s.registers base.number)) true (p UnreadableRule) in
      load_on (Load size dst base offset) dst base size offset s t (o.load size false) (λ v. v) refl refl
      (laws.load_holds size) (λ at u. refl) (p WritesR10) c
      (load_there o bytes s t (s.registers base.number) (t.registers base.number) offset size base.number each c
      l.numbers (c.registers base.number) q.0 (p OutsideRecord) (p OutsideStack) (p UnwrittenStack)
      (p ScalarAddress))
  onward (LoadSx size dst base offset) s t l c p fits forward =
      let q = both (is_readable (s.registers base.number)) true (p UnreadableRule) in
      load_on (LoadSx size dst base offset) dst base size offset s t (o.load size true)
      (mov_sx_of W64 (8 * bytes_of size)) refl refl (laws.load_sx_holds size) (λ at u. refl) (p WritesR10) c
      (load_there o bytes s t (s.registers base.number) (t.registers base.number) offset size base.number each c
      l.numbers (c.registers base.number) q.0 (p OutsideRecord) (p OutsideStack) (p UnwrittenStack)
      (p ScalarAddress))
  onward (Store size base offset src) s t l c p fits forward = store_reg_on size base offset src s t l.numbers c p
  onward (StoreImm size base offset imm) s t l c p fits forward = store_imm_on size base offset imm s t l.numbers.0 c p
  onward (Jump distance) s t l c p fits (inl none) = absurd (cc)
  onward (Jump distance) s t l c p fits (inr q) = jump_on (Jump distance) distance s t refl (λ at u. refl) refl c q.0
      q.1 (fits q.0 q.1)
  onward (JumpLong distance) s t l c p fits (inl none) = absurd (cc)
  onward (JumpLong distance) s t l c p fits (inr q) = jump_on (JumpLong distance) distance s t refl (λ at u. refl) refl
      c q.0 q.1 (fits q.0 q.1)
  onward (JumpIf w test dst src distance) s t l c p fits (inl none) = absurd (cc)
  onward (JumpIf w test dst src distance) s t l c p fits (inr q) =
      jump_if_on w test dst src distance s t l.numbers.0 c p fits q.0 q.1
  onward Exit s t l c p fits forward = exit_on s t c p
