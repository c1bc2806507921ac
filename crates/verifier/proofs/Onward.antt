-- Where an instruction that passes leads, wherever record and stack lie: operations, loads and stores.
use Rattle.std.proofs.Common.{◌≡◌, ℕ, ◌+◌, ◌-◌, ◌/◌, ◌%◌, ◌^◌, ◌≤◌, Bool, true, false, cond, ◌==◌, ◌&&◌, refl, ap, ◌∙◌, sym, arith, List, length, Option, Some, ℤ}
use Rattle.std.specs.Prelude.{IsTrue, nat_le, nat_lt, not}
use Rattle.std.specs.Int.{w64, cast_unsigned}
use Rattle.std.proofs.lemmas.Bool.Decides.{nat_tests}
use Rattle.instruction_set.specs.Machine.{Memory, Placement, IsPlacementFor, State, ◌>>?◌, read_bytes, written, bytes_of, address_of, store_at, stack_len, word_in, operand as word_of, set_register, after}
use Rattle.instruction_set.specs.Operations.{alu_of}
use Rattle.instruction_set.specs.declared.insn.Width.{Width}
use Rattle.instruction_set.specs.declared.insn.Size.{Size}
use Rattle.instruction_set.specs.declared.insn.AluOp.{AluOp}
use Rattle.instruction_set.specs.declared.insn.AluOp.TheVariants.{Add, Sub, Mul, Div, SDiv, Or, And, Lsh, Rsh, Mod, SMod, Xor, Mov, Arsh}
use Rattle.instruction_set.specs.declared.insn.Register.{Register}
use Rattle.instruction_set.specs.declared.insn.Source.{Source}
use Rattle.instruction_set.specs.declared.insn.Source.TheVariants.{Imm, Reg}
use Rattle.instruction_set.specs.declared.insn.Insn.{Insn}
use Rattle.instruction_set.specs.declared.insn.Insn.TheVariants.{Alu, LoadWide}
use Rattle.verifier.proofs.Tags.{Tag, num, raw, raw_option, Tagged, Matches, memory_at, word_at, with_tag, set_on}
use Rattle.verifier.proofs.Accesses.{read_same, stack_written}
use Rattle.verifier.proofs.Moves.{is_mov}

-- ---- what the raw machine does, where its words are known

pub bind : {A B : Type 0} (x : Option A) (a : A) (f : A → Option B) (r : Option B) → x ≡ Some a → f a ≡ r
    → (x >>? f) ≡ r
bind x a f r e h = ap (λ y. y >>? f) e ∙ h

pub free : (r : ℕ) → IsTrue (not (r == 10)) → (r == 10) ≡ false
free r h = not_false (r == 10) h
  where
    not_false : (b : Bool) → IsTrue (not b) → b ≡ false
    not_false true h = absurd (cc)
    not_false false h = refl

-- the second operand of a tagged state
abbrev pub source_tag : Tagged → Source → Option Tag
source_tag t (Imm n) = Some (num (cast_unsigned w64 n))
source_tag t (Reg r) = t.registers r.number

pub source_at : (p : Placement) (bytes : List ℕ) (t : Tagged) (u : State) → Matches p bytes t u → (src : Source)
    → word_of u src ≡ raw_option p (source_tag t src)
source_at p bytes t u m (Imm n) = refl
source_at p bytes t u m (Reg r) = word_at p bytes t u m r

-- an instruction goes from one tagged state to another, at each placement
abbrev pub Goes : List ℕ → Insn → Tagged → Tagged → Type 0
Goes bytes i t t' = (p : Placement) → IsPlacementFor (length bytes) p → (u : State) → Matches p bytes t u
    → (u' : State) × (after p.stack_at i u ≡ Some u') × Matches p bytes t' u'

after_alu : (stack_at : ℕ) (w : Width) (op : AluOp) (dst : Register) (src : Source) (u : State) → is_mov op ≡ false
    → after stack_at (Alu w op dst src) u ≡ (word_in u dst >>? λ a. word_of u src >>? λ b. set_register u dst
    (alu_of w op a b) 1)
after_alu stack_at w Add dst src u n = refl
after_alu stack_at w Sub dst src u n = refl
after_alu stack_at w Mul dst src u n = refl
after_alu stack_at w Div dst src u n = refl
after_alu stack_at w SDiv dst src u n = refl
after_alu stack_at w Or dst src u n = refl
after_alu stack_at w And dst src u n = refl
after_alu stack_at w Lsh dst src u n = refl
after_alu stack_at w Rsh dst src u n = refl
after_alu stack_at w Mod dst src u n = refl
after_alu stack_at w SMod dst src u n = refl
after_alu stack_at w Xor dst src u n = refl
after_alu stack_at w Mov dst src u n = absurd (cc)
after_alu stack_at w Arsh dst src u n = refl

-- an operation on two tagged operands
pub goes_alu : (bytes : List ℕ) (w : Width) (op : AluOp) (dst : Register) (src : Source) (t : Tagged) (x y z : Tag)
    → is_mov op ≡ false → (dst.number == 10) ≡ false
    → t.registers dst.number ≡ Some x → source_tag t src ≡ Some y
    → ((p : Placement) → alu_of w op (raw p x) (raw p y) ≡ raw p z)
    → Goes bytes (Alu w op dst src) t (with_tag t dst.number z 1)
goes_alu bytes w op dst src t x y z n f dx sy word p placed u m =
    let a : word_in u dst ≡ Some (raw p x) = word_at p bytes t u m dst ∙ ap (raw_option p) dx in
    let b : word_of u src ≡ Some (raw p y) = source_at p bytes t u m src ∙ ap (raw_option p) sy in
    let s = set_on p bytes t u m dst f z (alu_of w op (raw p x) (raw p y)) (sym (word p)) 1 in (
      s.0,
      after_alu p.stack_at w op dst src u n ∙ bind (word_in u dst) (raw p x)
          (λ v. word_of u src >>? λ k. set_register u dst (alu_of w op v k) 1) (Some s.0) a
          (bind (word_of u src) (raw p y) (λ k. set_register u dst (alu_of w op (raw p x) k) 1) (Some s.0) b s.1),
      s.2,
    )

-- a move reads its source alone
pub goes_mov : (bytes : List ℕ) (w : Width) (dst : Register) (src : Source) (t : Tagged) (y z : Tag)
    → (dst.number == 10) ≡ false
    → source_tag t src ≡ Some y → ((p : Placement) → alu_of w Mov (raw p y) (raw p y) ≡ raw p z)
    → Goes bytes (Alu w Mov dst src) t (with_tag t dst.number z 1)
goes_mov bytes w dst src t y z f sy word p placed u m =
    let b : word_of u src ≡ Some (raw p y) = source_at p bytes t u m src ∙ ap (raw_option p) sy in
    let s = set_on p bytes t u m dst f z (alu_of w Mov (raw p y) (raw p y)) (sym (word p)) 1 in
    (s.0, bind (word_of u src) (raw p y) (λ k. set_register u dst (alu_of w Mov k k) 1) (Some s.0) b s.1, s.2)

-- an operation on one number: from is the register that it reads
pub goes_unary : (bytes : List ℕ) (i : Insn) (dst from : Register) (t : Tagged) (v : ℕ) (f : ℕ → ℕ)
    → ((stack_at : ℕ) (u : State) → after stack_at i u ≡ (word_in u from >>? λ a. set_register u dst (f a) 1))
    → (dst.number == 10) ≡ false → t.registers from.number ≡ Some (num v)
    → Goes bytes i t (with_tag t dst.number (num (f v)) 1)
goes_unary bytes i dst from t v f is free_dst fx p placed u m =
    let a : word_in u from ≡ Some v = word_at p bytes t u m from ∙ ap (raw_option p) fx in
    let s = set_on p bytes t u m dst free_dst (num (f v)) (f v) refl 1 in
    (s.0, is p.stack_at u ∙ bind (word_in u from) v (λ b. set_register u dst (f b) 1) (Some s.0) a s.1, s.2)

pub goes_wide : (bytes : List ℕ) (dst : Register) (value : ℕ) (t : Tagged) → (dst.number == 10) ≡ false
    → Goes bytes (LoadWide dst value) t (with_tag t dst.number (num value) 2)
goes_wide bytes dst value t f p placed u m = set_on p bytes t u m dst f (num value) value refl 2

-- a load of a word that is there at each placement
pub goes_load : (bytes : List ℕ) (i : Insn) (dst base : Register) (size : Size) (offset : ℤ) (t : Tagged) (x : Tag)
    (word : ℕ) (f : ℕ → ℕ)
    → ((stack_at : ℕ) (u : State) → after stack_at i u ≡ (word_in u base >>? λ at. read_bytes u.memory
    (address_of at offset) (bytes_of size) >>? λ v. set_register u dst (f v) 1))
    → (dst.number == 10) ≡ false → t.registers base.number ≡ Some x
    → ((p : Placement) → IsPlacementFor (length bytes) p → read_bytes (memory_at p bytes t.stack)
    (address_of (raw p x) offset) (bytes_of size) ≡ Some word)
    → Goes bytes i t (with_tag t dst.number (num (f word)) 1)
goes_load bytes i dst base size offset t x word f is free_dst bx there p placed u m =
    let a : word_in u base ≡ Some (raw p x) = word_at p bytes t u m base ∙ ap (raw_option p) bx in
    let at = address_of (raw p x) offset in
    let r : read_bytes u.memory at (bytes_of size) ≡ Some word =
    read_same u.memory (memory_at p bytes t.stack) at at (bytes_of size) (λ j l. m.memory (at + j))
    ∙ there p placed in
    let s = set_on p bytes t u m dst free_dst (num (f word)) (f word) refl 1 in (
      s.0,
      is p.stack_at u ∙ bind (word_in u base) (raw p x) (λ at'. read_bytes u.memory (address_of at' offset)
          (bytes_of size) >>? λ v. set_register u dst (f v) 1) (Some s.0) a
          (bind (read_bytes u.memory at (bytes_of size)) word (λ v. set_register u dst (f v) 1) (Some s.0) r s.1),
      s.2,
    )

abbrev pub with_stack : Tagged → Memory → Tagged
with_stack t stack = record { slot = t.slot + 1; registers = t.registers; stack = stack }

written_same : (m m' : Memory) (at n word a : ℕ) → m a ≡ m' a → written m at n word a ≡ written m' at n word a
written_same m m' at n word a e = ap (λ x. cond (nat_le at a && nat_lt a (at + n)) (Some (word / 256 ^ (a - at) % 256))
    x) e

-- a store of a number inside the stack, at an index from its lowest byte
pub store_on : (p : Placement) (bytes : List ℕ) → IsPlacementFor (length bytes) p → (t : Tagged) (u : State)
    → Matches p bytes t u → (at index n word : ℕ) → at ≡ p.stack_at + index → index + n ≤ stack_len
    → (u' : State) × (store_at p.stack_at u at n word ≡ Some u')
    × Matches p bytes (with_stack t (written t.stack index n word)) u'
store_on p bytes placed t u m at index n word e h =
    let lo : nat_le p.stack_at at ≡ true = grind (arith, nat_tests) in
    let hi : nat_le (at + n) (p.stack_at + stack_len) ≡ true = grind (arith, nat_tests) in (
      record { slot = u.slot + 1; registers = u.registers; memory = written u.memory at n word },
      rw (lo, hi) refl,
      record {
        slot = ap (λ k. k + 1) m.slot;
        long = m.long;
        registers = m.registers;
        memory = λ a. written_same u.memory (memory_at p bytes t.stack) at n word a (m.memory a)
            ∙ ap (λ k. written (memory_at p bytes t.stack) k n word a) e
            ∙ stack_written p bytes placed t.stack index n word h a;
      },
    )
