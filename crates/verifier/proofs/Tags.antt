-- Words that know what they are, and the machine that runs on them: it knows no placement.
use Rattle.std.proofs.Common.{◌≡◌, ◌≢◌, ℕ, ◌+◌, ◌-◌, ◌%◌, ◌^◌, ◌<◌, ◌≤◌, Bool, true, false, cond, ◌==◌, ◌&&◌, ◌⊎◌, inl, inr, refl, ap, ◌∙◌, sym, subst, arith, List, length, get_or, set, Option, Some, None, ℤ}
use Rattle.std.specs.Prelude.{IsTrue, ◌≤ℤ◌, nat_le, nat_lt, slice_get, slice_index}
use Rattle.std.specs.Int.{w64, cast_unsigned}
use Rattle.std.proofs.lemmas.Bool.Decides.{nat_tests}
use Rattle.std.proofs.lemmas.Option.{slice_get-get_or}
use Rattle.std.proofs.lemmas.List.{get_or-set_same, get_or-set_other, length-set}
use Rattle.instruction_set.specs.Machine.{Memory, Placement, State, stack_len, word_in, set_register}
use Rattle.instruction_set.specs.declared.insn.Register.{Register}
use Rattle.abstract_value.specs.Domain.{Ops}
use Rattle.abstract_value.specs.States.{View, put}
use Rattle.abstract_value.specs.declared.states.RegState.{RegState}
use Rattle.abstract_value.specs.declared.states.RegState.TheVariants.{Scalar, Record, Stack, Unreadable}

pub data Region : Type 0 where
  the_record : Region
  the_stack : Region

-- a number, or an offset from a region's start, or from the stack's end
pub data Tag : Type 0 where
  num : ℕ → Tag
  ptr : Region → ℤ → Tag

abbrev pub base_of : Placement → Region → ℕ
base_of p the_record = p.record_at
base_of p the_stack = p.stack_at + stack_len

-- the word that it is, where record and stack lie so
abbrev pub raw : Placement → Tag → ℕ
raw p (num v) = v
raw p (ptr region k) = (base_of p region + cast_unsigned w64 k) % 2 ^ 64

abbrev pub raw_option : Placement → Option Tag → Option ℕ
raw_option p None = None
raw_option p (Some x) = Some (raw p x)

-- a state that knows no placement: the stack's bytes are counted from its lowest
pub record Tagged : Type 0 where
  pub slot : ℕ
  pub registers : ℕ → Option Tag
  pub stack : Memory

abbrev pub is_in : ℕ → ℕ → ℕ → Bool
is_in start len address = nat_le start address && nat_lt address (start + len)

abbrev pub memory_at : Placement → List ℕ → Memory → Memory
memory_at p bytes stack address =
    cond (is_in p.record_at (length bytes) address) (Some (slice_index bytes (address - p.record_at)))
    (cond (is_in p.stack_at stack_len address) (stack (address - p.stack_at)) None)

-- the raw state is the tagged one, where record and stack lie so
pub record Matches (p : Placement) (bytes : List ℕ) (t : Tagged) (u : State) : Type 0 where
  pub slot : u.slot ≡ t.slot
  pub long : length u.registers ≡ 11
  pub registers : (r : ℕ) → r < 11 → get_or u.registers r None ≡ raw_option p (t.registers r)
  pub memory : (a : ℕ) → u.memory a ≡ memory_at p bytes t.stack a

pub tells : (m n : ℕ) → (((m == n) ≡ true) × (m ≡ n)) ⊎ (((m == n) ≡ false) × (m ≢ n))
tells m n = grind (arith, nat_tests)

-- ---- registers

pub word_at : (p : Placement) (bytes : List ℕ) (t : Tagged) (u : State) → Matches p bytes t u → (r : Register)
    → word_in u r ≡ raw_option p (t.registers r.number)
word_at p bytes t u m r =
    let h : r.number ≤ 10 = r.in_range in
    let l : length u.registers ≡ 11 = m.long in
    let e : slice_get u.registers r.number ≡ Some (get_or u.registers r.number None) =
    slice_get-get_or u.registers r.number None (omega arith) in
    rw e (m.registers r.number (omega arith))

abbrev pub with_tag : Tagged → ℕ → Tag → ℕ → Tagged
with_tag t r x slots = record { slot = t.slot + slots; registers = put t.registers r (Some x); stack = t.stack }

registers_put : (p : Placement) (xs : List (Option ℕ)) (tags : ℕ → Option Tag) (d word : ℕ) (x : Tag) → raw p x ≡ word
    → length xs ≡ 11 → d < 11
    → ((r : ℕ) → r < 11 → get_or xs r None ≡ raw_option p (tags r)) → (r : ℕ) → r < 11
    → get_or (set xs d (Some word)) r None ≡ raw_option p (put tags d (Some x) r)
registers_put p xs tags d word x e l h before r k =
    elim (tells r d) [
      | inl same ↦ rw same.0 (ap (λ i. get_or (set xs d (Some word)) i None) same.1
          ∙ get_or-set_same xs d (Some word) None (omega arith) ∙ ap Some (sym e))
      | inr other ↦ rw other.0 (get_or-set_other xs d r (Some word) None other.1 ∙ before r k)
    ]

-- a register that isn't R10 is set
pub set_on : (p : Placement) (bytes : List ℕ) (t : Tagged) (u : State) → Matches p bytes t u → (r : Register)
    → (r.number == 10) ≡ false → (x : Tag) (word : ℕ) → raw p x ≡ word → (slots : ℕ)
    → (after : State) × (set_register u r word slots ≡ Some after) × Matches p bytes (with_tag t r.number x slots) after
set_on p bytes t u m r free x word e slots =
    let h : r.number ≤ 10 = r.in_range in
    let long : length u.registers ≡ 11 = m.long in (
      record { slot = u.slot + slots; registers = set u.registers r.number (Some word); memory = u.memory },
      rw free refl,
      record {
        slot = ap (λ n. n + slots) m.slot;
        long = length-set u.registers r.number (Some word) ∙ m.long;
        registers = registers_put p u.registers t.registers r.number word x e m.long (omega arith) m.registers;
        memory = m.memory;
      },
    )

-- ---- what abstract states say of tagged ones

abbrev pub Covers : {D : Type 0} → Ops D → RegState D → Option Tag → Type 0
Covers o Unreadable x = Unit {0}
Covers o (Scalar a) (Some (num v)) = o.holds a v
Covers o (Record a) (Some (ptr the_record k)) = (a.lo ≤ℤ k) × (k ≤ℤ a.hi)
Covers o (Stack a) (Some (ptr the_stack k)) = (a.lo ≤ℤ k) × (k ≤ℤ a.hi)
Covers o _ _ = ⊥

pub record Covered {D : Type 0} (o : Ops D) (s : View D) (t : Tagged) : Type 0 where
  pub registers : (r : ℕ) → Covers o (s.registers r) (t.registers r)
  pub written : (k : ℕ) → IsTrue (s.written k) → (b : ℕ) × (t.stack k ≡ Some b)
  pub small : (k b : ℕ) → t.stack k ≡ Some b → b < 256

pub covers_put : {D : Type 0} (o : Ops D) (regs : ℕ → RegState D) (tags : ℕ
    → Option Tag) (d : ℕ) (a : RegState D) (x : Tag) → ((r : ℕ) → Covers o (regs r) (tags r)) → Covers o a (Some x)
    → (r : ℕ) → Covers o (put regs d a r) (put tags d (Some x) r)
covers_put o regs tags d a x h k r = elim (r == d) as (λ b. Covers o (cond b a (regs r)) (cond b (Some x) (tags r)))
    [ true ↦ k | false ↦ h r ]

-- a register alone is known better
pub covers_cut : {D : Type 0} (o : Ops D) (regs : ℕ → RegState D) (tags : ℕ → Option Tag) (d : ℕ) (a : RegState D)
    → ((r : ℕ) → Covers o (regs r) (tags r)) → Covers o a (tags d)
    → (r : ℕ) → Covers o (put regs d a r) (tags r)
covers_cut o regs tags d a h k r =
    elim (tells r d) [
      | inl p ↦ rw p.0 (subst (λ q. Covers o a (tags q)) (sym p.1) k)
      | inr p ↦ rw p.0 (h r)
    ]

-- a register that holds a number
pub record NumberAt {D : Type 0} (o : Ops D) (a : RegState D) (x : Option Tag) : Type 0 where
  pub value : D
  pub word : ℕ
  pub is : a ≡ Scalar value
  pub is_tag : x ≡ Some (num word)
  pub holds : o.holds value word
