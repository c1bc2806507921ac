-- Facts about a context hold for a longer one.
use Rattle.std.proofs.Common.{◌≡◌, ℕ, zero, suc, ◌+◌, ◌-◌, ◌*◌, ◌/◌, ◌%◌, ◌^◌, ◌<◌, ◌≤◌, Bool, true, false, cond, ◌==◌, ◌&&◌, ◌⊎◌, inl, inr, refl, ap, ◌∙◌, sym, subst, arith, List, length, take, Option, Some, None, ℤ}
use Rattle.std.specs.Prelude.{IsTrue, nat_le, nat_lt, slice_index, slice_set}
use Rattle.std.proofs.lemmas.Bool.Decides.{nat_tests}
use Rattle.std.proofs.lemmas.Int.{ints}
use Rattle.std.proofs.lemmas.List.{get_or-take, length-take-le}
use Rattle.std.proofs.lemmas.List.Elements.{All-take}
use Rattle.std.specs.Int.{w64, cast_unsigned}
use Rattle.instruction_set.specs.Operations.{alu_of, neg_of, mov_sx_of, end_of, is_taken}
use Rattle.instruction_set.specs.declared.insn.Width.TheVariants.{W64}
use Rattle.instruction_set.specs.declared.insn.Register.{Register}
use Rattle.instruction_set.specs.declared.insn.AluOp.TheVariants.{Mov}
use Rattle.instruction_set.specs.declared.insn.Insn.{Insn}
use Rattle.instruction_set.specs.declared.insn.Insn.TheVariants.{Alu, Neg, MovSx, End, LoadWide, Load, LoadSx, Store, StoreImm, Jump, JumpLong, JumpIf, Exit}
use Rattle.instruction_set.specs.Slots.{IsCode}
use Rattle.instruction_set.specs.Machine.{Memory, Placement, IsPlacementFor, State, ◌>>?◌, insn_at, entry_for, read_bytes, written, bytes_of, address_of, word_in, operand, target, go_to, store_at, set_register, stack_len, after, step, steps, EndsWithFor, IsRecordOf}
use Rattle.abstract_value.specs.Domain.{Ops, Laws}
use Rattle.abstract_value.specs.States.{View}
use Rattle.abstract_value.specs.declared.states.RegState.{RegState}
use Rattle.abstract_value.specs.declared.states.RegState.TheVariants.{Record}
use Rattle.verifier.specs.declared.rule.Rule.TheVariants.{OutsideRecord}
use Rattle.verifier.specs.Structure.{IsStructured}
use Rattle.verifier.specs.Rules.{Access, access_of, of_access, inside_record, PassesFor}
use Rattle.verifier.specs.Assignments.{IsTypableFor}
use Rattle.verifier.specs.LongerRecords.{EndsAlikeFor}
use Rattle.verifier.proofs.Onward.{bind}
use Rattle.verifier.proofs.Safe.{safe}

-- ---- the rules

inside_still : {D : Type 0} (short long : ℕ) (a : RegState D) (r : Access) → short ≤ long
    → IsTrue (inside_record short a r) → IsTrue (inside_record long a r)
inside_still short long (Record a) r h k = grind (arith, ints, nat_tests)
inside_still short long a r h k = refl

access_still : {D : Type 0} (short long : ℕ) (i : Insn) (s : View D) → short ≤ long
    → IsTrue (of_access i s (inside_record short)) → IsTrue (of_access i s (inside_record long))
access_still short long i s h = by_access (access_of i)
  where
    by_access : (x : Option Access) → IsTrue (elim x [
      | None ↦ true
      | Some r ↦ inside_record short (s.registers r.base) r
    ]) → IsTrue (elim x [ None ↦ true | Some r ↦ inside_record long (s.registers r.base) r ])
    by_access None k = refl
    by_access (Some r) k = inside_still short long (s.registers r.base) r h k

passes_still : {D : Type 0} (o : Ops D) (short long : ℕ) (i : Insn) (s : View D) → short ≤ long → PassesFor short o i s
    → PassesFor long o i s
passes_still o short long i s h p OutsideRecord = access_still short long i s h (p OutsideRecord)
passes_still o short long i s h p rule = p rule

pub typable_still : {D : Type 0} (o : Ops D) (short long : ℕ) (code : List Insn) → short ≤ long
    → IsTypableFor short o code → IsTypableFor long o code
typable_still o short long code h t =
    let f = t.1 in (
      t.0,
      record {
        start = f.start;
        inside = f.inside;
        passes = λ slot i s l at is. passes_still o short long i s h (f.passes slot i s l at is);
        falls = f.falls;
        jumps = f.jumps;
      },
    )

-- ---- runs: with more bytes there, a machine that isn't stuck goes on as it did

-- each byte that is there in the one is there in the other
abbrev Within : Memory → Memory → Type 0
Within m m' = (a b : ℕ) → m a ≡ Some b → m' a ≡ Some b

abbrev with_memory : State → Memory → State
with_memory s m = record { slot = s.slot; registers = s.registers; memory = m }

-- where the one goes on, the other does, to the same state but for more bytes
abbrev GoesToo : Option State → Option State → Type 0
GoesToo x x' = (t : State) → x ≡ Some t → (m : Memory) × (x' ≡ Some (with_memory t m)) × Within t.memory m

too_bind : {A : Type 0} (x : Option A) (f f' : A → Option State) → ((a : A) → GoesToo (f a) (f' a))
    → GoesToo (x >>? f) (x >>? f')
too_bind None f f' h t e = absurd (cc)
too_bind (Some a) f f' h t e = h a t e

too_read : (x x' : Option ℕ) (f f' : ℕ → Option State) → ((w : ℕ) → x ≡ Some w → x' ≡ Some w)
    → ((w : ℕ) → GoesToo (f w) (f' w)) → GoesToo (x >>? f) (x' >>? f')
too_read None x' f f' same h t e = absurd (cc)
too_read (Some w) x' f f' same h t e =
    let g = h w t e in
    (g.0, bind x' w f' (Some (with_memory t g.0)) (same w refl) g.1, g.2)

read_more : (m m' : Memory) (at n word : ℕ) → Within m m' → ((rest : ℕ) → read_bytes m (at + 1) n ≡ Some rest
    → read_bytes m' (at + 1) n ≡ Some rest) → read_bytes m at (suc n) ≡ Some word → read_bytes m' at (suc n) ≡ Some word
read_more m m' at n word h more e = by_byte (m at) refl e
  where
    by_rest : (byte : ℕ) → m' at ≡ Some byte → (x : Option ℕ) → read_bytes m (at + 1) n ≡ x
        → (x >>? λ rest. Some (byte + 256 * rest)) ≡ Some word → read_bytes m' at (suc n) ≡ Some word
    by_rest byte there None is f = absurd (cc)
    by_rest byte there (Some rest) is f = let there' : read_bytes m' (at + 1) n ≡ Some rest = more rest is in
        rw (there, there') f

    by_byte : (x : Option ℕ) → m at ≡ x → (x >>? λ byte. read_bytes m (at + 1) n >>? λ rest. Some (byte + 256 * rest))
        ≡ Some word → read_bytes m' at (suc n) ≡ Some word
    by_byte None is f = absurd (cc)
    by_byte (Some byte) is f = by_rest byte (h at byte is) (read_bytes m (at + 1) n) refl f

read_within : (m m' : Memory) (at n word : ℕ) → Within m m' → read_bytes m at n ≡ Some word
    → read_bytes m' at n ≡ Some word
read_within m m' at zero word h e = e
read_within m m' at (suc n) word h e = read_more m m' at n word h (λ rest f. read_within m m' (at + 1) n rest h f) e

written_within : (m m' : Memory) (at n word : ℕ) → Within m m' → Within (written m at n word) (written m' at n word)
written_within m m' at n word h a b = by_test (nat_le at a && nat_lt a (at + n))
  where
    by_test : (q : Bool) → cond q (Some (word / 256 ^ (a - at) % 256)) (m a) ≡ Some b
        → cond q (Some (word / 256 ^ (a - at) % 256)) (m' a) ≡ Some b
    by_test true e = e
    by_test false e = h a b e

too_set : (s : State) (m : Memory) (r : Register) (word slots : ℕ) → Within s.memory m
    → GoesToo (set_register s r word slots) (set_register (with_memory s m) r word slots)
too_set s m r word slots h = by_test (r.number == 10)
  where
    next : Memory → State
    next memory = record {
      slot = s.slot + slots;
      registers = slice_set s.registers r.number (Some word);
      memory = memory;
    }

    by_test : (q : Bool) → GoesToo (cond q None (Some (next s.memory))) (cond q None (Some (next m)))
    by_test true t e = absurd (cc)
    by_test false t e = let f : next s.memory ≡ t = cc in subst (λ u. (n : Memory)
        × (Some (next m) ≡ Some (with_memory u n)) × Within u.memory n) f (m, refl, h)

too_store : (stack_at : ℕ) (s : State) (m : Memory) (at n word : ℕ) → Within s.memory m
    → GoesToo (store_at stack_at s at n word) (store_at stack_at (with_memory s m) at n word)
too_store stack_at s m at n word h = by_test (nat_le stack_at at && nat_le (at + n) (stack_at + stack_len))
  where
    next : Memory → State
    next memory = record { slot = s.slot + 1; registers = s.registers; memory = written memory at n word }

    by_test : (q : Bool) → GoesToo (cond q (Some (next s.memory)) None) (cond q (Some (next m)) None)
    by_test true t e = let f : next s.memory ≡ t = cc in subst (λ u. (k : Memory)
        × (Some (next m) ≡ Some (with_memory u k)) × Within u.memory k) f (
          written m at n word,
          refl,
          written_within s.memory m at n word h,
        )
    by_test false t e = absurd (cc)

too_go : (s : State) (m : Memory) (slot : ℕ) → Within s.memory m
    → GoesToo (Some (record { slot = slot; registers = s.registers; memory = s.memory }))
    (Some (record { slot = slot; registers = s.registers; memory = m }))
too_go s m slot h t e = let f : record { slot = slot; registers = s.registers; memory = s.memory } ≡ t = cc in
    subst (λ u. (k : Memory) × (Some (record { slot = slot; registers = s.registers; memory = m })
    ≡ Some (with_memory u k)) × Within u.memory k) f (m, refl, h)

-- what a register holds goes on, and so does an operand
too_of : (s : State) (m : Memory) (x : Option ℕ) (dst : Register) (f : ℕ → ℕ) → Within s.memory m
    → GoesToo (x >>? λ a. set_register s dst (f a) 1) (x >>? λ a. set_register (with_memory s m) dst (f a) 1)
too_of s m x dst f h = too_bind x (λ a. set_register s dst (f a) 1) (λ a. set_register (with_memory s m) dst (f a) 1)
    (λ a. too_set s m dst (f a) 1 h)

too_of_both : (s : State) (m : Memory) (x y : Option ℕ) (dst : Register) (f : ℕ → ℕ → ℕ) → Within s.memory m
    → GoesToo (x >>? λ a. y >>? λ b. set_register s dst (f a b) 1)
    (x >>? λ a. y >>? λ b. set_register (with_memory s m) dst (f a b) 1)
too_of_both s m x y dst f h =
    too_bind x (λ a. y >>? λ b. set_register s dst (f a b) 1)
    (λ a. y >>? λ b. set_register (with_memory s m) dst (f a b) 1) (λ a. too_of s m y dst (f a) h)

too_load : (s : State) (m : Memory) (x : Option ℕ) (offset : ℤ) (n : ℕ) (dst : Register) (f : ℕ → ℕ) → Within s.memory m
    → GoesToo (x >>? λ at. read_bytes s.memory (address_of at offset) n >>? λ w. set_register s dst (f w) 1)
    (x >>? λ at. read_bytes m (address_of at offset) n >>? λ w. set_register (with_memory s m) dst (f w) 1)
too_load s m x offset n dst f h =
    too_bind x (λ at. read_bytes s.memory (address_of at offset) n >>? λ w. set_register s dst (f w) 1)
    (λ at. read_bytes m (address_of at offset) n >>? λ w. set_register (with_memory s m) dst (f w) 1)
    (λ at. too_read (read_bytes s.memory (address_of at offset) n) (read_bytes m (address_of at offset) n)
    (λ w. set_register s dst (f w) 1) (λ w. set_register (with_memory s m) dst (f w) 1)
    (λ w. read_within s.memory m (address_of at offset) n w h) (λ w. too_set s m dst (f w) 1 h))

too_put : (stack_at : ℕ) (s : State) (m : Memory) (x : Option ℕ) (offset : ℤ) (n word : ℕ) → Within s.memory m
    → GoesToo (x >>? λ at. store_at stack_at s (address_of at offset) n word)
    (x >>? λ at. store_at stack_at (with_memory s m) (address_of at offset) n word)
too_put stack_at s m x offset n word h =
    too_bind x (λ at. store_at stack_at s (address_of at offset) n word)
    (λ at. store_at stack_at (with_memory s m) (address_of at offset) n word)
    (λ at. too_store stack_at s m (address_of at offset) n word h)

too_test : (s : State) (m : Memory) (x y : Option ℕ) (to : ℕ → ℕ → ℕ) → Within s.memory m
    → GoesToo (x >>? λ a. y >>? λ b. go_to s (to a b)) (x >>? λ a. y >>? λ b. go_to (with_memory s m) (to a b))
too_test s m x y to h =
    too_bind x (λ a. y >>? λ b. go_to s (to a b)) (λ a. y >>? λ b. go_to (with_memory s m) (to a b))
    (λ a. too_bind y (λ b. go_to s (to a b)) (λ b. go_to (with_memory s m) (to a b)) (λ b. too_go s m (to a b) h))

too_after : (stack_at : ℕ) (i : Insn) (s : State) (m : Memory) → Within s.memory m
    → GoesToo (after stack_at i s) (after stack_at i (with_memory s m))
too_after stack_at (Alu width Mov dst src) s m h = too_of s m (operand s src) dst (λ b. alu_of width Mov b b) h
too_after stack_at (Alu width op dst src) s m h = too_of_both s m (word_in s dst) (operand s src) dst (alu_of width op)
    h
too_after stack_at (Neg width dst) s m h = too_of s m (word_in s dst) dst (neg_of width) h
too_after stack_at (MovSx width bits dst src) s m h = too_of s m (word_in s src) dst (mov_sx_of width bits) h
too_after stack_at (End kind bits dst) s m h = too_of s m (word_in s dst) dst (end_of kind bits) h
too_after stack_at (LoadWide dst value) s m h = too_set s m dst value 2 h
too_after stack_at (Load size dst base offset) s m h = too_load s m (word_in s base) offset (bytes_of size) dst (λ w. w)
    h
too_after stack_at (LoadSx size dst base offset) s m h = too_load s m (word_in s base) offset (bytes_of size) dst
    (mov_sx_of W64 (8 * bytes_of size)) h
too_after stack_at (Store size base offset src) s m h =
    too_bind (word_in s base) (λ at. word_in s src >>? λ word. store_at stack_at s (address_of at offset)
    (bytes_of size) word) (λ at. word_in s src >>? λ word. store_at stack_at (with_memory s m)
    (address_of at offset) (bytes_of size) word)
    (λ at. too_bind (word_in s src) (λ word. store_at stack_at s (address_of at offset) (bytes_of size) word)
    (λ word. store_at stack_at (with_memory s m) (address_of at offset) (bytes_of size) word)
    (λ word. too_store stack_at s m (address_of at offset) (bytes_of size) word h))
too_after stack_at (StoreImm size base offset imm) s m h = too_put stack_at s m (word_in s base) offset (bytes_of size)
    (cast_unsigned w64 imm) h
too_after stack_at (Jump distance) s m h = too_go s m (target s.slot distance) h
too_after stack_at (JumpLong distance) s m h = too_go s m (target s.slot distance) h
too_after stack_at (JumpIf width test dst src distance) s m h =
    too_test s m (word_in s dst) (operand s src) (λ a b. cond (is_taken width test a b) (target s.slot distance) (s.slot
    + 1)) h
too_after stack_at Exit s m h = λ t e. absurd (cc)

too_step : (stack_at : ℕ) (code : List Insn) (s : State) (m : Memory) → Within s.memory m
    → GoesToo (step stack_at code s) (step stack_at code (with_memory s m))
too_step stack_at code s m h = too_bind (insn_at code s.slot) (λ i. after stack_at i s)
    (λ i. after stack_at i (with_memory s m)) (λ i. too_after stack_at i s m h)

too_more : (n stack_at : ℕ) (code : List Insn) (s : State) (m : Memory) → Within s.memory m
    → ((u : State) (k : Memory) → Within u.memory k → GoesToo (steps n stack_at code u)
    (steps n stack_at code (with_memory u k)))
    → (x : Option State) → step stack_at code s ≡ x → GoesToo (x >>? steps n stack_at code)
    (steps (suc n) stack_at code (with_memory s m))
too_more n stack_at code s m h more None is t e = absurd (cc)
too_more n stack_at code s m h more (Some u) is t e =
    let one = too_step stack_at code s m h u is in
    let rest = more u one.0 one.2 t e in (
      rest.0,
      bind (step stack_at code (with_memory s m)) (with_memory u one.0) (steps n stack_at code)
          (Some (with_memory t rest.0)) one.1 rest.1,
      rest.2,
    )

too_steps : (n stack_at : ℕ) (code : List Insn) (s : State) (m : Memory) → Within s.memory m
    → GoesToo (steps n stack_at code s) (steps n stack_at code (with_memory s m))
too_steps zero stack_at code s m h = λ t e. let f : s ≡ t = cc in
    subst (λ u. (k : Memory) × (Some (with_memory s m) ≡ Some (with_memory u k)) × Within u.memory k) f (m, refl, h)
too_steps (suc n) stack_at code s m h = too_more n stack_at code s m h (too_steps n stack_at code)
    (step stack_at code s) refl

-- ---- a longer context

placed_too : (short long : ℕ) (p : Placement) → short ≤ long → IsPlacementFor long p → IsPlacementFor short p
placed_too short long p h placed =
    let fits = placed.record_fits in
    record { record_fits = omega arith; stack_fits = placed.stack_fits; apart = by_side placed.apart }
  where
    by_side : (p.record_at + long ≤ p.stack_at) ⊎ (p.stack_at + stack_len ≤ p.record_at)
        → (p.record_at + short ≤ p.stack_at) ⊎ (p.stack_at + stack_len ≤ p.record_at)
    by_side (inl q) = inl (omega arith)
    by_side (inr q) = inr q

-- the bytes of the front are there in the whole
entry_within : (short long : ℕ) (p : Placement) (bytes : List ℕ) → short ≤ long
    → Within (entry_for short p (take short bytes)).memory (entry_for long p bytes).memory
unfolding entry_for
entry_within short long p bytes h a b = by_test (nat_le p.record_at a && nat_lt a (p.record_at + short)) refl
  where
    by_test : (q : Bool) → (nat_le p.record_at a && nat_lt a (p.record_at + short)) ≡ q
        → cond q (Some (slice_index (take short bytes) (a - p.record_at))) None ≡ Some b
        → cond (nat_le p.record_at a && nat_lt a (p.record_at + long)) (Some (slice_index bytes (a - p.record_at))) None
        ≡ Some b
    by_test false is e = absurd (cc)
    by_test true is e =
        let there : (nat_le p.record_at a && nat_lt a (p.record_at + long)) ≡ true = grind (arith, nat_tests) in
        let near : a - p.record_at < short = grind (arith, nat_tests) in
        rw there (sym (ap Some (get_or-take short bytes (a - p.record_at) 0 near)) ∙ e)

ends_too : (short long : ℕ) (code : List Insn) (bytes : List ℕ) (p : Placement) (v n : ℕ) → short ≤ long
    → EndsWithFor short code (take short bytes) p v n → EndsWithFor long code bytes p v n
unfolding entry_for
ends_too short long code bytes p v n h e =
    let q = too_steps (n - 1) p.stack_at code (entry_for short p (take short bytes)) (entry_for long p bytes).memory
    (entry_within short long p bytes h) e.last e.reached in
    record { last = with_memory e.last q.0; counted = e.counted; reached = q.1; at_exit = e.at_exit; answer = e.answer }

pub ends_alike : {D : Type 0} {o : Ops D} (laws : Laws o) (short long : ℕ) (code : List Insn) (bytes : List ℕ) → short ≤ long
    → IsCode code → IsStructured code → IsTypableFor short o code → IsRecordOf long bytes → EndsAlikeFor short long code bytes
ends_alike laws short long code bytes h is_code structured typable whole =
    let size : length bytes ≡ long = whole.0 in
    let front : IsRecordOf short (take short bytes) =
    (length-take-le short bytes (omega arith), All-take (λ byte. byte < 256) short bytes whole.1) in
    let q = safe laws short code is_code structured typable (take short bytes) front in
    record {
      value = q.0;
      steps = q.1;
      few = q.2;
      shorter = q.3;
      longer = λ p placed. ends_too short long code bytes p q.0 q.1 h (q.3 p (placed_too short long p h placed));
    }
