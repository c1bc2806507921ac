-- What accesses that pass reach: bytes of the record, or of the stack.
use Rattle.std.proofs.Common.{◌≡◌, ℕ, ◌+◌, ◌-◌, ◌*◌, ◌^◌, ◌<◌, ◌≤◌, Bool, true, false, ◌&&◌, inl, inr, refl, ap, ◌∙◌, sym, subst, arith, List, length, Option, Some, ℤ}
use Rattle.std.specs.Prelude.{IsTrue, pos, negsuc, ◌≤ℤ◌, ◌+ℤ◌, ◌-ℤ◌, int_le, not, slice_index, FitsSigned, All}
use Rattle.std.specs.Int.{w16}
use Rattle.std.proofs.lemmas.Int.{ints}
use Rattle.instruction_set.specs.Machine.{Memory, Placement, IsPlacementFor, read_bytes, written, bytes_of, address_of, stack_len}
use Rattle.instruction_set.specs.declared.insn.Size.{Size}
use Rattle.instruction_set.specs.declared.insn.Size.TheVariants.{Byte as ByteSize, Half, Word, Double}
use Rattle.abstract_value.specs.Domain.{Ops}
use Rattle.abstract_value.specs.StackBytes.{all_written, with_marks}
use Rattle.abstract_value.specs.States.{View}
use Rattle.abstract_value.specs.declared.states.Span.{Span}
use Rattle.abstract_value.specs.declared.states.RegState.{RegState}
use Rattle.abstract_value.specs.declared.states.RegState.TheVariants.{Record, Stack}
use Rattle.verifier.specs.Rules.{is_readable, is_scalar, Reach, reach_of, in_record, in_stack, whole, stack_index, is_written_at, Access, inside_record, spares_record, inside_stack, finds_written, marks, after_store}
use Rattle.verifier.proofs.Tags.{the_record, the_stack, Tag, ptr, raw, Tagged, memory_at, Covers, Covered}
use Rattle.verifier.proofs.Accesses.{read_same, reads_some, whole_of, record_address, stack_address, record_byte, stack_byte, both, each_written, written_there, marked_there, written_small}
use Rattle.verifier.proofs.Moves.{truth}
use Rattle.verifier.proofs.Onward.{with_stack}

le_tells : (x y : ℤ) → int_le x y ≡ true → x ≤ℤ y
le_tells x y h = grind (arith, ints)

some_bytes : (size : Size) → 1 ≤ bytes_of size
some_bytes ByteSize = omega arith
some_bytes Half = omega arith
some_bytes Word = omega arith
some_bytes Double = omega arith

pub size_bound : (size : Size) (v : ℕ) → v < 256 ^ bytes_of size → v < 2 ^ (8 * bytes_of size)
size_bound ByteSize v h = h
size_bound Half v h = h
size_bound Word v h = h
size_bound Double v h = h

-- a word that is read wherever record and stack lie
pub record ReadAt (bytes : List ℕ) (stack : Memory) (x : Option Tag) (offset : ℤ) (n : ℕ) : Type 0 where
  pub tag : Tag
  pub is_tag : x ≡ Some tag
  pub word : ℕ
  pub small : word < 256 ^ n
  pub reads : (p : Placement) → IsPlacementFor (length bytes) p
      → read_bytes (memory_at p bytes stack) (address_of (raw p tag) offset) n ≡ Some word

read_record : (bytes : List ℕ) (stack : Memory) (a : Span) (k offset : ℤ) (size : Size) → All (λ byte. byte < 256) bytes
    → a.lo ≤ℤ k → k ≤ℤ a.hi → FitsSigned w16 offset
    → IsTrue (in_record (length bytes) (reach_of a offset size))
    → ReadAt bytes stack (Some (ptr the_record k)) offset (bytes_of size)
read_record bytes stack a k offset size each l h f inside =
    let n = bytes_of size in
    let some = some_bytes size in
    let q = both (int_le (pos 0) (a.lo +ℤ offset)) (int_le ((a.hi +ℤ offset) +ℤ pos n) (pos (length bytes))) inside in
    let lo = le_tells (pos 0) (a.lo +ℤ offset) q.0 in
    let hi = le_tells ((a.hi +ℤ offset) +ℤ pos n) (pos (length bytes)) q.1 in
    let al : negsuc 65535 ≤ℤ a.lo = a.near_below in
    let ah : a.hi ≤ℤ pos 65536 = a.near_above in
    let i = whole_of (k +ℤ offset) (omega (arith, ints)) in
    let e : (k +ℤ offset) ≡ pos i.0 = i.1 in
    let room : i.0 + n ≤ length bytes = omega (arith, ints) in
    let there : Memory = λ j. Some (slice_index bytes j) in
    let w = reads_some there i.0 n (λ j s. record {
      byte = slice_index bytes (i.0 + j);
      is_there = refl;
      small = each (i.0 + j) 0 (omega arith);
    }) in
    record {
      tag = ptr the_record k;
      is_tag = refl;
      word = w.word;
      small = w.small;
      reads = λ p placed.
          ap (λ at. read_bytes (memory_at p bytes stack) at n)
          (record_address p placed k offset i.0 (omega (arith, ints)) (omega (arith, ints)) f e (omega arith))
          ∙ read_same (memory_at p bytes stack) there (p.record_at + i.0) i.0 n (λ j s.
          let g : p.record_at + i.0 + j ≡ p.record_at + (i.0 + j) = omega arith in
          ap (memory_at p bytes stack) g ∙ record_byte p bytes stack (i.0 + j) (omega arith))
          ∙ w.is_there;
    }

-- where an access to the stack may begin, and where it begins
record Place (lo hi k offset : ℤ) (n : ℕ) : Type 0 where
  from : ℕ
  from_is : stack_index (lo +ℤ offset) ≡ from
  wide : ℕ
  wide_is : whole ((hi +ℤ offset) -ℤ (lo +ℤ offset)) ≡ wide
  index : ℕ
  index_is : ((k +ℤ offset) +ℤ pos stack_len) ≡ pos index
  above : from ≤ index
  below : index ≤ from + wide
  room : index + n ≤ stack_len
  single : hi ≤ℤ lo → index ≡ from

place : (a : Span) (k offset : ℤ) (n : ℕ) → a.lo ≤ℤ k → k ≤ℤ a.hi
    → IsTrue (int_le (pos 0 -ℤ pos stack_len) (a.lo +ℤ offset) && int_le ((a.hi +ℤ offset) +ℤ pos n) (pos 0))
    → Place a.lo a.hi k offset n
place a k offset n l h inside =
    let q = both (int_le (pos 0 -ℤ pos stack_len) (a.lo +ℤ offset)) (int_le ((a.hi +ℤ offset) +ℤ pos n) (pos 0))
    inside in
    let lo = le_tells (pos 0 -ℤ pos stack_len) (a.lo +ℤ offset) q.0 in
    let hi = le_tells ((a.hi +ℤ offset) +ℤ pos n) (pos 0) q.1 in
    let f = whole_of ((a.lo +ℤ offset) +ℤ pos stack_len) (omega (arith, ints)) in
    let w = whole_of ((a.hi +ℤ offset) -ℤ (a.lo +ℤ offset)) (omega (arith, ints)) in
    let i = whole_of ((k +ℤ offset) +ℤ pos stack_len) (omega (arith, ints)) in
    let ef : ((a.lo +ℤ offset) +ℤ pos stack_len) ≡ pos f.0 = f.1 in
    let ew : ((a.hi +ℤ offset) -ℤ (a.lo +ℤ offset)) ≡ pos w.0 = w.1 in
    let ei : ((k +ℤ offset) +ℤ pos stack_len) ≡ pos i.0 = i.1 in
    record {
      from = f.0;
      from_is = ap whole ef;
      wide = w.0;
      wide_is = ap whole ew;
      index = i.0;
      index_is = ei;
      above = omega (arith, ints);
      below = omega (arith, ints);
      room = omega (arith, ints);
      single = λ s. omega (arith, ints);
    }

written_to : (w : ℕ → Bool) (a : Reach) (from wide : ℕ) → stack_index a.lo ≡ from → whole (a.hi -ℤ a.lo) ≡ wide
    → IsTrue (is_written_at w a) → IsTrue (all_written w from (wide + a.len))
written_to w a from wide e f h = subst (λ n. IsTrue (all_written w from (n + a.len))) f
    (subst (λ k. IsTrue (all_written w k (whole (a.hi -ℤ a.lo) + a.len))) e h)

read_stack : (bytes : List ℕ) (stack : Memory) (w : ℕ → Bool) (a : Span) (k offset : ℤ) (size : Size)
    → ((j : ℕ) → IsTrue (w j) → (b : ℕ) × (stack j ≡ Some b)) → ((j b : ℕ) → stack j ≡ Some b → b < 256)
    → a.lo ≤ℤ k → k ≤ℤ a.hi → FitsSigned w16 offset → IsTrue (in_stack (reach_of a offset size))
    → IsTrue (is_written_at w (reach_of a offset size)) → ReadAt bytes stack (Some (ptr the_stack k)) offset
    (bytes_of size)
read_stack bytes stack w a k offset size there small l h f inside all =
    let n = bytes_of size in
    let some = some_bytes size in
    let q = place a k offset n l h inside in
    let al : negsuc 65535 ≤ℤ a.lo = a.near_below in
    let ah : a.hi ≤ℤ pos 65536 = a.near_above in
    let above : q.from ≤ q.index = q.above in
    let below : q.index ≤ q.from + q.wide = q.below in
    let room : q.index + n ≤ stack_len = q.room in
    let each = written_to w (reach_of a offset size) q.from q.wide q.from_is q.wide_is all in
    let word = reads_some stack q.index n (λ j s.
    let i = q.index + j - q.from in
    let e : q.from + i ≡ q.index + j = omega arith in
    let t : IsTrue (w (q.index + j)) = subst (λ m. IsTrue (w m)) e
    (each_written w q.from (q.wide + n) i each (omega arith)) in
    let b = there (q.index + j) t in
    record { byte = b.0; is_there = b.1; small = small (q.index + j) b.0 b.1 }) in
    record {
      tag = ptr the_stack k;
      is_tag = refl;
      word = word.word;
      small = word.small;
      reads = λ p placed.
          ap (λ at. read_bytes (memory_at p bytes stack) at n)
          (stack_address p placed k offset q.index (omega (arith, ints)) (omega (arith, ints)) f q.index_is
          (omega arith))
          ∙ read_same (memory_at p bytes stack) stack (p.stack_at + q.index) q.index n (λ j s.
          let g : p.stack_at + q.index + j ≡ p.stack_at + (q.index + j) = omega arith in
          ap (memory_at p bytes stack) g ∙ stack_byte p bytes placed stack (q.index + j) (omega arith))
          ∙ word.is_there;
    }

-- a load that passes reads a word
pub load_there : {D : Type 0} (o : Ops D) (bytes : List ℕ) (s : View D) (t : Tagged) (a : RegState D) (x : Option Tag)
    (offset : ℤ) (size : Size) (base : ℕ) → All (λ byte. byte < 256) bytes → Covered o s t → FitsSigned w16 offset
    → (let r : Access = record { base = base; offset = offset; size = size; is_store = false } in
    Covers o a x → IsTrue (is_readable a) → IsTrue (inside_record (length bytes) a r) → IsTrue (inside_stack a r)
    → IsTrue (finds_written s.written a r) → IsTrue (not (is_scalar a))
    → ReadAt bytes t.stack x offset (bytes_of size))
load_there o bytes s t (Record a) (Some (ptr the_record k)) offset size base each c f h r ir is w sc =
    read_record bytes t.stack a k offset size each h.0 h.1 f ir
load_there o bytes s t (Stack a) (Some (ptr the_stack k)) offset size base each c f h r ir is w sc =
    read_stack bytes t.stack s.written a k offset size c.written c.small h.0 h.1 f is w
load_there o bytes s t a x offset size base each c f h r ir is w sc = absurd (first_of (assumption, cc))

-- where a store that passes goes: to an index from the stack's lowest byte, and its state covers what is there then
pub record StoreAt {D : Type 0} (o : Ops D) (s : View D) (t : Tagged) (a : RegState D) (x : Option Tag) (offset : ℤ)
    (size : Size) : Type 0 where
  pub tag : Tag
  pub is_tag : x ≡ Some tag
  pub index : ℕ
  pub room : index + bytes_of size ≤ stack_len
  pub address : {len : ℕ} (p : Placement) → IsPlacementFor len p → address_of (raw p tag) offset ≡ p.stack_at + index
  pub covers : (word : ℕ) → Covered o (after_store s a offset size)
      (with_stack t (written t.stack index (bytes_of size) word))

store_written : (w : ℕ → Bool) (a : Reach) (stack : Memory) (from index word : ℕ) → stack_index a.lo ≡ from
    → (a.hi ≤ℤ a.lo → index ≡ from) → ((j : ℕ) → IsTrue (w j) → (b : ℕ) × (stack j ≡ Some b))
    → (j : ℕ) → IsTrue (marks w a j) → (b : ℕ) × (written stack index a.len word j ≡ Some b)
store_written w a stack from index word e single there j h =
    elim (truth (int_le a.hi a.lo)) [
      | inl q ↦
          let g : stack_index a.lo ≡ index = e ∙ sym (single (le_tells a.hi a.lo q)) in
          let m : IsTrue (with_marks w (stack_index a.lo) a.len j) = rw q at h in
          marked_there w stack index a.len word j (there j) (subst (λ i. IsTrue (with_marks w i a.len j)) g m)
      | inr q ↦ let m : IsTrue (w j) = rw q at h in written_there stack index a.len word j (there j m)
    ]

pub store_there : {D : Type 0} (o : Ops D) (s : View D) (t : Tagged) (a : RegState D) (x : Option Tag) (offset : ℤ)
    (size : Size) (base : ℕ) → Covered o s t → FitsSigned w16 offset
    → (let r : Access = record { base = base; offset = offset; size = size; is_store = true } in
    Covers o a x → IsTrue (is_readable a) → IsTrue (spares_record a r) → IsTrue (inside_stack a r)
    → IsTrue (not (is_scalar a)) → StoreAt o s t a x offset size)
store_there o s t (Stack a) (Some (ptr the_stack k)) offset size base c f h r lr is sc =
    let n = bytes_of size in
    let q = place a k offset n h.0 h.1 is in
    let some = some_bytes size in
    let room : q.index + n ≤ stack_len = q.room in
    let al : negsuc 65535 ≤ℤ a.lo = a.near_below in
    let ah : a.hi ≤ℤ pos 65536 = a.near_above in
    let l : a.lo ≤ℤ k = h.0 in
    let u : k ≤ℤ a.hi = h.1 in
    record {
      tag = ptr the_stack k;
      is_tag = refl;
      index = q.index;
      room = q.room;
      address = λ p placed. stack_address p placed k offset q.index (omega (arith, ints)) (omega (arith, ints)) f
          q.index_is (omega arith);
      covers = λ word. record {
        registers = c.registers;
        written = store_written s.written (reach_of a offset size) t.stack q.from q.index word q.from_is
            (λ g. q.single (omega (arith, ints))) c.written;
        small = λ j b e. written_small t.stack q.index n word j b (c.small j) e;
      };
    }
store_there o s t a x offset size base c f h r lr is sc = absurd (first_of (assumption, cc))
