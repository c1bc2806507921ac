-- An object file has one section of code.
use Rattle.std.proofs.Common.{◌≡◌, ◌∙◌, ℕ, ◌<◌, ◌+◌, ◌⊎◌, inl, inr, Bool, false, List, sym, ap, arith, true≢false}
use Rattle.std.proofs.lemmas.Bool.Decides.{nat_tests}
use Rattle.code_file.specs.Objects.{IsObjectCode, IsTextSection, content, has_bytes, relocates, section_count}

order : (m n : ℕ) → (m < n) ⊎ (n < m) ⊎ (m ≡ n)
order m n = grind (arith, nat_tests)

pub one_more : (P : ℕ → Bool) (i : ℕ) → ((m : ℕ) → m < i → P m ≡ false) → P i ≡ false → (m : ℕ) → m < i + 1
    → P m ≡ false
one_more P i before now m l = elim (order m i) [
  | inl k ↦ before m k
  | inr (inl k) ↦ absurd (omega (arith, k, l))
  | inr (inr e) ↦ ap P e ∙ now
]

-- the first section of a name is one
pub same_text : (file : List ℕ) (a b : ℕ) → IsTextSection file a → IsTextSection file b → a ≡ b
same_text file a b h k = elim (order a b) [
  | inl l ↦ absurd (true≢false (sym h.named ∙ k.first a l))
  | inr (inl l) ↦ absurd (true≢false (sym k.named ∙ h.first b l))
  | inr (inr e) ↦ e
]

pub one_code : (file code other : List ℕ) → IsObjectCode file code → IsObjectCode file other → code ≡ other
one_code file code other h k =
    h.code_is ∙ ap (content file) (same_text file h.section k.section h.text k.text) ∙ sym k.code_is

-- a file whose first such section isn't fit has no code
pub none_without : (file code : List ℕ) (section : ℕ) → IsTextSection file section → has_bytes file section ≡ false
    → IsObjectCode file code → ⊥
none_without file code section text none h =
    true≢false (sym h.bytes ∙ ap (has_bytes file) (same_text file h.section section h.text text) ∙ none)

pub none_moved : (file code : List ℕ) (section : ℕ) → IsTextSection file section
    → (((other : ℕ) → other < section_count file → relocates file section other ≡ false) → ⊥)
    → IsObjectCode file code → ⊥
none_moved file code section text moved h =
    let same = same_text file h.section section h.text text in
    moved (λ other l. ap (λ s. relocates file s other) (sym same) ∙ h.still other l)
