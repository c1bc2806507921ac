-- Each mnemonic is found by its name.
use Rattle.std.proofs.Common.{◌≡◌, refl, sym, subst, ℕ, Bool, true, false, List, [], ◌∷◌, Some, inl, inr}
use Rattle.std.specs.Prelude.{◌&&◌}
use Rattle.std.specs.Fmt.{digits}
use Rattle.instruction_set.specs.declared.insn.Width.TheVariants.{W32, W64}
use Rattle.instruction_set.specs.declared.insn.Size.TheVariants.{Byte, Double}
use Rattle.instruction_set.specs.declared.insn.AluOp.TheVariants.{Add}
use Rattle.instruction_set.specs.declared.insn.EndKind.TheVariants.{Little, Big, Swap}
use Rattle.instruction_set.specs.declared.insn.Test.TheVariants.{Jeq}
use Rattle.assembler_text.specs.declared.mnemonic.Mnemonic.{Mnemonic}
use Rattle.assembler_text.specs.declared.mnemonic.Mnemonic.TheVariants as mnemonic
use Rattle.assembler_text.specs.model.Mnemonics.{mnemonic_at, IsKnown}
use Rattle.assembler_text.proofs.Plain.{is_plain, ArePlain, IsWord}
use Rattle.assembler_text.proofs.Tables.{both, name_of}

abbrev all_plain : List ℕ → Bool
all_plain [] = true
all_plain (c ∷ cs) = is_plain c && all_plain cs

abbrev is_word : List ℕ → Bool
is_word [] = false
is_word (c ∷ cs) = is_plain c && all_plain cs

plain_by_test : (w : List ℕ) → all_plain w ≡ true → ArePlain w
plain_by_test [] h = tt
plain_by_test (c ∷ cs) h = let p = both (is_plain c) (all_plain cs) h in (p.0, plain_by_test cs p.1)

word_by_test : (w : List ℕ) → is_word w ≡ true → IsWord w
word_by_test [] h = absurd cc
word_by_test (c ∷ cs) h = let p = both (is_plain c) (all_plain cs) h in (p.0, plain_by_test cs p.1)

abbrev IsNamed : Mnemonic → Type 0
IsNamed m = (mnemonic_at (name_of m) ≡ Some m) × (is_word (name_of m) ≡ true)

known_name : (m : Mnemonic) → IsKnown m → IsNamed m
unfolding mnemonic_at digits
known_name (mnemonic.Alu W32 Add) k = (refl, refl)
known_name (mnemonic.Alu W64 Add) k = (refl, refl)
known_name (mnemonic.Neg W32) k = (refl, refl)
known_name (mnemonic.MovSx W32 bits) (inl e) = subst (λ b. IsNamed (mnemonic.MovSx W32 b)) (sym e) (refl, refl)
known_name (mnemonic.MovSx W32 bits) (inr e) = subst (λ b. IsNamed (mnemonic.MovSx W32 b)) (sym e) (refl, refl)
known_name (mnemonic.MovSx W64 bits) (inl e) = subst (λ b. IsNamed (mnemonic.MovSx W64 b)) (sym e) (refl, refl)
known_name (mnemonic.MovSx W64 bits) (inr (inl e)) = subst (λ b. IsNamed (mnemonic.MovSx W64 b)) (sym e) (refl, refl)
known_name (mnemonic.MovSx W64 bits) (inr (inr e)) = subst (λ b. IsNamed (mnemonic.MovSx W64 b)) (sym e) (refl, refl)
known_name (mnemonic.End Little bits) (inl e) = subst (λ b. IsNamed (mnemonic.End Little b)) (sym e) (refl, refl)
known_name (mnemonic.End Little bits) (inr (inl e)) = subst (λ b. IsNamed (mnemonic.End Little b)) (sym e) (refl, refl)
known_name (mnemonic.End Little bits) (inr (inr e)) = subst (λ b. IsNamed (mnemonic.End Little b)) (sym e) (refl, refl)
known_name (mnemonic.End Big bits) (inl e) = subst (λ b. IsNamed (mnemonic.End Big b)) (sym e) (refl, refl)
known_name (mnemonic.End Big bits) (inr (inl e)) = subst (λ b. IsNamed (mnemonic.End Big b)) (sym e) (refl, refl)
known_name (mnemonic.End Big bits) (inr (inr e)) = subst (λ b. IsNamed (mnemonic.End Big b)) (sym e) (refl, refl)
known_name (mnemonic.End Swap bits) (inl e) = subst (λ b. IsNamed (mnemonic.End Swap b)) (sym e) (refl, refl)
known_name (mnemonic.End Swap bits) (inr (inl e)) = subst (λ b. IsNamed (mnemonic.End Swap b)) (sym e) (refl, refl)
known_name (mnemonic.End Swap bits) (inr (inr e)) = subst (λ b. IsNamed (mnemonic.End Swap b)) (sym e) (refl, refl)
known_name (mnemonic.Load Byte) k = (refl, refl)
known_name (mnemonic.LoadSx Byte) k = (refl, refl)
known_name (mnemonic.LoadSx Double) k = absurd k
known_name (mnemonic.Store Byte) k = (refl, refl)
known_name (mnemonic.StoreImm Byte) k = (refl, refl)
known_name (mnemonic.JumpIf W32 Jeq) k = (refl, refl)
known_name (mnemonic.JumpIf W64 Jeq) k = (refl, refl)
known_name _ k = (refl, refl)

pub found_by_name : (m : Mnemonic) → IsKnown m → mnemonic_at (name_of m) ≡ Some m
found_by_name m k = (known_name m k).0

pub name_word : (m : Mnemonic) → IsKnown m → IsWord (name_of m)
name_word m k = word_by_test (name_of m) ((known_name m k).1)
