-- The contents of the tables of names.
use Rattle.std.proofs.Common.{◌≡◌, refl, ℕ, zero, suc, ◌≤◌, Bool, true, false, cond, ◌++◌, Option, List, [], ◌∷◌, map, Some, Result, Ok, sym, ap, ◌∙◌, arith, rules}
use Rattle.std.specs.Prelude.{◌&&◌, IfSome, slice_get, option_and_then, codes}
use Rattle.std.specs.Fmt.{decimal, digits}
use Rattle.std.proofs.lemmas.Slice.Eq.{bytes_eq-Decides}
use Rattle.std.proofs.Math.Bridge.{le_prop}
use Rattle.std.specs.Str.{bytes_eq}
use Rattle.std.specs.List.{AllByRecursion}
use Rattle.instruction_set.specs.declared.insn.Register.{Register}
use Rattle.assembler_text.specs.declared.mnemonic.Mnemonic.{Mnemonic}
use Rattle.assembler_text.specs.declared.mnemonic.Mnemonic.TheVariants as mnemonic
use Rattle.assembler_text.specs.declared.mnemonic.TheConstants.{NAMES}
use Rattle.assembler_text.specs.Text.{alu_name, width_name, size_name, order_name, test_name, test_width_name}
use Rattle.assembler_text.proofs.Pieces.{by_test}
use Rattle.assembler_text.specs.declared.operand.TheConstants.{REGISTERS}
use Rattle.assembler_text.specs.model.Words.{lookup}
use Rattle.assembler_text.specs.model.Mnemonics.{mnemonic_at, IsKnown}
use Rattle.assembler_text.specs.model.Reading.{asked}
use Rattle.assembler_text.specs.model.Operands.{register_number, register_at, registers}
use Rattle.assembler_text.specs.declared.faults.Fault.{Fault}

-- what is found is one of the table's
pub found : {A : Type 0} (P : A → Type 0) (es : List (List ℕ × A)) (name : List ℕ) → AllByRecursion (λ e. P e.1) es
    → IfSome (lookup es name) P
found P [] name all = tt
found P (e ∷ es) name all =
    elim (bytes_eq e.0 name) as (λ b. IfSome (cond b (Some e.1) (lookup es name)) P) [
      | true ↦ all.0
      | false ↦ found P es name all.1
    ]

pub known_register : (word : List ℕ) → IfSome (register_number word) (λ n. n ≤ 10)
unfolding register_number
known_register word = found (λ n. n ≤ 10) (map (λ e. (e.0.now, e.1)) REGISTERS) word (search rules)

pub known_mnemonic : (word : List ℕ) → IfSome (mnemonic_at word) IsKnown
unfolding mnemonic_at
known_mnemonic word = found IsKnown (map (λ e. (e.0.now, e.1)) NAMES) word (search rules)

abbrev pub register_ok : Register → Result Register Fault
register_ok r = Ok r

pub register_of : (n : ℕ) (h : n ≤ 10) → slice_get registers n ≡ Some (record { number = n; in_range = h })
register_of zero h = ap (λ (p : 0 ≤ 10). Some (record { number = 0; in_range = p })) (le_prop _ h)
register_of (suc zero) h = ap (λ (p : 1 ≤ 10). Some (record { number = 1; in_range = p })) (le_prop _ h)
register_of (suc (suc zero)) h = ap (λ (p : 2 ≤ 10). Some (record { number = 2; in_range = p })) (le_prop _ h)
register_of (suc (suc (suc zero))) h = ap (λ (p : 3 ≤ 10). Some (record { number = 3; in_range = p })) (le_prop _ h)
register_of (suc (suc (suc (suc zero)))) h =
    ap (λ (p : 4 ≤ 10). Some (record { number = 4; in_range = p })) (le_prop _ h)
register_of (suc (suc (suc (suc (suc zero))))) h =
    ap (λ (p : 5 ≤ 10). Some (record { number = 5; in_range = p })) (le_prop _ h)
register_of (suc (suc (suc (suc (suc (suc zero)))))) h =
    ap (λ (p : 6 ≤ 10). Some (record { number = 6; in_range = p })) (le_prop _ h)
register_of (suc (suc (suc (suc (suc (suc (suc zero))))))) h =
    ap (λ (p : 7 ≤ 10). Some (record { number = 7; in_range = p })) (le_prop _ h)
register_of (suc (suc (suc (suc (suc (suc (suc (suc zero)))))))) h =
    ap (λ (p : 8 ≤ 10). Some (record { number = 8; in_range = p })) (le_prop _ h)
register_of (suc (suc (suc (suc (suc (suc (suc (suc (suc zero))))))))) h =
    ap (λ (p : 9 ≤ 10). Some (record { number = 9; in_range = p })) (le_prop _ h)
register_of (suc (suc (suc (suc (suc (suc (suc (suc (suc (suc zero)))))))))) h =
    ap (λ (p : 10 ≤ 10). Some (record { number = 10; in_range = p })) (le_prop _ h)
register_of (suc (suc (suc (suc (suc (suc (suc (suc (suc (suc (suc n))))))))))) h = absurd (omega arith)

pub register_again : (r : Register) → slice_get registers r.number ≡ Some r
register_again r = register_of r.number r.in_range

pub register_is : (n : ℕ) (h : n ≤ 10) (word : List ℕ) → register_number word ≡ Some n
    → register_ok (record { number = n; in_range = h }) ≡ register_at word
unfolding register_at
register_is n h word e = sym (ap (λ o. asked (option_and_then (slice_get registers) o)) e ∙ ap asked (register_of n h))

-- ---- spellings

abbrev spelled : {A : Type 0} → (A → List ℕ) → List (List ℕ × A) → Bool
spelled spelling [] = true
spelled spelling (e ∷ es) = bytes_eq e.0 (spelling e.1) && spelled spelling es

pub both : (a b : Bool) → (a && b) ≡ true → (a ≡ true) × (b ≡ true)
both true b h = (refl, h)
both false b h = absurd cc

abbrev some : {A : Type 0} → A → Option A
some x = Some x

some_is : {A : Type 0} (x y : A) → some x ≡ some y → x ≡ y
some_is x y e = cc

named : {A : Type 0} (spelling : A → List ℕ) (es : List (List ℕ × A)) → spelled spelling es ≡ true
    → (name : List ℕ) (x : A) → lookup es name ≡ Some x → name ≡ spelling x
named spelling [] all name x h = absurd cc
named spelling (e ∷ es) all name x h = by_test (bytes_eq e.0 name)
    (λ t. let is : some e.1 ≡ Some x = sym (ap (λ b. cond b (Some e.1) (lookup es name)) t) ∙ h in
    sym ((bytes_eq-Decides e.0 name).0 t) ∙ (bytes_eq-Decides e.0 (spelling e.1)).0 ((both _ _ all).0)
    ∙ ap spelling (some_is e.1 x is))
    (λ t. named spelling es ((both (bytes_eq e.0 (spelling e.1)) _ all).1) name x
    (sym (ap (λ b. cond b (Some e.1) (lookup es name)) t) ∙ h))

abbrev pub name_of : Mnemonic → List ℕ
name_of (mnemonic.Alu width op) = alu_name op ++ width_name width
name_of (mnemonic.Neg width) = codes "neg" ++ width_name width
name_of (mnemonic.MovSx width bits) = codes "mov" ++ width_name width ++ codes "s" ++ decimal bits
name_of (mnemonic.End kind bits) = order_name kind ++ decimal bits
name_of mnemonic.LoadWide = codes "lddw"
name_of (mnemonic.Load size) = codes "ldx" ++ size_name size
name_of (mnemonic.LoadSx size) = codes "ldxs" ++ size_name size
name_of (mnemonic.Store size) = codes "stx" ++ size_name size
name_of (mnemonic.StoreImm size) = codes "st" ++ size_name size
name_of mnemonic.Jump = codes "ja"
name_of mnemonic.JumpLong = codes "jal"
name_of (mnemonic.JumpIf width test) = test_name test ++ test_width_name width
name_of mnemonic.Exit = codes "exit"

pub mnemonic_is : (name : List ℕ) (m : Mnemonic) → mnemonic_at name ≡ Some m → name ≡ name_of m
unfolding mnemonic_at digits
mnemonic_is name m h = named name_of (map (λ e. (e.0.now, e.1)) NAMES) refl name m h

pub number_name : (word : List ℕ) (n : ℕ) → register_number word ≡ Some n → word ≡ 114 ∷ decimal n
unfolding register_number digits
number_name word n h = named (λ k. 114 ∷ decimal k) (map (λ e. (e.0.now, e.1)) REGISTERS) refl word n h
