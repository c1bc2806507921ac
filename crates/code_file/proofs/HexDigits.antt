-- Texts of hex digits.
use Rattle.std.proofs.Common.{◌≡◌, ℕ, true, false, List, [], ◌∷◌, refl, ap, arith}
use Rattle.std.proofs.lemmas.Bool.{and_parts}
use Rattle.std.specs.List.{list_all}
use Rattle.std.specs.Char.{is_ascii_whitespace}
use Rattle.hex.specs.Hex.{is_hex_digit}
use Rattle.code_file.specs.CodeFiles.{digits_of}

no_space : (c : ℕ) → is_hex_digit c ≡ true → is_ascii_whitespace c ≡ false
no_space c h = grind (arith)

-- digits have no white space
pub digits_alone : (text : List ℕ) → list_all is_hex_digit text ≡ true → digits_of text ≡ text
digits_alone [] h = refl
digits_alone (c ∷ text) h =
    let parts = and_parts _ _ h in
    rw (no_space c parts.0) (ap (λ rest. c ∷ rest) (digits_alone text parts.1))
