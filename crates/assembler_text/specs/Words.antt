-- Classes of characters: blanks, and what the pieces of a line may consist of.
use Rattle.std.specs.Prelude.{◌≡◌, ℕ, Bool, true, false, not, ◌&&◌, ◌||◌, ◌==◌, List, [], ◌∷◌}
use Rattle.assembler_text.specs.declared.lexer.Class.{Class}
use Rattle.assembler_text.specs.declared.lexer.Class.TheVariants.{Blank, Mnemonic, Operand, Bracketed, Base, Instruction, Line}

-- space and tab
abbrev pub is_blank : ℕ → Bool
is_blank c = c == 32 || c == 9

abbrev pub is_of_class : Class → ℕ → Bool
is_of_class Blank c = is_blank c
is_of_class Mnemonic c = not (is_blank c)
is_of_class Operand c = not (is_blank c) && not (c == 44)
is_of_class Bracketed c = not (c == 93)
is_of_class Base c = not (c == 43) && not (c == 45)
is_of_class Instruction c = not (c == 59)
is_of_class Line c = not (c == 10)

-- each character of a text is of the class
abbrev pub AreIn : Class → List ℕ → Type 0
AreIn k [] = Unit {0}
AreIn k (c ∷ cs) = (is_of_class k c ≡ true) × AreIn k cs

-- a text is at its end, or goes on with a character that isn't of the class
abbrev pub StopsAt : Class → List ℕ → Type 0
StopsAt k [] = Unit {0}
StopsAt k (c ∷ cs) = is_of_class k c ≡ false
