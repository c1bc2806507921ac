-- The pieces of a text: its front, and the rest.
use Rattle.std.specs.Prelude.{ℕ, List, take, drop, [], ◌∷◌, Option, Some, None, if◌then◌else◌}
use Rattle.std.specs.Str.{bytes_eq}
use Rattle.std.specs.List.{prefix_len}
use Rattle.assembler_text.specs.declared.lexer.Class.{Class}
use Rattle.assembler_text.specs.declared.lexer.Class.TheVariants.{Blank, Operand}
use Rattle.assembler_text.specs.Words.{is_of_class}

-- the text up to the first character that isn't of the class
abbrev pub front : Class → List ℕ → List ℕ
front class text = take (prefix_len (is_of_class class) text) text

-- the text from there on
abbrev pub rest : Class → List ℕ → List ℕ
rest class text = drop (prefix_len (is_of_class class) text) text

-- the operand at the front of a text, without the blanks around it, and the text after it
abbrev pub word : List ℕ → List ℕ
word text = front Operand (rest Blank text)

abbrev pub after : List ℕ → List ℕ
after text = rest Blank (rest Operand (rest Blank text))

-- what a table has under a name
abbrev pub lookup : {A : Type 0} → List (List ℕ × A) → List ℕ → Option A
lookup [] name = None
lookup (e ∷ es) name = if bytes_eq e.0 name then Some e.1 else lookup es name
