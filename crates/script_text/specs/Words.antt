-- The words of a line, and the numbers that words are.
use Rattle.std.specs.Prelude.{ℕ, ◌+◌, ◌-◌, ◌*◌, ◌==◌, Bool, true, ◌&&◌, nat_le, nat_lt, if◌then◌else◌, Option, Some, None, List, [], ◌∷◌, length, filter}

-- b at the front of the first text
abbrev pub onto_first : ℕ → List (List ℕ) → List (List ℕ)
onto_first b [] = (b ∷ []) ∷ []
onto_first b (text ∷ texts) = (b ∷ text) ∷ texts

-- the parts of a text between its spaces: one more than there are spaces
abbrev pub parts_of : List ℕ → List (List ℕ)
parts_of [] = [] ∷ []
parts_of (b ∷ bs) = if b == 32 then [] ∷ parts_of bs else onto_first b (parts_of bs)

-- the words of a text, with one or more spaces between them
abbrev pub words_of : List ℕ → List (List ℕ)
words_of text = filter (λ word. nat_lt 0 (length word)) (parts_of text)

-- a printable character of ASCII, a space among them
abbrev pub is_printable : ℕ → Bool
is_printable b = nat_le 0x20 b && nat_le b 0x7E

abbrev pub is_digit : ℕ → Bool
is_digit b = nat_le 48 b && nat_le b 57

-- the number that the digits go on to after n, if it is at most this
abbrev pub value_from : ℕ → ℕ → List ℕ → Option ℕ
value_from most n [] = Some n
value_from most n (d ∷ ds) =
    if is_digit d && nat_le (n * 10 + (d - 48)) most then value_from most (n * 10 + (d - 48)) ds else None

-- no digit, or a needless zero in front
abbrev pub has_odd_front : List ℕ → Bool
has_odd_front [] = true
has_odd_front (d ∷ ds) = nat_lt 0 (length ds) && (d == 48)

-- the number, at most this, that a word spells in decimal digits, without a sign and without zeros in front
abbrev pub spelled_number : ℕ → List ℕ → Option ℕ
spelled_number most word = if has_odd_front word then None else value_from most 0 word
