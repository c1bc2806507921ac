-- Names, seen as the list of their bytes.
use Rattle.std.specs.Prelude.{ℕ, ◌-◌, Bool, ◌&&◌, nat_le, List, ◌++◌, length, replicate}
use Rattle.std.specs.List.{list_all}

-- the bytes of a name
abbrev pub Name : Type 0
Name = List ℕ

-- the most bytes that a name has
abbrev pub name_limit : ℕ
name_limit = 32

-- a character of ASCII that shows, and so is no space
abbrev pub is_visible : ℕ → Bool
is_visible byte = nat_le 0x21 byte && nat_le byte 0x7E

-- one byte to the limit, each of them visible
abbrev pub is_name : List ℕ → Bool
is_name bytes = nat_le 1 (length bytes) && (nat_le (length bytes) name_limit && list_all is_visible bytes)

-- the name, and zeros up to the limit
abbrev pub padded : List ℕ → List ℕ
padded name = name ++ replicate (name_limit - length name) 0

-- the number of the refusal of bytes that are no name
abbrev pub bad_name_number : ℕ
bad_name_number = 44
