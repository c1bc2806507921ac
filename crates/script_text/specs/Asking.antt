-- The request of a line.
use Rattle.std.specs.Prelude.{ℕ, ◌-◌, ◌^◌, ◌==◌, Bool, false, not, ◌&&◌, if◌then◌else◌, Option, Some, None, Result, Ok, Err, List, [], ◌∷◌, replicate, codes}
use Rattle.std.specs.List.{list_all}
use Rattle.std.specs.Option.{option_map}
use Rattle.std.specs.Str.{bytes_eq}
use Rattle.hex.specs.Hex.{decode_sized}
use Rattle.hex.specs.declared.error.FromHexError.{FromHexError}
use Rattle.clash_record.specs.Name.{is_name}
use Rattle.clash_record.specs.declared.registrations.Owner.{Owner}
use Rattle.clash_record.specs.Name.{Name}
use Rattle.clash_record.specs.declared.side_id.SideId.{SideId}
use Rattle.clash_record.specs.declared.side_id.SideId.TheVariants.{A, B}
use Rattle.clash_record.specs.declared.registrations.Terms.{Terms}
use Rattle.clash_record.specs.declared.halves.Uptimes.{Uptimes}
use Rattle.clash_record.specs.declared.halves.Withdrawal.{Withdrawal}
use Rattle.script_text.specs.declared.fault.LineFault.{LineFault}
use Rattle.script_text.specs.declared.fault.LineFault.TheVariants.{NoName, HexText, Word, Number}
use Rattle.script_text.specs.Words.{words_of, is_printable, spelled_number}

-- a request. A label, code and a resolver are kept as written
pub data Asked : Type 0 where
  Upload : (label code : List ℕ) → Asked
  Register : (side : SideId) → (name : Name) → (terms : Terms) → (resolver : List ℕ) → Asked
  Unregister : (side : SideId) → (name : Name) → Asked
  Whereis : (side : SideId) → (name : Name) → Asked
  Show : (side : SideId) → Asked
  Heal : (seed : ℕ) → (uptimes : Uptimes) → (gone : List Withdrawal) → Asked

-- what follows from a word, unless the word is invalid. So the leftmost invalid word counts
abbrev pub if_right : {A B : Type 0} → Result A LineFault → (A → Result B LineFault) → Result B LineFault
if_right (Ok x) f = f x
if_right (Err fault) f = Err fault

-- ---- single words

abbrev pub is_word : List ℕ → List ℕ → Bool
is_word = bytes_eq

abbrev pub side_named : List ℕ → Result SideId LineFault
side_named word = if is_word word (codes "a") then Ok A else (if is_word word (codes "b") then Ok B else Err Word)

abbrev pub name_of : List ℕ → Result Name LineFault
name_of word = if is_name word then Ok word else Err NoName

abbrev pub or_number : {A : Type 0} → Option A → Result A LineFault
or_number (Some n) = Ok n
or_number None = Err Number

-- a number of 64 bits, and one of 32
abbrev pub long_of : List ℕ → Result ℕ LineFault
long_of word = or_number (spelled_number (2 ^ 64 - 1) word)

abbrev pub short_of : List ℕ → Result ℕ LineFault
short_of word = or_number (spelled_number (2 ^ 32 - 1) word)

-- what stands before and after the first dot
abbrev pub around_dot : List ℕ → Option (List ℕ × List ℕ)
around_dot [] = None
around_dot (b ∷ bs) = if b == 46 then Some ([], bs) else option_map (λ parts. (b ∷ parts.0, parts.1)) (around_dot bs)

-- a node and a serial number with a dot between them
abbrev pub owner_by : Option (List ℕ × List ℕ) → Result Owner LineFault
owner_by None = Err Number
owner_by (Some parts) =
    if_right (short_of parts.0) (λ node. if_right (short_of parts.1)
    (λ serial. Ok (record { node = node; serial = serial })))

abbrev pub owner_of : List ℕ → Result Owner LineFault
owner_of word = owner_by (around_dot word)

abbrev pub or_hex : Result (List ℕ) FromHexError → Result (List ℕ) LineFault
or_hex (Ok bytes) = Ok bytes
or_hex (Err fault) = Err HexText

-- sixteen bytes in hex digits, or a dash for zeros
abbrev pub extra_of : List ℕ → Result (List ℕ) LineFault
extra_of word = if is_word word (codes "-") then Ok (replicate 16 0) else or_hex (decode_sized word 16)

-- ---- the request of the words after the first

abbrev pub upload_of : List (List ℕ) → Result Asked LineFault
upload_of (label ∷ code ∷ []) = Ok (Upload label code)
upload_of words = Err Word

abbrev pub terms_of : List ℕ → List ℕ → List ℕ → List ℕ → Result Terms LineFault
terms_of owner stamp weight extra =
    if_right (owner_of owner) (λ owner. if_right (long_of stamp) (λ stamp. if_right (long_of weight) (λ weight.
    if_right (extra_of extra) (λ extra.
    Ok (record { owner = owner; stamp = stamp; weight = weight; extra = extra })))))

abbrev pub register_of : List (List ℕ) → Result Asked LineFault
register_of (side ∷ name ∷ owner ∷ stamp ∷ weight ∷ extra ∷ resolver ∷ []) =
    if_right (side_named side) (λ side. if_right (name_of name)
    (λ name. if_right (terms_of owner stamp weight extra) (λ terms.
    Ok (Register side name terms resolver))))
register_of words = Err Word

-- a side and a name
abbrev pub unregister_of : List (List ℕ) → Result Asked LineFault
unregister_of (side ∷ name ∷ []) = if_right (side_named side) (λ side. if_right (name_of name)
    (λ name. Ok (Unregister side name)))
unregister_of words = Err Word

abbrev pub whereis_of : List (List ℕ) → Result Asked LineFault
whereis_of (side ∷ name ∷ []) = if_right (side_named side) (λ side. if_right (name_of name)
    (λ name. Ok (Whereis side name)))
whereis_of words = Err Word

abbrev pub show_of : List (List ℕ) → Result Asked LineFault
show_of (side ∷ []) = if_right (side_named side) (λ side. Ok (Show side))
show_of words = Err Word

-- ---- healing

-- a name that goes, as it is written
abbrev pub Triple : Type 0
Triple = SideId × List ℕ

-- words in threes: `gone`, a side, and a name as it is written
abbrev pub triples_of : List (List ℕ) → Result (List Triple) LineFault
triples_of [] = Ok []
triples_of (gone ∷ side ∷ name ∷ words) =
    if is_word gone (codes "gone")
    then if_right (side_named side) (λ side. if_right (triples_of words) (λ triples. Ok ((side, name) ∷ triples)))
    else Err Word
triples_of words = Err Word

abbrev pub withdrawals_of : List Triple → Result (List Withdrawal) LineFault
withdrawals_of [] = Ok []
withdrawals_of (triple ∷ triples) =
    if_right (name_of triple.1) (λ name. if_right (withdrawals_of triples) (λ gone.
    Ok (record { side = triple.0; name = name } ∷ gone)))

-- the uptimes are zeros where they are left out
abbrev pub no_uptimes : Uptimes
no_uptimes = record { a = 0; b = 0 }

abbrev pub uptimes_of : List ℕ → List ℕ → Result Uptimes LineFault
uptimes_of a b = if_right (long_of a) (λ a. if_right (long_of b) (λ b. Ok (record { a = a; b = b })))

abbrev pub healing : Result ℕ LineFault → Result Uptimes LineFault → List Triple → Result Asked LineFault
healing seed uptimes triples =
    if_right seed (λ seed. if_right uptimes (λ uptimes. if_right (withdrawals_of triples)
    (λ gone. Ok (Heal seed uptimes gone))))

-- an unknown word and a wrong number of words come before the contents of the words
abbrev pub heal_after : List ℕ → List (List ℕ) → Result Asked LineFault
heal_after seed [] = healing (long_of seed) (Ok no_uptimes) []
heal_after seed (word ∷ []) = Err Word
heal_after seed (first ∷ second ∷ words) =
    if is_word first (codes "gone")
    then if_right (triples_of (first ∷ second ∷ words)) (healing (long_of seed) (Ok no_uptimes))
    else if_right (triples_of words) (healing (long_of seed) (uptimes_of first second))

abbrev pub heal_of : List (List ℕ) → Result Asked LineFault
heal_of (seed ∷ words) = heal_after seed words
heal_of [] = Err Word

-- ---- lines

abbrev pub asked_by : List ℕ → List (List ℕ) → Result Asked LineFault
asked_by first words =
    if is_word first (codes "upload") then upload_of words
    else (if is_word first (codes "register") then register_of words
    else (if is_word first (codes "unregister") then unregister_of words
    else (if is_word first (codes "whereis") then whereis_of words
    else (if is_word first (codes "show") then show_of words
    else (if is_word first (codes "heal") then heal_of words
    else Err Word)))))

abbrev pub begins_comment : List ℕ → Bool
begins_comment [] = false
begins_comment (b ∷ bs) = b == 35

abbrev pub some_asked : Result Asked LineFault → Result (Option Asked) LineFault
some_asked (Ok asked) = Ok (Some asked)
some_asked (Err fault) = Err fault

-- a blank line and a comment, with any bytes, have no request
abbrev pub asked_of_words : Bool → List (List ℕ) → Result (Option Asked) LineFault
asked_of_words printable [] = Ok None
asked_of_words printable (first ∷ words) =
    if begins_comment first then Ok None else (if printable then some_asked (asked_by first words) else Err Word)

abbrev pub asked_of : List ℕ → Result (Option Asked) LineFault
asked_of line = asked_of_words (list_all is_printable line) (words_of line)

-- these words are put in a list, which takes memory: those of a command other than `register`
abbrev pub needs_list : Bool → List (List ℕ) → Bool
needs_list printable [] = false
needs_list printable (first ∷ words) =
    printable && (not (begins_comment first) && not (is_word first (codes "register")))

-- a line that takes memory to read
abbrev pub takes_memory : List ℕ → Bool
takes_memory line = needs_list (list_all is_printable line) (words_of line)
