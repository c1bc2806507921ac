-- The fields of a record in words.
use Rattle.std.specs.Prelude.{ℕ, ◌+◌, min, if◌then◌else◌, List, ◌++◌, take, drop, codes}
use Rattle.std.specs.Fmt.{decimal}
use Rattle.byteorder.specs.Endian.{little_number}
use Rattle.hex.specs.Hex.{encode_lower}
use Rattle.clash_record.specs.Name.{is_name}
use Rattle.clash_record.specs.Texts.{owner_text}
use Rattle.clash_record.specs.declared.registrations.Owner.{Owner}

-- the number in this many bytes at an offset, the lowest byte first
abbrev pub record_number : ℕ → ℕ → List ℕ → ℕ
record_number offset size bytes = little_number size (drop offset bytes)

-- the bytes of the name, by its length
abbrev pub record_name : List ℕ → List ℕ
record_name bytes = take (min (record_number 0 4 bytes) 32) (drop 8 bytes)

-- the name, or all its 32 bytes in hex digits if they have none
unfoldable pub name_text : List ℕ → List ℕ
name_text bytes = if is_name (record_name bytes) then record_name bytes else encode_lower (take 32 (drop 8 bytes))

-- the owner at this place
abbrev pub record_owner : ℕ → List ℕ → Owner
record_owner place bytes = record { node = record_number place 4 bytes; serial = record_number (place + 4) 4 bytes }

-- a registration at this place
unfoldable pub registration_text : ℕ → List ℕ → List ℕ
registration_text place bytes =
    owner_text (record_owner place bytes) ++ (codes ", stamp " ++ (decimal (record_number (place + 8) 8 bytes)
    ++ (codes ", weight " ++ decimal (record_number (place + 16) 8 bytes))))

-- the facts of a half at this place
unfoldable pub facts_text : ℕ → List ℕ → List ℕ
facts_text place bytes =
    codes "size " ++ (decimal (record_number place 8 bytes)
    ++ (codes ", uptime " ++ decimal (record_number (place + 8) 8 bytes)))

-- a registration at this place, and the facts of its half at that one
unfoldable pub half_text : List ℕ → ℕ → ℕ → List ℕ → List ℕ
half_text which place facts bytes =
    which ++ (codes " " ++ (registration_text place bytes ++ (codes ", extra "
    ++ (encode_lower (take 16 (drop (place + 24) bytes)) ++ (codes ", " ++ (facts_text facts bytes ++ codes "\n"))))))

-- the record: the name and the word, and then the two registrations, each on a line
abbrev pub record_text : List ℕ → List ℕ
record_text bytes =
    codes "name " ++ (name_text bytes ++ (codes ", word " ++ (decimal (record_number 40 8 bytes) ++ (codes "\n"
    ++ (half_text (codes "first") 48 128 bytes ++ half_text (codes "second") 88 144 bytes)))))
