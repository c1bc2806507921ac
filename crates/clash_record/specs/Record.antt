-- The record of a clash, as bytes. Numbers are little-endian.
use Rattle.std.specs.Prelude.{ℕ, List, ◌++◌, length, take, drop}
use Rattle.std.specs.Int.{w32, w64, to_le_bytes}
use Rattle.clash_record.specs.declared.registrations.Registration.{Registration}
use Rattle.clash_record.specs.declared.records.Facts.{Facts}
use Rattle.clash_record.specs.Name.{padded}

-- the length of the name, four zeros, and the name with zeros up to 32 bytes
abbrev pub name_field : List ℕ → List ℕ
name_field name = to_le_bytes w32 (length name) ++ (to_le_bytes w32 0 ++ padded name)

-- node, serial number, stamp, weight and the extra bytes
abbrev pub registration_bytes : Registration → List ℕ
registration_bytes r =
    to_le_bytes w32 r.owner.node ++ (to_le_bytes w32 r.owner.serial
    ++ (to_le_bytes w64 r.stamp ++ (to_le_bytes w64 r.weight ++ r.extra)))

-- the name, the word, and the two registrations
abbrev pub registrations_bytes : List ℕ → Registration → Registration → ℕ → List ℕ
registrations_bytes name first second word =
    name_field name ++ (to_le_bytes w64 word ++ (registration_bytes first ++ registration_bytes second))

-- the size of a table, and the uptime of the half that it is of
abbrev pub facts_bytes : Facts → List ℕ
facts_bytes f = to_le_bytes w64 f.size ++ to_le_bytes w64 f.uptime

-- the record of a clash of two registrations of a name, at a word, with the facts of the half that holds each
abbrev pub clash_bytes : List ℕ → Registration → Registration → ℕ → Facts → Facts → List ℕ
clash_bytes name first second word of_first of_second =
    registrations_bytes name first second word ++ (facts_bytes of_first ++ facts_bytes of_second)

-- a record with another word
abbrev pub with_word : List ℕ → ℕ → List ℕ
with_word bytes word = take 40 bytes ++ (to_le_bytes w64 word ++ drop 48 bytes)
