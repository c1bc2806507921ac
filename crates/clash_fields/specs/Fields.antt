-- The record of a clash by its fields, as words.
use Rattle.std.specs.Prelude.{ℕ, ◌==◌, if◌then◌else◌, List, [], ◌∷◌, length, take, drop, map, codes, Option, Some, None, Result, Ok, Err}
use Rattle.std.specs.Str.{bytes_eq}
use Rattle.clash_record.specs.Record.{clash_bytes}
use Rattle.clash_record.specs.Registrations.{registration_on}
use Rattle.clash_record.specs.declared.registrations.Builtin.TheVariants.{Exit}
use Rattle.clash_record.specs.declared.registrations.ResolverId.TheVariants.{Builtin}
use Rattle.clash_record.specs.declared.registrations.Terms.{Terms}
use Rattle.script_text.specs.declared.fault.LineFault.{LineFault}
use Rattle.script_text.specs.declared.fault.LineFault.TheVariants.{Word}
use Rattle.script_text.specs.Asking.{if_right, long_of, name_of, terms_of}
use Rattle.script_text.specs.Words.{words_of}
use Rattle.clash_record.specs.declared.records.Contender.{Contender}

-- the words of a registration, and of the size and the uptime of the half that holds it
pub record HalfWords : Type 0 where
  pub owner : List ℕ
  pub stamp : List ℕ
  pub weight : List ℕ
  pub extra : List ℕ
  pub size : List ℕ
  pub uptime : List ℕ

-- those of an owner alone: the rest are zeros
abbrev pub bare : List ℕ → HalfWords
bare owner = record {
  owner = owner;
  stamp = codes "0";
  weight = codes "0";
  extra = codes "-";
  size = codes "0";
  uptime = codes "0";
}

-- what follows this key
abbrev pub value_of : List ℕ → List ℕ → Option (List ℕ)
value_of key part = if bytes_eq (take (length key) part) key then Some (drop (length key) part) else None

-- the words with the value of a part in place of an earlier one
abbrev pub set_uptime : HalfWords → Option (List ℕ) → Result HalfWords LineFault
set_uptime words (Some value) = Ok (record words { uptime = value })
set_uptime words None = Err Word

abbrev pub set_size : HalfWords → List ℕ → Option (List ℕ) → Result HalfWords LineFault
set_size words part (Some value) = Ok (record words { size = value })
set_size words part None = set_uptime words (value_of (codes "uptime=") part)

abbrev pub set_extra : HalfWords → List ℕ → Option (List ℕ) → Result HalfWords LineFault
set_extra words part (Some value) = Ok (record words { extra = value })
set_extra words part None = set_size words part (value_of (codes "size=") part)

abbrev pub set_weight : HalfWords → List ℕ → Option (List ℕ) → Result HalfWords LineFault
set_weight words part (Some value) = Ok (record words { weight = value })
set_weight words part None = set_extra words part (value_of (codes "extra=") part)

abbrev pub set_stamp : HalfWords → List ℕ → Option (List ℕ) → Result HalfWords LineFault
set_stamp words part (Some value) = Ok (record words { stamp = value })
set_stamp words part None = set_weight words part (value_of (codes "weight=") part)

-- with a part such as `stamp=5`
abbrev pub with_part : HalfWords → List ℕ → Result HalfWords LineFault
with_part words part = set_stamp words part (value_of (codes "stamp=") part)

-- with parts, one after another
abbrev pub with_parts : HalfWords → List (List ℕ) → Result HalfWords LineFault
with_parts words [] = Ok words
with_parts words (part ∷ parts) = if_right (with_part words part) (λ words. with_parts words parts)

-- the words, read as a script reads them. A record has no resolver
abbrev pub half_by : HalfWords → Result Contender LineFault
half_by words =
    if_right (terms_of words.owner words.stamp words.weight words.extra) (λ terms. if_right (long_of words.size)
    (λ size. if_right (long_of words.uptime) (λ uptime.
    Ok (record { registration = registration_on terms (Builtin Exit); facts = record { size = size; uptime = uptime } }))))

-- an owner, and then parts
abbrev pub half_of_words : List (List ℕ) → Result Contender LineFault
half_of_words [] = Err Word
half_of_words (owner ∷ parts) = if_right (with_parts (bare owner) parts) half_by

-- with spaces for commas
abbrev pub spaced : List ℕ → List ℕ
spaced text = map (λ byte. if byte == 44 then 32 else byte) text

-- a registration and its half, as `1.10,stamp=5`
abbrev pub half_of_text : List ℕ → Result Contender LineFault
half_of_text text = half_of_words (words_of (spaced text))

-- the record of a clash. The leftmost invalid word counts
abbrev pub clash_from_words : (name first second word : List ℕ) → Result (List ℕ) LineFault
clash_from_words name first second word =
    if_right (name_of name) (λ name. if_right (half_of_text first) (λ first. if_right (half_of_text second)
    (λ second. if_right (long_of word) (λ word.
    Ok (clash_bytes name first.registration second.registration word first.facts second.facts)))))
