-- Rulings: a clash of an exchange, one of its four words, and what its resolver answers there.
use Rattle.std.specs.Prelude.{ℕ, Bool, true, false, ◌&&◌, ◌==◌, List, [], ◌∷◌, length, slice_get, find, Option}
use Rattle.std.specs.Option.{option_map_or}
use Rattle.std.specs.List.{list_any}
use Rattle.builtin_resolvers.specs.declared.verdicts.Verdict3.{Verdict3}
use Rattle.builtin_resolvers.specs.declared.verdicts.Verdict3.TheVariants.{First, Second, Neither}
use Rattle.partition_table.specs.declared.judged.Judged.{Judged}
use Rattle.partition_table.specs.Tables.{Clash, answer, word_of}

-- one of the four words of clash k of n
abbrev pub is_one_of_four : ℕ → ℕ → ℕ → ℕ → Bool
is_one_of_four word seed n k = list_any (λ round. word == word_of seed round n k) (0 ∷ 1 ∷ 2 ∷ 3 ∷ [])

-- the least round, of the four, at whose word of clash k of n this is
abbrev pub round_of : ℕ → ℕ → ℕ → ℕ → Option ℕ
round_of word seed n k = find (λ round. word == word_of seed round n k) (0 ∷ 1 ∷ 2 ∷ 3 ∷ [])

abbrev pub is_answer : Verdict3 → Verdict3 → Bool
is_answer First First = true
is_answer Second Second = true
is_answer Neither Neither = true
is_answer x y = false

-- the word is one of the four of clash k of these, and the answer is its resolver's at that word
abbrev pub is_lawful : List Clash → ℕ → ℕ → Judged → Bool
is_lawful all seed k judged =
    is_one_of_four judged.word seed (length all) k
    && option_map_or (λ clash. is_answer judged.answer (answer clash judged.word)) (slice_get all k) false

-- of clash k of the exchange of this number
pub record Ruling : Type 0 where
  pub number : ℕ
  pub k : ℕ
  pub clash : Clash
  pub judged : Judged

-- the ruling of a clash at a word is what its resolver answers
abbrev pub ruling_of : ℕ → ℕ → ℕ → Clash → Ruling
ruling_of number k word clash =
    record { number = number; k = k; clash = clash; judged = record { word = word; answer = answer clash word } }
