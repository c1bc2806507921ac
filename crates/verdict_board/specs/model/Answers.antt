-- The rule of the answer words: the word of a clash is 0, or the code of a round and of the resolver's answer there.
use Rattle.std.specs.Prelude.{◌≡◌, ◌⊎◌, ℕ, ◌+◌, ◌*◌, List, length, Some, slice_get, slice_index}
use Rattle.atomic_table.specs.Table.{State}
use Rattle.builtin_resolvers.specs.declared.verdicts.Verdict3.{Verdict3}
use Rattle.builtin_resolvers.specs.declared.verdicts.Verdict3.TheVariants.{First, Second, Neither}
use Rattle.partition_table.specs.Tables.{Clash, answer, word_of}
use Rattle.verdict_board.specs.declared.answers.Case.{Case}

abbrev pub answer_number : Verdict3 → ℕ
answer_number First = 1
answer_number Second = 2
answer_number Neither = 3

abbrev pub code_of : ℕ → Verdict3 → ℕ
code_of round found = 4 * round + answer_number found

-- what the resolver of a clash k answers in a round
abbrev pub answer_of : Case → ℕ → ℕ → Clash → Verdict3
answer_of case k round clash = answer clash (word_of case.seed round (length case.clashes.value) k)

-- 0, or the code of a round and of the resolver's answer there
abbrev pub IsTrueOf : Case → ℕ → Clash → ℕ → Type 0
IsTrueOf case k clash code =
    (code ≡ 0) ⊎ ((round : ℕ) × (code ≡ code_of round (answer_of case k round clash)))

-- the word of clash k
abbrev pub Tells : Case → ℕ → ℕ → Type 0
Tells case k code = (clash : Clash) → slice_get case.clashes.value k ≡ Some clash → IsTrueOf case k clash code

-- one word for each clash
pub record HoldsAnswers (case : Case) (words : List ℕ) : Type 0 where
  pub count : length words ≡ length case.clashes.value
  pub each : (k : ℕ) → Tells case k (slice_index words k)

module _ {S : Type 0} where
  abbrev pub AnswersOf : Case → State S Case → Type 0
  AnswersOf case s = HoldsAnswers case s.words
