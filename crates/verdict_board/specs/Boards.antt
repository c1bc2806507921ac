-- A board, and what a pass has seen of it.
use Rattle.std.specs.Prelude.{◌≡◌, ◌≢◌, ℕ, if◌then◌else◌, List, length, Option, Some, None, IfSome, slice_get, slice_index_or}
use Rattle.std.specs.Option.{option_and_then}
use Rattle.atomic_table.specs.Seated.{TableId}
use Rattle.partition_table.specs.Tables.{Clash}
use Rattle.partition_table.specs.Judged.{clash_of_verdict, word_of_verdict, answer_of_verdict}
use Rattle.partition_table.specs.declared.verdict.Verdict.{Verdict}
use Rattle.partition_table.specs.declared.verdict.Ruling as code
use Rattle.partition_table.specs.Rulings.{Ruling, ruling_of, is_one_of_four}
use Rattle.verdict_board.specs.declared.posted.Posted.{Posted}
use Rattle.verdict_board.specs.declared.posted.Posted.TheVariants.{Kept, Earlier, Refused}

-- whose clashes are judged, and the cells of their verdicts
pub record Place : Type 0 where
  pub number : ℕ
  pub seed : ℕ
  pub clashes : List Clash
  pub cells : List ℕ

-- the most seats of a board
abbrev pub most_seats : ℕ
most_seats = 16

pub record Board : Type 0 where
  pub place : Place
  pub seats : ℕ
  pub draws : TableId

-- a pass: the board that it is of, and the word, if any, that it has seen in each cell
pub record Pass : Type 0 where
  pub place : Place
  pub words : List (Option ℕ)

-- a verdict of clash k as the exchange's definitions have it
abbrev pub as_ruling_of : ℕ → ℕ → Verdict → Ruling
as_ruling_of number k verdict = record {
  number = number;
  k = k;
  clash = clash_of_verdict verdict;
  judged = record { word = word_of_verdict verdict; answer = answer_of_verdict verdict };
}

abbrev pub as_ruling : code.Ruling → Ruling
as_ruling ruling = as_ruling_of ruling.number ruling.k ruling.verdict

-- the ruling of clash k at a word, where that is one of its four
abbrev pub ruling_if : ℕ → ℕ → List Clash → ℕ → ℕ → Clash → Option Ruling
ruling_if number seed clashes k word clash =
    if is_one_of_four word seed (length clashes) k then Some (ruling_of number k word clash) else None

abbrev pub board_ruling : ℕ → ℕ → List Clash → ℕ → ℕ → Option Ruling
board_ruling number seed clashes k word =
    option_and_then (ruling_if number seed clashes k word) (slice_get clashes k)

abbrev pub word_seen : Pass → ℕ → Option ℕ
word_seen pass k = slice_index_or pass.words k None

-- the ruling of clash k that the pass has seen
abbrev pub seen : Pass → ℕ → Option Ruling
seen pass k =
    option_and_then (board_ruling pass.place.number pass.place.seed pass.place.clashes k) (word_seen pass k)

-- a step of a pass at clash k: what it has seen it sees still, and of the other clashes it has seen nothing new
pub record LooksAt (k : ℕ) (before after : Pass) : Type 0 where
  pub same_board : after.place ≡ before.place
  pub stays : IfSome (seen before k) (λ ruling. seen after k ≡ Some ruling)
  pub others : (j : ℕ) → j ≢ k → seen after j ≡ seen before j

-- what is answered to who posted a verdict of clash k, by what the pass has then seen there: that verdict, one at
-- another word, or nothing
abbrev pub IsAnswer : Option Ruling → ℕ → ℕ → Verdict → Posted → Type 0
IsAnswer found number k verdict Kept = found ≡ Some (as_ruling_of number k verdict)
IsAnswer found number k verdict Earlier =
    (ruling : Ruling) × (found ≡ Some ruling) × (ruling.judged.word ≢ word_of_verdict verdict)
IsAnswer found number k verdict (Refused back) =
    (found ≡ None) × (as_ruling_of number k back ≡ as_ruling_of number k verdict)
