-- The ruling that a pass sees at a word that it has found.
use Rattle.std.proofs.Common.{◌≡◌, ◌≢◌, ℕ, Bool, true, if◌then◌else◌, List, length, Option, Some, None, slice_get, refl, sym, ap, ◌∙◌, subst}
use Rattle.std.specs.Option.{option_and_then}
use Rattle.partition_table.specs.Tables.{Clash, IsOneOfFour, answer}
use Rattle.partition_table.specs.Judged.{clash_of_verdict, word_of_verdict, answer_of_verdict}
use Rattle.partition_table.specs.declared.verdict.Verdict.{Verdict}
use Rattle.partition_table.specs.Rulings.{Ruling, ruling_of, is_one_of_four}
use Rattle.partition_table.specs.laws.FourWords.{one_of_four, four_pass}
use Rattle.verdict_board.specs.Boards.{Pass, Place, as_ruling_of, word_seen, seen, ruling_if, board_ruling}

-- ---- the ruling at a word

if_passes : (number seed : ℕ) (clashes : List Clash) (k word : ℕ) (clash : Clash)
    (b : Bool) → is_one_of_four word seed (length clashes) k ≡ b → b ≡ true →
    ruling_if number seed clashes k word clash ≡ Some (ruling_of number k word clash)
if_passes number seed clashes k word clash b is t =
    ap (λ (x : Bool). if x then Some (ruling_of number k word clash) else None) (is ∙ t)

-- at one of the four words it is the ruling of the clash there
pub ruling_is : (number seed : ℕ) (clashes : List Clash) (k word : ℕ)
    (clash : Clash) → slice_get clashes k ≡ Some clash → IsOneOfFour word seed (length clashes) k →
    board_ruling number seed clashes k word ≡ Some (ruling_of number k word clash)
ruling_is number seed clashes k word clash at four =
    ap (option_and_then (ruling_if number seed clashes k word)) at
    ∙ if_passes number seed clashes k word clash _ refl (four_pass word seed (length clashes) k four.0 four.1 four.2)

-- what is seen of a word that was found
abbrev pub at_place : Place → ℕ → Option ℕ → Option Ruling
at_place p k word = option_and_then (board_ruling p.number p.seed p.clashes k) word

seen_at : (pass : Pass) (p : Place) (k : ℕ)
    (word : Option ℕ) → pass.place ≡ p → word_seen pass k ≡ word → seen pass k ≡ at_place p k word
seen_at pass p k word e h = λ i. at_place (e i) k (h i)

judged_so : (number k word : ℕ) (verdict : Verdict) → word ≡ word_of_verdict verdict →
    ruling_of number k word (clash_of_verdict verdict) ≡ as_ruling_of number k verdict
judged_so number k word verdict e =
    let same : answer (clash_of_verdict verdict) word ≡ answer_of_verdict verdict =
    ap (answer (clash_of_verdict verdict)) e ∙ sym verdict.judged in
    λ i. record {
      number = number;
      k = k;
      clash = clash_of_verdict verdict;
      judged = record { word = e i; answer = same i };
    }

-- a pass that finds the word of a verdict has seen this verdict
pub seen_verdict : (pass : Pass) (p : Place) (k word : ℕ)
    (verdict : Verdict) → pass.place ≡ p → Some word ≡ word_seen pass k → word ≡ word_of_verdict verdict →
    slice_get p.clashes k ≡ Some (clash_of_verdict verdict) →
    IsOneOfFour (word_of_verdict verdict) p.seed (length p.clashes) k →
    seen pass k ≡ Some (as_ruling_of p.number k verdict)
seen_verdict pass p k word verdict same found e at four =
    seen_at pass p k (Some word) same (sym found)
    ∙ ruling_is p.number p.seed p.clashes k word (clash_of_verdict verdict) at
    (subst (λ (w : ℕ). IsOneOfFour w p.seed (length p.clashes) k) (sym e) four)
    ∙ ap Some (judged_so p.number k word verdict e)

-- a pass that finds another of the four words has seen another ruling
pub seen_other : (pass : Pass) (p : Place) (k word other : ℕ)
    (clash : Clash) → pass.place ≡ p → Some word ≡ word_seen pass k → slice_get p.clashes k ≡ Some clash →
    is_one_of_four word p.seed (length p.clashes) k ≡ true → word ≢ other →
    (ruling : Ruling) × (seen pass k ≡ Some ruling) × (ruling.judged.word ≢ other)
seen_other pass p k word other clash same found at passes apart = (
  ruling_of p.number k word clash,
  seen_at pass p k (Some word) same (sym found)
      ∙ ruling_is p.number p.seed p.clashes k word clash at (one_of_four _ _ _ _ passes),
  apart,
)
