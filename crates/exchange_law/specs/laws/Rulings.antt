-- The meaning of the tests of a ruling.
use Rattle.std.proofs.Common.{◌≡◌, ℕ, ◌<◌, true, false, ◌&&◌, List, [], length, Option, Some, None, slice_get, refl, sym, ap, ◌∙◌}
use Rattle.std.proofs.Math.Bool.{and-true}
use Rattle.std.proofs.lemmas.Bool.{and_parts}
use Rattle.std.specs.Option.{option_map_or}
use Rattle.builtin_resolvers.specs.declared.verdicts.Verdict3.{Verdict3}
use Rattle.builtin_resolvers.specs.declared.verdicts.Verdict3.TheVariants.{First, Second, Neither}
use Rattle.partition_table.specs.Tables.{Clash, same_clash, answer, word_of, IsOneOfFour}
use Rattle.partition_table.specs.laws.FourWords.{one_of_four, four_pass}
use Rattle.partition_table.specs.laws.Sameness.{clash_decides}
use Rattle.exchange_law.specs.Sides.{Judged, Heard, Exchange, Side, is_answer, is_one_of_four, is_lawful, clashes_heard, clashes_of, has_clash}

-- an equal clash is the clash

pub same_clash_is : (c d : Clash) → same_clash c d ≡ true → c ≡ d
same_clash_is c d e = (clash_decides c d).0 e

-- a lawful word and its answer

is_answer_is : (x y : Verdict3) → is_answer x y ≡ true → x ≡ y
is_answer_is First First e = refl
is_answer_is First Second e = cc
is_answer_is First Neither e = cc
is_answer_is Second First e = cc
is_answer_is Second Second e = refl
is_answer_is Second Neither e = cc
is_answer_is Neither First e = cc
is_answer_is Neither Second e = cc
is_answer_is Neither Neither e = refl

pub record Lawful (all : List Clash) (seed k : ℕ) (judged : Judged) (clash : Clash) : Type 0 where
  pub of_clash : slice_get all k ≡ Some clash
  pub word_is : IsOneOfFour judged.word seed (length all) k
  pub answers : judged.answer ≡ answer clash judged.word

pub lawful : (all : List Clash) (seed k : ℕ) (judged : Judged) (clash : Clash) → slice_get all k ≡ Some clash →
    is_lawful all seed k judged ≡ true → Lawful all seed k judged clash
lawful all seed k judged clash at e =
    let h = and_parts _ _ e in
    record {
      of_clash = at;
      word_is = one_of_four judged.word seed (length all) k h.0;
      answers =
          let test =
          λ (o : Option Clash). option_map_or (λ c. is_answer judged.answer (answer c judged.word)) o false in
          is_answer_is _ _ (sym (ap test at) ∙ h.1);
    }

pub clashes_are : (side : Side) (exchange : Exchange) (heard : Heard) → side.exchange ≡ Some exchange →
    exchange.heard ≡ Some heard → clashes_of side ≡ clashes_heard side exchange heard
clashes_are side exchange heard opened was =
    ap (λ (o : Option Exchange). option_map_or (λ (x : Exchange). option_map_or (clashes_heard side x) x.heard []) o [])
    opened
    ∙ ap (λ (o : Option Heard). option_map_or (clashes_heard side exchange) o []) was

-- the clash is clash k of the open exchange
pub has_clash_is : (side : Side) (exchange : Exchange) (heard : Heard) (k : ℕ) (clash : Clash) →
    side.exchange ≡ Some exchange → exchange.heard ≡ Some heard → has_clash side k clash ≡ true →
    slice_get (clashes_heard side exchange heard) k ≡ Some clash
has_clash_is side exchange heard k clash opened was e =
    let same = sym (clashes_are side exchange heard opened was) in
    by_clash (slice_get (clashes_heard side exchange heard) k) refl
    (ap (λ (l : List Clash). option_map_or (same_clash clash) (slice_get l k) false) same ∙ e)
  where
    by_clash : (o : Option Clash) → slice_get (clashes_heard side exchange heard) k ≡ o →
        option_map_or (same_clash clash) o false ≡ true → slice_get (clashes_heard side exchange heard) k ≡ Some clash
    by_clash None at t = cc
    by_clash (Some c) at t = at ∙ ap Some (sym (same_clash_is clash c t))

-- the tests pass where they are to

answer_passes : (x : Verdict3) → is_answer x x ≡ true
answer_passes First = refl
answer_passes Second = refl
answer_passes Neither = refl

pub same_clash_passes : (c : Clash) → same_clash c c ≡ true
same_clash_passes c = (clash_decides c c).1 refl

-- what a clash's own resolver answers at a word is lawful exactly if the word is one of the four
pub lawful_is : (all : List Clash) (seed k word : ℕ) (clash : Clash) → slice_get all k ≡ Some clash →
    is_lawful all seed k (record { word = word; answer = answer clash word }) ≡ is_one_of_four word seed (length all) k
lawful_is all seed k word clash at =
    let test = λ (o : Option Clash). option_map_or (λ c. is_answer (answer clash word) (answer c word)) o false in
    ap (λ b. is_one_of_four word seed (length all) k && b) (ap test at ∙ answer_passes (answer clash word)) ∙ and-true _

pub lawful_passes : (all : List Clash) (seed k round : ℕ) (clash : Clash) → slice_get all k ≡ Some clash → round < 4 →
    let word = word_of seed round (length all) k in
    is_lawful all seed k (record { word = word; answer = answer clash word }) ≡ true
lawful_passes all seed k round clash at early =
    let word = word_of seed round (length all) k in
    lawful_is all seed k word clash at ∙ four_pass word seed (length all) k round early refl

pub has_clash_passes : (side : Side) (exchange : Exchange) (heard : Heard) (k : ℕ) (clash : Clash) →
    side.exchange ≡ Some exchange → exchange.heard ≡ Some heard →
    slice_get (clashes_heard side exchange heard) k ≡ Some clash → has_clash side k clash ≡ true
has_clash_passes side exchange heard k clash opened was at =
    ap (λ (l : List Clash). option_map_or (same_clash clash) (slice_get l k) false)
    (clashes_are side exchange heard opened was)
    ∙ ap (λ (o : Option Clash). option_map_or (same_clash clash) o false) at
    ∙ same_clash_passes clash
