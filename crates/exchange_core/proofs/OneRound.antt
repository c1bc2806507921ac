-- Two finishes by rulings of one round.
use Rattle.std.proofs.Common.{◌≡◌, ℕ, true, false, suc, List, [], ◌∷◌, length, Option, Some, None, slice_get, refl, sym, ap, ◌∙◌, subst, true≢false}
use Rattle.std.proofs.lemmas.Bool.{and_parts}
use Rattle.std.specs.Option.{option_map_or}
use Rattle.partition_table.specs.Tables.{Clash, answer, word_of, clashes, merge}
use Rattle.exchange_law.specs.Sides.{Judged, is_answer, is_lawful}
use Rattle.exchange_core.specs.Finished.{Finished, IsFinished, clashes_merged}
use Rattle.exchange_core.specs.Settling.{IsOfRound}
use Rattle.exchange_law.specs.laws.Carried.{some_inj}
use Rattle.exchange_core.proofs.Ending.{answers}
use Rattle.exchange_law.specs.laws.Rulings.{lawful}

-- lists that are alike at each place
same_lists : {X : Type 0} (xs ys : List X) → length xs ≡ length ys →
    ((k : ℕ) (x y : X) → slice_get xs k ≡ Some x → slice_get ys k ≡ Some y → x ≡ y) → xs ≡ ys
same_lists [] [] n h = refl
same_lists [] (y ∷ ys) n h = cc
same_lists (x ∷ xs) [] n h = cc
same_lists (x ∷ xs) (y ∷ ys) n h =
    let n' : length xs ≡ length ys = cc in
    λ i. h 0 x y refl refl i ∷ same_lists xs ys n' (λ k a b p q. h (suc k) a b p q) i

-- a lawful ruling is of a clash, and its answer the resolver's
answered : (all : List Clash) (seed k : ℕ) (j : Judged) → is_lawful all seed k j ≡ true →
    (c : Clash) × (slice_get all k ≡ Some c) × (j.answer ≡ answer c j.word)
answered all seed k j e = by_clash (slice_get all k) refl
  where
    by_clash : (o : Option Clash) → slice_get all k ≡ o →
        (c : Clash) × (slice_get all k ≡ Some c) × (j.answer ≡ answer c j.word)
    by_clash None at =
        let test = λ (o : Option Clash). option_map_or (λ c. is_answer j.answer (answer c j.word)) o false in
        let h : test (slice_get all k) ≡ true = (and_parts _ _ e).1 in
        absurd (true≢false (sym h ∙ ap test at))
    by_clash (Some c) at = (c, at, (lawful all seed k j c at e).answers)

-- rulings of one clash at one word
one_ruling : (all : List Clash) (seed k : ℕ) (x y : Judged) → is_lawful all seed k x ≡ true →
    is_lawful all seed k y ≡ true → x.word ≡ y.word → x ≡ y
one_ruling all seed k x y p q words =
    let f = answered all seed k x p in
    let g = answered all seed k y q in
    let same : f.0 ≡ g.0 = some_inj (sym f.1 ∙ g.1) in
    let answers : x.answer ≡ y.answer = f.2 ∙ (λ i. answer (same i) (words i)) ∙ sym g.2 in
    λ i. record { word = words i; answer = answers i }

module _ (f g : Finished) (round : ℕ) (is_f : IsFinished f) (is_g : IsFinished g) (seeds : f.seed ≡ g.seed)
    (a : f.a ≡ g.a) (uptime_a : f.uptime_a ≡ g.uptime_a) (b : f.b ≡ g.b) (uptime_b : f.uptime_b ≡ g.uptime_b)
    (of_f : IsOfRound round f) (of_g : IsOfRound round g) where
  all : clashes_merged f ≡ clashes_merged g
  all = λ i. clashes (a i) (uptime_a i) (b i) (uptime_b i)

  at_place : (k : ℕ) (x y : Judged) → slice_get f.rulings k ≡ Some x → slice_get g.rulings k ≡ Some y → x ≡ y
  at_place k x y p q =
      one_ruling (clashes_merged g) g.seed k x y
      (subst (λ (s : List Clash × ℕ). is_lawful s.0 s.1 k x ≡ true) (λ i. (all i, seeds i)) (is_f.lawful k x p))
      (is_g.lawful k y q)
      (of_f k x p ∙ (λ i. word_of (seeds i) round (length (all i)) k) ∙ sym (of_g k y q))

  pub one_rulings : f.rulings ≡ g.rulings
  one_rulings = same_lists f.rulings g.rulings (is_f.one_each ∙ ap length all ∙ sym is_g.one_each) at_place

  pub one_round : f.gone ≡ g.gone → f.table ≡ g.table
  one_round gone =
      is_f.merged
      ∙ (λ i. merge (a i) (b i) (answers (one_rulings i)) (gone i))
      ∙ sym is_g.merged
