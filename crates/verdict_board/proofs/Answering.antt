-- The duties of the steps on the answer words, and what is read of a word.
use Rattle.std.proofs.Common.{◌≡◌, inl, inr, ℕ, zero, suc, ◌<◌, List, [], length, set, replicate, Option, Some, None, IfSome, refl, sym, ap, ◌∙◌, subst, length-set, arith}
use Rattle.std.specs.Prelude.{slice_get, slice_index}
use Rattle.std.proofs.lemmas.List.{get_or-set_same, get_or-set_other, length-replicate}
use Rattle.std.proofs.lemmas.Option.{slice_get_within}
use mathlib.Core.Logic.{dite}
use native.Mathlib.Decide.{ℕ_discrete}
use Rattle.atomic_table.specs.Table.{keeps, Enters, Arrives, opening}
use Rattle.builtin_resolvers.specs.declared.verdicts.Verdict3.{Verdict3}
use Rattle.builtin_resolvers.specs.declared.verdicts.Verdict3.TheVariants.{First, Second, Neither}
use Rattle.std.specs.Option.{unwrap_or}
use Rattle.partition_table.specs.Tables.{Clash, answer, word_of}
use Rattle.partition_table.specs.Judged.{clash_of_verdict, word_of_verdict, answer_of_verdict}
use Rattle.partition_table.specs.declared.verdict.Verdict.{Verdict}
use Rattle.verdict_board.specs.declared.answers.Case.{Case}
use Rattle.verdict_board.specs.model.Answers.{code_of, answer_of, IsTrueOf, Tells, HoldsAnswers, AnswersOf}

abbrev pub S : Type 0
S = Unit {0}

-- ---- codes

no_code : (round : ℕ) (x : Verdict3) → code_of round x ≡ 0 → ⊥
no_code round First e = absurd (omega (arith, e))
no_code round Second e = absurd (omega (arith, e))
no_code round Neither e = absurd (omega (arith, e))

-- a code is of one round and of one answer
one_code : (round other : ℕ) (x y : Verdict3) → code_of round x ≡ code_of other y → (round ≡ other) × (x ≡ y)
one_code round other First First e = (omega (arith, e), refl)
one_code round other First Second e = absurd (omega (arith, e))
one_code round other First Neither e = absurd (omega (arith, e))
one_code round other Second First e = absurd (omega (arith, e))
one_code round other Second Second e = (omega (arith, e), refl)
one_code round other Second Neither e = absurd (omega (arith, e))
one_code round other Neither First e = absurd (omega (arith, e))
one_code round other Neither Second e = absurd (omega (arith, e))
one_code round other Neither Neither e = (omega (arith, e), refl)

-- the answer of a code that a word has is the resolver's
read_back : (case : Case) (k code round : ℕ) (clash : Clash)
    (x : Verdict3) → IsTrueOf case k clash code → code ≡ code_of round x → x ≡ answer_of case k round clash
read_back case k code round clash x (inl none) e = absurd (no_code round x (sym e ∙ none))
read_back case k code round clash x (inr told) e =
    let one = one_code round told.0 x (answer_of case k told.0 clash) (sym e ∙ told.1) in
    one.1 ∙ ap (λ (r : ℕ). answer_of case k r clash) (sym one.0)

pub read_answer : (case : Case) (k code round : ℕ) (clash : Clash)
    (found : Option Verdict3) → IsTrueOf case k clash code → IfSome found (λ x. code ≡ code_of round x) →
    IfSome found (λ x. x ≡ answer_of case k round clash)
read_answer case k code round clash None told e = tt
read_answer case k code round clash (Some x) told e = read_back case k code round clash x told e

-- the code of the resolver's answer in a round
pub told_so : (case : Case) (k code round : ℕ)
    (x : Verdict3) → code ≡ code_of round x →
    ((clash : Clash) → slice_get case.clashes.value k ≡ Some clash → x ≡ answer_of case k round clash) →
    Tells case k code
told_so case k code round x e is clash at = inr (round, e ∙ ap (code_of round) (is clash at))

-- ---- the words of a board's clashes

pub has_word : (words k : ℕ) (clashes : List Clash)
    (clash : Clash) → words ≡ length clashes → slice_get clashes k ≡ Some clash → k < words
has_word words k clashes clash e at = omega (arith, e, slice_get_within clashes k clash at)

word_here : (case : Case) (seed : ℕ) (clashes : List Clash) (k round word : ℕ) → case.seed ≡ seed →
    case.clashes.value ≡ clashes → word ≡ word_of seed round (length clashes) k →
    word ≡ word_of case.seed round (length case.clashes.value) k
word_here case seed clashes k round word s l e = e ∙ (λ i. word_of (sym s i) round (length (sym l i)) k)

-- a kept answer is the resolver's at the word of its round
pub known_so : (case : Case) (seed : ℕ) (clashes : List Clash) (k round word : ℕ) (clash : Clash)
    (x : Verdict3) → case.seed ≡ seed → case.clashes.value ≡ clashes →
    word ≡ word_of seed round (length clashes) k → slice_get clashes k ≡ Some clash →
    ((c : Clash) → slice_get case.clashes.value k ≡ Some c → x ≡ answer_of case k round c) → x ≡ answer clash word
known_so case seed clashes k round word clash x s l e at kept =
    kept clash (ap (λ (cs : List Clash). slice_get cs k) l ∙ at)
    ∙ ap (answer clash) (sym (word_here case seed clashes k round word s l e))

-- the answer of a verdict at the word of a round is the one to keep
pub kept_so : (case : Case) (seed : ℕ) (clashes : List Clash) (k round : ℕ)
    (verdict : Verdict) → case.seed ≡ seed → case.clashes.value ≡ clashes →
    word_of_verdict verdict ≡ word_of seed round (length clashes) k →
    slice_get clashes k ≡ Some (clash_of_verdict verdict) →
    (c : Clash) → slice_get case.clashes.value k ≡ Some c → answer_of_verdict verdict ≡ answer_of case k round c
kept_so case seed clashes k round verdict s l e at c here =
    let same : clash_of_verdict verdict ≡ c =
    ap (λ (o : Option Clash). unwrap_or o c) (sym at ∙ sym (ap (λ (cs : List Clash). slice_get cs k) l) ∙ here) in
    verdict.judged ∙ ap (answer (clash_of_verdict verdict))
    (word_here case seed clashes k round (word_of_verdict verdict) s l e)
    ∙ ap (answer_of case k round) same

-- ---- steps

zeros : (n k : ℕ) → slice_index (replicate n 0) k ≡ 0
zeros zero k = refl
zeros (suc n) zero = refl
zeros (suc n) (suc k) = zeros n k

pub begins : (case : Case) (words : List ℕ) → words ≡ replicate (length case.clashes.value) 0 →
    AnswersOf {S = S} case (opening words [] case)
begins case words e =
    let n = length case.clashes.value in record {
      count = ap (λ (l : List ℕ). length l) e ∙ length-replicate n 0;
      each = λ k clash at. inl (ap (λ (l : List ℕ). slice_index l k) e ∙ zeros n k);
    }

pub looks : (case : Case) (slots k : ℕ) → Enters {S = S} {V = Case} (AnswersOf case) slots k (λ n w. Tells case k n)
looks case slots k s h homes small = (case, record { count = h.count; each = h.each }, h.each k)

written : (case : Case) (words : List ℕ) (k code : ℕ) → HoldsAnswers case words → Tells case k code →
    HoldsAnswers case (set words k code)
written case words k code h tells = record {
  count = length-set words k code ∙ h.count;
  each = λ j clash at. dite (ℕ_discrete j k)
      (λ e.
      let here : slice_get case.clashes.value k ≡ Some clash =
      subst (λ (i : ℕ). slice_get case.clashes.value i ≡ Some clash) e at in
      let within = slice_get_within case.clashes.value k clash here in
      let same : slice_index (set words k code) k ≡ code =
      get_or-set_same words k code 0 (omega (arith, within, h.count)) in
      subst (λ (i : ℕ). IsTrueOf case i clash (slice_index (set words k code) i)) (sym e)
      (subst (λ (c : ℕ). IsTrueOf case k clash c) (sym same) (tells clash here)))
      (λ apart. subst (λ (c : ℕ). IsTrueOf case j clash c) (sym (get_or-set_other words k j code 0 apart))
      (h.each j clash at));
}

pub writes : (case : Case) (slots k code : ℕ) → Tells case k code →
    Arrives {S = S} {V = Case} (AnswersOf case) slots k (λ _. code) (λ n w. Unit {0})
writes case slots k code tells s h homes small = (case, keeps, tt, written case s.words k code h tells, tt)
