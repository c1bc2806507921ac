-- The text of clashes with their rulings, one by one.
use Rattle.std.proofs.Common.{◌≡◌, ℕ, zero, suc, ◌+◌, ◌<◌, List, [], ◌∷◌, ◌++◌, length, get_or, min, refl, sym, ap, ◌∙◌, take, append_assoc, arith}
use Rattle.std.proofs.lemmas.Grind.{take_at_read}
use Rattle.std.proofs.lemmas.List.{length-take-le}
use Rattle.partition_table.specs.declared.judged.Judged.{Judged}
use Rattle.partition_table.specs.Tables.{Clash}
use Rattle.scripts.specs.Healed.{each_text}
use Rattle.scripts.proofs.Pieces.{append_nil}

each_text-append : (f : Clash → Judged → List ℕ) (cs ds : List Clash) (rs ss : List Judged) → length cs ≡ length rs →
    each_text f (cs ++ ds) (rs ++ ss) ≡ each_text f cs rs ++ each_text f ds ss
each_text-append f [] ds [] ss e = refl
each_text-append f [] ds (r ∷ rs) ss e = absurd (omega (arith, e))
each_text-append f (c ∷ cs) ds [] ss e = absurd (omega (arith, e))
each_text-append f (c ∷ cs) ds (r ∷ rs) ss e =
    let shorter : length cs ≡ length rs = omega (arith, e) in
    ap (λ (l : List ℕ). f c r ++ l) (each_text-append f cs ds rs ss shorter)
    ∙ sym (append_assoc (f c r) (each_text f cs rs) (each_text f ds ss))

pub one_judged : (f : Clash → Judged → List ℕ) (n : ℕ) (cs : List Clash) (rs : List Judged) (c : Clash) (r : Judged) → n < length cs →
    n < length rs → c ≡ get_or cs n c → r ≡ get_or rs n r →
    each_text f (take n cs) (take n rs) ++ f c r ≡ each_text f (take (n + 1) cs) (take (n + 1) rs)
one_judged f n cs rs c r in_cs in_rs is_c is_r =
    let long_c : length (take n cs) ≡ n = length-take-le n cs (omega (arith, in_cs)) in
    let long_r : length (take n rs) ≡ n = length-take-le n rs (omega (arith, in_rs)) in
    ap (λ (l : List ℕ). each_text f (take n cs) (take n rs) ++ l) (sym (append_nil (f c r)))
    ∙ sym (each_text-append f (take n cs) (c ∷ []) (take n rs) (r ∷ []) (long_c ∙ sym long_r))
    ∙ (λ i. each_text f (take n cs ++ is_c i ∷ []) (take n rs ++ is_r i ∷ []))
    ∙ (λ i. each_text f (sym (take_at_read cs n c in_cs).1 i) (sym (take_at_read rs n r in_rs).1 i))

pub all_judged : (f : Clash → Judged → List ℕ) (n : ℕ) (cs : List Clash) (rs : List Judged) → n ≡ min (length cs) (length rs) →
    each_text f (take n cs) (take n rs) ≡ each_text f cs rs
all_judged f zero [] rs e = refl
all_judged f zero (c ∷ cs) [] e = refl
all_judged f zero (c ∷ cs) (r ∷ rs) e = absurd (omega (arith, e))
all_judged f (suc n) [] rs e = absurd (omega (arith, e))
all_judged f (suc n) (c ∷ cs) [] e = absurd (omega (arith, e))
all_judged f (suc n) (c ∷ cs) (r ∷ rs) e =
    let fewer : n ≡ min (length cs) (length rs) = omega (arith, e) in
    ap (λ (l : List ℕ). f c r ++ l) (all_judged f n cs rs fewer)
