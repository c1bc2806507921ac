-- A pass whose note of clash k learns more has read clash k.
use Rattle.std.proofs.Common.{◌≡◌, ℕ, zero, suc, ◌+◌, ◌<◌, List, [], ◌∷◌, ◌++◌, take, length, get_or, set, Option, Some, None, IfSome, refl, sym, ap, ◌∙◌, subst, arith}
use Rattle.std.proofs.lemmas.List.{map-append, map-set, length-map, get_or-map, get_or-set_same, get_or-set_other}
use Rattle.std.proofs.Math.Seq.{map-set_same, take-suc}
use Rattle.std.specs.Option.{option_and_then}
use Rattle.once_cell.specs.Once.{Agrees}
use Rattle.partition_table.specs.Tables.{Clash}
use Rattle.partition_table.specs.Rulings.{Ruling}
use Rattle.verdict_board.specs.Boards.{Place, Pass, board_ruling, word_seen, seen, LooksAt}
use Rattle.verdict_board.specs.Views.{WordNote, names, words, place_of, pass_of}

itself : {A : Type 0} (o : Option A) → IfSome o (λ x. o ≡ Some x)
itself None = tt
itself (Some x) = refl

grows : {A : Type 0} (f : ℕ → Option A) (x y : Option ℕ) → IfSome x (λ w. y ≡ Some w) → IfSome (option_and_then f x)
    (λ r. option_and_then f y ≡ Some r)
grows f None y h = tt
grows f (Some w) y h = subst (λ (o : Option ℕ). IfSome (f w) (λ r. option_and_then f o ≡ Some r)) (sym h)
    (itself (f w))

abbrev pub ruled : Place → ℕ → Option ℕ → Option Ruling
ruled p k word = option_and_then (board_ruling p.number p.seed p.clashes k) word

value_of : (notes : List WordNote) (k : ℕ)
    (old : WordNote) → k < length notes → old ≡ get_or notes k old → get_or (words notes) k None ≡ old.known
value_of notes k old inside is = get_or-map (λ (n : WordNote). n.known) notes k old None inside
    ∙ ap (λ (n : WordNote). n.known) (sym is)

value_set : (notes : List WordNote) (k : ℕ)
    (n : WordNote) → k < length notes → get_or (words (set notes k n)) k None ≡ n.known
value_set notes k n inside =
    ap (λ l. get_or l k None) (map-set (λ (m : WordNote). m.known) notes k n)
    ∙ get_or-set_same (words notes) k n.known None (subst (λ (m : ℕ). k < m)
    (sym (length-map notes (λ (m : WordNote). m.known))) inside)

-- what is seen, of the board and of the word that is seen there
pub seen_is : (q : Pass) (b : Place) (j : ℕ) (o : Option ℕ) → q.place ≡ b → word_seen q j ≡ o → seen q j ≡ ruled b j o
seen_is q b j o e h = λ i. ruled (e i) j (h i)

looks_set : (number seed : ℕ) (clashes : List Clash) (notes : List WordNote) (k : ℕ)
    (old n : WordNote) → k < length notes → old ≡ get_or notes k old → n.cell ≡ old.cell
    → IfSome old.known (λ w. n.known ≡ Some w) → LooksAt k (pass_of number seed clashes notes)
    (pass_of number seed clashes (set notes k n))
looks_set number seed clashes notes k old n inside is cell more =
    let cells : names (set notes k n) ≡ names notes =
    map-set_same (λ (m : WordNote). m.cell) notes k n old (cell ∙ ap (λ (m : WordNote). m.cell) is) in
    let board = ap (place_of number seed clashes) cells in
    let b = place_of number seed clashes (names notes) in
    let p = pass_of number seed clashes notes in
    let q = pass_of number seed clashes (set notes k n) in
    let before = seen_is p b k old.known refl (value_of notes k old inside is) in
    let after = seen_is q b k n.known board (value_set notes k n inside) in
    let f = board_ruling number seed clashes k in record {
      same_board = board;
      stays = subst (λ (x : Option Ruling). IfSome x (λ r. seen q k ≡ Some r)) (sym before)
          (subst (λ (y : Option Ruling). IfSome (ruled b k old.known) (λ r. y ≡ Some r)) (sym after)
          (grows f old.known n.known more));
      others = (λ j apart. seen_is q b j (get_or (words notes) j None) board (ap (λ l. get_or l j None)
          (map-set (λ (m : WordNote). m.known) notes k n) ∙ get_or-set_other (words notes) k j n.known None apart));
    }

-- what a step on the note of clash k does to the pass
pub looked : (p : Pass) (number seed : ℕ) (clashes : List Clash) (notes : List WordNote) (k : ℕ)
    (old n : WordNote) → pass_of number seed clashes notes ≡ p → k < length p.place.cells
    → old ≡ get_or notes k old → n.cell ≡ old.cell → IfSome old.known (λ w. n.known ≡ Some w)
    → LooksAt k p (pass_of number seed clashes (set notes k n))
    × (word_seen (pass_of number seed clashes (set notes k n)) k ≡ n.known)
looked p number seed clashes notes k old n view inside is cell more =
    let here : k < length notes = subst (λ (m : ℕ). k < m) (length-map notes (λ (m : WordNote). m.cell))
    (subst (λ (q : Pass). k < length q.place.cells) (sym view) inside) in (
      subst (λ (q : Pass). LooksAt k q (pass_of number seed clashes (set notes k n))) view
          (looks_set number seed clashes notes k old n here is cell more),
      value_set notes k n here,
    )

pub from_none : (o n : Option ℕ) → o ≡ None → IfSome o (λ w. n ≡ Some w)
from_none o n e = subst (λ (x : Option ℕ). IfSome x (λ w. n ≡ Some w)) (sym e) tt

pub from_some : (o n : Option ℕ) (x : ℕ) → n ≡ Some x → Agrees o x → IfSome o (λ w. n ≡ Some w)
from_some None n x e a = tt
from_some (Some y) n x e a = e ∙ ap (λ (w : ℕ). Some w) (sym a)

pub same_cell : (ns ms : List WordNote) (k : ℕ)
    (n m : WordNote) → names ns ≡ names ms → k < length ns → k < length ms → n ≡ get_or ns k n → m ≡ get_or ms k m →
    m.cell ≡ n.cell
same_cell ns ms k n m e ln lm isn ism =
    ap (λ (x : WordNote). x.cell) ism ∙ sym (get_or-map (λ (x : WordNote). x.cell) ms k m 0 lm)
    ∙ ap (λ l. get_or l k 0) (sym e)
    ∙ get_or-map (λ (x : WordNote). x.cell) ns k n 0 ln ∙ ap (λ (x : WordNote). x.cell) (sym isn)

pub names_more : (notes : List WordNote) (n : WordNote) (all : List ℕ)
    (i : ℕ) → names notes ≡ take i all → i < length all → n.cell ≡ get_or all i n.cell →
    names (notes ++ n ∷ []) ≡ take (i + 1) all
names_more notes n all i e inside is =
    let next : suc i ≡ i + 1 = omega arith in
    let snoc : names (notes ++ n ∷ []) ≡ take (suc i) all =
    map-append (λ (m : WordNote). m.cell) notes (n ∷ []) ∙ ap (λ (l : List ℕ). l ++ n.cell ∷ []) e
    ∙ ap (λ (x : ℕ). take i all ++ x ∷ []) is
    ∙ sym (take-suc all i n.cell inside) in
    subst (λ (m : ℕ). names (notes ++ n ∷ []) ≡ take m all) next snoc

pub none_more : (notes : List WordNote) (n : WordNote) → n.known ≡ None →
    ((k : ℕ) → get_or (words notes) k None ≡ None) → (k : ℕ) → get_or (words (notes ++ n ∷ [])) k None ≡ None
none_more [] n e h zero = e
none_more [] n e h (suc k) = refl
none_more (m ∷ ms) n e h zero = h zero
none_more (m ∷ ms) n e h (suc k) = none_more ms n e (λ j. h (suc j)) k
