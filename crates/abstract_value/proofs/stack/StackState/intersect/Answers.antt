use Rattle.std.proofs.Common.{◌≡◌, ℕ, ◌∙◌, ◌≤◌, ◌/◌, ◌%◌, ◌==◌, ap, sym, arith, length, get_or, bit_and}
use Rattle.std.specs.Int.{bit_at}
use Rattle.std.proofs.lemmas.List.{get_or_past}
use Rattle.abstract_value.proofs.WrittenBytes.{and_bit}
use Rattle.abstract_value.proofs.JoinPlaceByPlace.{joined_more, not_yet, joined_all}
use Rattle.abstract_value.proofs.stack.StackState.intersect.Goals as goal

pub loop-i-preserved : goal.loop-i-preserved
loop-i-preserved c =
    let a = λ (j : ℕ). get_or c.args.self.now.words j 0 in
    let b = λ (j : ℕ). get_or c.args.other.now.words j 0 in
    let done = λ (j : ℕ). get_or c.loop-i.self.words j 0 in
    let i = c.loop-i.i in
    let here = ap (λ n. bit_and n (b i)) (not_yet (λ j. bit_and (a j) (b j)) a done i c.loop-i.invariant) in
    joined_more (λ j. bit_and (a j) (b j)) a done (λ j. get_or c.intersect_word.new.self.words j 0) i
    (bit_and (done i) (b i))
    c.loop-i.invariant c.intersect_word.ensures here

pub returns : goal.returns
returns c k =
    let a = λ (j : ℕ). get_or c.args.self.now.words j 0 in
    let b = λ (j : ℕ). get_or c.args.other.now.words j 0 in
    let done = λ (j : ℕ). get_or c.loop-i.self.words j 0 in
    let long : length c.args.self.now.words ≡ 8 = c.args.self.now.eight in
    let zero : (j : ℕ) → 8 ≤ j → a j ≡ 0 = λ j h. get_or_past c.args.self.now.words j 0 (omega arith) in
    let past : (j : ℕ) → 8 ≤ j → bit_and (a j) (b j) ≡ a j =
    λ j h. ap (λ n. bit_and n (b j)) (zero j h) ∙ sym (zero j h) in
    let e =
    joined_all (λ j. bit_and (a j) (b j)) a done 8 c.loop-i.i c.loop-i-test.false past c.loop-i.invariant
    (k / 64) in
    ap (λ n. bit_at n (k % 64) == 1) e ∙ and_bit (a (k / 64)) (b (k / 64)) (k % 64)
