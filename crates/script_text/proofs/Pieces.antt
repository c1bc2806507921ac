-- Pieces that were sent one after another.
use Rattle.std.proofs.Common.{◌≡◌, ◌≤◌, ◌<◌, ◌^◌, ℕ, List, ◌++◌, length, append_assoc, arith}
use Rattle.std.specs.Fmt.{decimal}
use Rattle.std.proofs.lemmas.Fmt.{length-decimal-le}

pub row_pieces : (before name space owner numbers resolver end : List ℕ)
    → ((before ++ name) ++ (space ++ (owner ++ (numbers ++ space)))) ++ resolver ++ end
    ≡ before ++ ((((((name ++ space) ++ owner) ++ numbers) ++ space) ++ resolver) ++ end)
row_pieces before name space owner numbers resolver end = simp append_assoc

pub digits_at_most : (n : ℕ) → n < 2 ^ 64 → length (decimal n) ≤ 20
digits_at_most n h = length-decimal-le 20 n (omega arith) (omega arith) h
