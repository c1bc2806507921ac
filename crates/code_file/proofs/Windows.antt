-- Bytes from an offset on, where the file ends before.
use Rattle.std.proofs.Common.{◌≡◌, ◌∙◌, ℕ, zero, suc, ◌≤◌, List, [], length, take, drop, refl, ap, sym, take_all}
use Rattle.std.proofs.lemmas.List.{drop_all}

nothing : (n : ℕ) → ◌≡◌ {A = List ℕ} [] (take n [])
nothing zero = refl
nothing (suc n) = refl

pub past_end : (size at : ℕ) (bytes : List ℕ) → length bytes ≤ at → [] ≡ take size (drop at bytes)
past_end size at bytes h = nothing size ∙ ap (take size) (sym (drop_all at bytes h))

pub all_there : (n size : ℕ) (bytes : List ℕ) → length bytes ≤ n → length bytes ≤ size → take n bytes ≡ take size bytes
all_there n size bytes h k = take_all n bytes h ∙ sym (take_all size bytes k)

pub some_there : (n size : ℕ) (bytes : List ℕ) → length bytes ≤ n → take size (take n bytes) ≡ take size bytes
some_there n size bytes h = ap (take size) (take_all n bytes h)
