-- A name is text, and is stored with zeros after it.
use Rattle.std.proofs.Common.{◌≡◌, ℕ, List, ◌++◌, length, take, drop, IsTrue, IsUtf8, ◌<◌, arith, ap, replicate}
use Rattle.std.proofs.lemmas.List.{length-append}
use Rattle.std.proofs.Math.Seq.{take-append_seam}
use Rattle.std.proofs.lemmas.List.{drop-replicate}
use Rattle.std.proofs.lemmas.Bool.{and_parts}
use Rattle.std.proofs.lemmas.Bool.Decides.{nat_tests}
use Rattle.std.proofs.lemmas.List.Elements.{All-weaker}
use Rattle.std.proofs.lemmas.List.Sums.{AllPass-from_list_all}
use Rattle.std.proofs.lemmas.Str.{IsUtf8-from_ascii}
use Rattle.std.proofs.lemmas.Str.Ascii.{IsAscii-from_all}
use Rattle.clash_record.specs.Name.{is_name, is_visible}
use Rattle.clash_record.specs.model.Stored.{IsStored}

-- the bytes of a name, written over zeros
pub stored_name : (name : List ℕ) → IsTrue (is_name name)
    → IsStored record { bytes = name ++ drop (length name) (replicate 32 0); len = length name }
stored_name name named =
    let zeros = drop (length name) (replicate 32 0) in
    let front : take (length name) (name ++ zeros) ≡ name = take-append_seam name zeros in
    record {
      named = rw front named;
      fits = omega (arith, length-append name zeros);
      zeros = rw front (ap (λ (rest : List ℕ). name ++ rest) (drop-replicate (length name) 32 0));
    }

visible_below : (byte : ℕ) → IsTrue (is_visible byte) → byte < 128
visible_below byte shown = grind (arith, nat_tests)

-- visible characters are ASCII, and ASCII is UTF-8
pub name_is_text : (name : List ℕ) → IsTrue (is_name name) → IsUtf8 name
name_is_text name named =
    let visible = (and_parts _ _ (and_parts _ _ named).1).1 in
    IsUtf8-from_ascii name (IsAscii-from_all name (All-weaker (λ byte. IsTrue (is_visible byte)) (λ byte. byte < 128)
    visible_below name (AllPass-from_list_all is_visible name visible)))
