-- The length of code in bytes.
use Rattle.std.proofs.Common.{◌≡◌, ◌*◌, List, [], ◌∷◌, length, refl, ap, ◌∙◌, arith, length-append}
use Rattle.std.specs.Prelude.{sum_by, OnOk, Result, Ok, Err}
use Rattle.std.specs.List.{flat_map}
use Rattle.std.proofs.lemmas.List.Concat.{flat_map-cons}
use Rattle.std.proofs.lemmas.List.Sums.{sum_by-cons}
use Rattle.instruction_set.specs.Machine.{slots_of}
use Rattle.instruction_set.specs.declared.insn.Insn.{Insn}
use Rattle.instruction_set.specs.declared.insn.Insn.TheVariants.{LoadWide}
use Rattle.insn_codec.specs.Encoding.{insn_bytes}

pub insn_len : (i : Insn) → length (insn_bytes i) ≡ 8 * slots_of i
insn_len (LoadWide dst value) = refl
insn_len i = refl

pub code_len : (is : List Insn) → length (flat_map insn_bytes is) ≡ 8 * sum_by slots_of is
code_len [] = refl
code_len (i ∷ is) =
    ap length (flat_map-cons insn_bytes i is) ∙ length-append (insn_bytes i) (flat_map insn_bytes is)
    ∙ omega (arith, insn_len i, code_len is, sum_by-cons slots_of i is)

pub on_any : {A F P : Type 0} (r : Result A F) → P → OnOk r P
on_any (Ok x) h = h
on_any (Err e) h = tt
