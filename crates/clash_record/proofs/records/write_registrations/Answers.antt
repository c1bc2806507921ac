use Rattle.std.proofs.Common.{ℕ, arith, ◌∙◌}
use Rattle.std.proofs.lemmas.List.{length-append, length-take, length-drop}
use Rattle.clash_record.proofs.Parts.{four_parts}
use Rattle.clash_record.proofs.records.write_registrations.Goals as goal

pub slice_bounds-write_name-end-2 : goal.slice_bounds-write_name-end-2
slice_bounds-write_name-end-2 c =
    omega (arith, length-append {A = ℕ}, length-take {A = ℕ}, length-drop {A = ℕ})

pub returns : goal.returns
returns c =
    let parts = four_parts c.args.out.now c.write_name.new.out c.write_word.new.out c.write_registration.new.out
    c.write_registration-2.new.out
    (omega (arith, length-append {A = ℕ}, length-take {A = ℕ}, length-drop {A = ℕ}))
    (omega (arith, length-append {A = ℕ}, length-take {A = ℕ}, length-drop {A = ℕ}))
    (omega (arith, length-append {A = ℕ}, length-take {A = ℕ}, length-drop {A = ℕ})) in
    let name_is = c.write_name.ensures in
    let word_is = c.write_word.ensures in
    let first_is = c.write_registration.ensures in
    let second_is = c.write_registration-2.ensures in
    parts ∙ (cc)
