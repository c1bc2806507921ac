use Rattle.std.proofs.Common.{ℕ, arith, ◌∙◌}
use Rattle.std.proofs.lemmas.List.{length-append, length-take, length-drop}
use Rattle.clash_record.proofs.Parts.{three_parts}
use Rattle.clash_record.proofs.records.write_record.Goals as goal

pub slice_bounds-write_registrations-end-2 : goal.slice_bounds-write_registrations-end-2
slice_bounds-write_registrations-end-2 c = let whole = c.requires in omega (arith, length-take {A = ℕ})

pub returns : goal.returns
returns c =
    let parts = three_parts c.args.out.now c.write_registrations.new.out c.write_facts.new.out c.write_facts-2.new.out
    (omega (arith, length-append {A = ℕ}, length-take {A = ℕ}, length-drop {A = ℕ}))
    (omega (arith, length-append {A = ℕ}, length-take {A = ℕ}, length-drop {A = ℕ})) in
    let registrations_are = c.write_registrations.ensures in
    let first_is = c.write_facts.ensures in
    let second_is = c.write_facts-2.ensures in
    parts ∙ (cc)
