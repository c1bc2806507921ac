use Rattle.std.proofs.Common.{List, ℕ, ◌++◌, ap, ◌∙◌, append_assoc}
use Rattle.std.specs.Int.{w64, to_le_bytes}
use Rattle.exchange_codec.specs.Rows.{owner_bytes}
use Rattle.exchange_codec.proofs.rows.push_fields.Goals as goal

pub returns-clause-written : goal.returns-clause-written
returns-clause-written c =
    let t = c.args.terms in
    let numbers : List ℕ = owner_bytes t.owner ++ (to_le_bytes w64 t.stamp ++ to_le_bytes w64 t.weight) in
    c.in_ok-extend_from_slice-2.ensures.items
    ∙ ap (λ (xs : List ℕ). xs ++ t.extra) (c.in_ok-extend_from_slice.ensures.items
    ∙ ap (λ (ys : List ℕ). c.args.out.now.items ++ ys) c.number_bytes.ensures)
    ∙ append_assoc c.args.out.now.items numbers t.extra
