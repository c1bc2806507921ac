use Rattle.std.proofs.Common.{◌≡◌, take}
use Rattle.std.specs.List.{flat_map}
use Rattle.std.specs.String.{string_bytes}
use Rattle.questions.specs.Lines.{refusal_row}
use Rattle.questions.proofs.listing.rows_text.Given as goal

abbrev pub invariant-loop-number : goal.invariant-loop-number
invariant-loop-number l =
    string_bytes l.text ≡ flat_map (λ row. refusal_row row.0 row.1.now) (take l.number-index l.refusals)
