use Rattle.std.proofs.Common.{◌∙◌, ap, sym, Bor, List, ℕ, Option, option_map}
use Rattle.command_line.specs.Names.{names_if}
use Rattle.command_line.specs.Asked.{names_named}
use Rattle.command_line.proofs.Counts.{named, unnamed, names_short}
use Rattle.command_line.proofs.reading.names_of.Goals as goal

pub returns-in-Ok : goal.returns-in-Ok
returns-in-Ok c =
    c.new-in-Ok.ensures ∙ named names_if c.in-Some.text.now c.in-Ok.count c.in-Ok.ensures.value.0
    ∙ ap (λ (n : Option (Bor (List ℕ))). names_named (option_map (λ s. s.now) n)) (sym c.in-Some.is)

pub returns-in-Err : goal.returns-in-Err
returns-in-Err c =
    unnamed names_if c.in-Some.text.now names_short c.in-Err.ensures.value.0
    ∙ ap (λ (n : Option (Bor (List ℕ))). names_named (option_map (λ s. s.now) n)) (sym c.in-Some.is)
