use Rattle.std.proofs.Common.{◌∙◌, ap, sym, Bor, List, ℕ, Option, option_map}
use Rattle.judge_pool.specs.Workers.{workers_if}
use Rattle.command_line.specs.Asked.{workers_named}
use Rattle.command_line.proofs.Counts.{named, unnamed, workers_short}
use Rattle.command_line.proofs.reading.workers_of.Goals as goal

pub returns-in-Ok : goal.returns-in-Ok
returns-in-Ok c =
    c.new.ensures ∙ named workers_if c.in-Some.text.now c.in-Ok.count c.in-Ok.ensures.value.0
    ∙ ap (λ (n : Option (Bor (List ℕ))). workers_named (option_map (λ s. s.now) n)) (sym c.in-Some.is)

pub returns-in-Err : goal.returns-in-Err
returns-in-Err c =
    unnamed workers_if c.in-Some.text.now workers_short c.in-Err.ensures.value.0
    ∙ ap (λ (n : Option (Bor (List ℕ))). workers_named (option_map (λ s. s.now) n)) (sym c.in-Some.is)
