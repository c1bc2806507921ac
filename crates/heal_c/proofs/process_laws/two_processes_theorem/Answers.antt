use Rattle.heal_c.proofs.Processes.{like}
use Rattle.heal_c.proofs.process_laws.two_processes_theorem.Goals as goal

pub returns-clause-one_outcome : goal.returns-clause-one_outcome
returns-clause-one_outcome c p earlier f g run has_f has_g numbers =
    let l = like p earlier run in
    let h = l.outcomes has_f.0 f has_f.1 in
    let k = l.outcomes has_g.0 g has_g.1 in
    c.two_halves_theorem.ensures.one_outcome l.acts h.0 k.0 f g h.1.0 k.1.0 h.1.1 k.1.1 numbers

pub returns-clause-merge : goal.returns-clause-merge
returns-clause-merge c p earlier f run has =
    let l = like p earlier run in
    let h = l.outcomes has.0 f has.1 in
    let m = c.two_halves_theorem.ensures.merge l.acts h.0 f h.1.0 h.1.1 in
    (m.merged, m.at_word)
