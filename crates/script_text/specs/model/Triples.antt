-- Words in threes, as the code keeps them.
use Rattle.std.specs.Prelude.{ℕ, Option, Some, None, Result, Ok, Err, List, Vec, [], ◌∷◌, ◌++◌, map}
use Rattle.std.specs.declared.alloc.Global.{Global}
use Rattle.clash_record.specs.declared.halves.Uptimes.{Uptimes}
use Rattle.clash_record.specs.declared.halves.Withdrawal.{Withdrawal}
use Rattle.script_text.specs.declared.fault.LineFault.{LineFault}
use Rattle.script_text.specs.declared.parsing.Triple as code
use Rattle.script_text.specs.Asking.{Triple, if_right, uptimes_of, no_uptimes}

abbrev pub given_uptimes : Option (List ℕ × List ℕ) → Result Uptimes LineFault
given_uptimes None = Ok no_uptimes
given_uptimes (Some words) = uptimes_of words.0 words.1

abbrev pub shown_triple : code.Triple → Triple
shown_triple triple = (triple.side, triple.name.now)

abbrev pub right_triples : Result (Vec code.Triple Global) LineFault → Result (List Triple) LineFault
right_triples (Ok triples) = Ok (map shown_triple triples.items)
right_triples (Err fault) = Err fault

abbrev pub right_withdrawals : Result (Vec Withdrawal Global) LineFault → Result (List Withdrawal) LineFault
right_withdrawals (Ok gone) = Ok gone.items
right_withdrawals (Err fault) = Err fault

-- triples that were read, and those that the words after them are
abbrev pub after_triples : List Triple → Result (List Triple) LineFault → Result (List Triple) LineFault
after_triples before rest = if_right rest (λ triples. Ok (before ++ triples))

abbrev pub after_gone : List Withdrawal → Result (List Withdrawal) LineFault → Result (List Withdrawal) LineFault
after_gone before rest = if_right rest (λ gone. Ok (before ++ gone))

abbrev pub right_triple : Result code.Triple LineFault → Result Triple LineFault
right_triple (Ok triple) = Ok (shown_triple triple)
right_triple (Err fault) = Err fault

-- a triple, and those that the words after it are
abbrev pub after_first : Result Triple LineFault → Result (List Triple) LineFault → Result (List Triple) LineFault
after_first first rest = if_right first (λ triple. after_triples (triple ∷ []) rest)
