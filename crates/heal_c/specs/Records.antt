-- Records of clashes from what C gives.
use Rattle.std.specs.Prelude.{ℕ, List, Result, Ok}
use Rattle.clash_record.specs.Record.{clash_bytes}
use Rattle.c_calls.specs.declared.codes.HealFacts.{HealFacts}
use Rattle.c_calls.specs.declared.codes.HealRegistration.{HealRegistration}
use Rattle.c_calls.specs.Answers.{and_then}
use Rattle.c_calls.specs.Codes.{given_name, given_registration, given_facts}

-- the bytes of the record, or 44 for the name, or 76 for a registration
abbrev pub record_for : List ℕ → HealRegistration → HealRegistration → ℕ → HealFacts → HealFacts → Result (List ℕ) ℕ
record_for bytes first second word of_first of_second =
    and_then (given_name bytes) (λ name. and_then (given_registration first) (λ r.
    and_then (given_registration second) (λ s.
    Ok (clash_bytes name r s word (given_facts of_first) (given_facts of_second)))))
