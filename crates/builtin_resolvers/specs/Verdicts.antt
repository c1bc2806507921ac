-- The verdicts of programs and of built-in resolvers.
use Rattle.std.specs.Prelude.{ℕ, ◌%◌, ◌==◌, if◌then◌else◌, List, codes}
use Rattle.clash_record.specs.declared.registrations.Builtin.{Builtin}
use Rattle.clash_record.specs.declared.registrations.Builtin.TheVariants as by
use Rattle.builtin_resolvers.specs.declared.verdicts.Verdict3.{Verdict3}
use Rattle.builtin_resolvers.specs.declared.verdicts.Verdict3.TheVariants.{First, Second, Neither}

-- of a program's answer: 1 is the first registration, 2 the second, and any other neither
abbrev pub verdict_of_answer : ℕ → Verdict3
verdict_of_answer answer = if answer == 1 then First else (if answer == 2 then Second else Neither)

-- the first where the lowest bit of the word is 0, and else the second
abbrev pub by_lowest_bit : ℕ → Verdict3
by_lowest_bit word = if word % 2 == 0 then First else Second

-- exit and notify choose by the lowest bit, and notify-all chooses neither
abbrev pub builtin_verdict : Builtin → ℕ → Verdict3
builtin_verdict by.Exit word = by_lowest_bit word
builtin_verdict by.Notify word = by_lowest_bit word
builtin_verdict by.NotifyAll word = Neither

-- how a verdict is printed
abbrev pub verdict_text : Verdict3 → List ℕ
verdict_text First = codes "first"
verdict_text Second = codes "second"
verdict_text Neither = codes "none"
