-- The request of a command line, in the terms of the crate that parses it.
use Rattle.std.specs.Prelude.{◌≡◌, ◌⊎◌, ℕ, Bool, true, false, ◌&&◌, ◌||◌, List, codes, Option, Some, None, [], ◌∷◌, if◌then◌else◌, option_and_then, option_map}
use Rattle.std.specs.Str.{bytes_eq}
use Rattle.std.specs.declared.io.ErrorKind.{ErrorKind}
use Rattle.std.specs.declared.io.ErrorKind.TheVariants as of_io
use Rattle.clap.specs.Words.{App, IsAmong, Row, Rule, Text, first_of, fault_of, new_app, new_rule, kind_of, subcommand_of, with_rule, with_subcommand}
use Rattle.clap.specs.Simple.{on_top}
use Rattle.clap.specs.ValueTests.{is_numeral}
use Rattle.std.specs.Str.Parse.{digits_value, without_leading_plus}
use Rattle.clap.specs.declared.error.kind.ErrorKind.TheVariants.{OutOfMemory}
use Rattle.command_line.specs.declared.faults.CommandFault.{CommandFault}
use Rattle.command_line.specs.declared.faults.CommandFault.TheVariants.{Parse, NoTask, NotText}
use Rattle.clap.specs.declared.builder.action.ArgAction.TheVariants.{Set, SetTrue}
use Rattle.clap.specs.declared.builder.value_parser.ValueParser.TheVariants as value
use Rattle.questions.specs.declared.question.ClashWords.{ClashWords}
use Rattle.questions.specs.declared.question.ClashWords.TheVariants.{Bytes, Fields}
use Rattle.questions.specs.declared.question.Profile.{Profile}
use Rattle.questions.specs.declared.question.Profile.TheVariants.{Unsigned, Both}
use Rattle.questions.specs.declared.question.Question.TheVariants.{Check, Judge, Asm, Dis}
use Rattle.command_line.specs.declared.task.Task.{Task}
use Rattle.command_line.specs.declared.task.Task.TheVariants.{Answer, Run, Version, Refusals}
use Rattle.command_line.specs.Names.{names_if}
use Rattle.partition_table.specs.Tables.{max_names, most_names}
use Rattle.verdict_board.specs.Boards.{most_seats}
use Rattle.judge_pool.specs.Workers.{default_workers, workers_if}

-- ---- the command

-- an argument that has to be given, with one value
abbrev pub needed : List ℕ → Rule
needed id = record (new_rule id) { required = true; action = Some Set }

-- an argument that may be given, with one value
abbrev pub given : List ℕ → Rule
given id = record (new_rule id) { action = Some Set }

-- an option with one value
abbrev pub valued : List ℕ → Rule
valued id = record (new_rule id) { long = Some id; action = Some Set; value_names = 1 }

-- a subcommand with one argument
abbrev pub one_app : List ℕ → List ℕ → App
one_app name id = with_rule (new_app name) (needed id)

-- an option with one value, the number 1 or 2
abbrev pub profile_option : Rule
profile_option = record (new_rule (codes "profile")) {
  long = Some (codes "profile");
  action = Some Set;
  value_names = 1;
  parser = Some (value.Unsigned 1 2);
}

-- an option without a value
abbrev pub explain_option : Rule
explain_option = record (new_rule (codes "explain")) { long = Some (codes "explain"); action = Some SetTrue }

-- check CODE [--profile 1|2] [--explain]
abbrev pub check_app : App
check_app = with_rule (with_rule (one_app (codes "check") (codes "CODE")) profile_option) explain_option

-- judge CODE [RECORDHEX] [--word W]
abbrev pub record_app : App
record_app =
    with_rule (with_rule (one_app (codes "judge") (codes "CODE")) (given (codes "RECORDHEX"))) (valued (codes "word"))

-- [--name NAME] [--first REG] [--second REG]
abbrev pub with_fields : App → App
with_fields app =
    with_rule (with_rule (with_rule app (valued (codes "name"))) (valued (codes "first"))) (valued (codes "second"))

-- the whole of judge, with [--explain]
abbrev pub judge_app : App
judge_app = with_rule (with_fields record_app) explain_option

-- asm FILE
abbrev pub asm_app : App
asm_app = one_app (codes "asm") (codes "FILE")

-- dis CODE
abbrev pub dis_app : App
dis_app = one_app (codes "dis") (codes "CODE")

-- an option with one value, a number of workers
abbrev pub workers_option : Rule
workers_option = record (new_rule (codes "workers")) {
  long = Some (codes "workers");
  action = Some Set;
  value_names = 1;
  parser = Some (value.Unsigned 1 most_seats);
}

-- an option with one value, a number of names
abbrev pub names_option : Rule
names_option = record (new_rule (codes "names")) {
  long = Some (codes "names");
  action = Some Set;
  value_names = 1;
  parser = Some (value.Unsigned 1 most_names);
}

-- run FILE [--workers W] [--names N] [--explain]
abbrev pub run_app : App
run_app =
    with_rule (with_rule (with_rule (one_app (codes "run") (codes "FILE")) workers_option) names_option) explain_option

-- heal with its five subcommands
abbrev pub subcommands_app : App
subcommands_app = with_subcommand (with_subcommand (with_subcommand (with_subcommand (with_subcommand
    (new_app (codes "heal")) check_app.top) judge_app.top) asm_app.top) dis_app.top) run_app.top

-- heal with one of its subcommands
abbrev pub heal_app : App
heal_app = on_top (λ s. record s { subcommand_required = true }) subcommands_app

-- ---- the request

-- a clash as it is given: by the bytes of its record in hex digits, or by a name, two registrations and a word
pub data GivenClash : Type 0 where
  by_bytes : (digits : List ℕ) → GivenClash
  by_fields : (name first second word : List ℕ) → GivenClash

-- a task without where its words lie in memory
pub data AskedTask : Type 0 where
  check : (code : List ℕ) → (profile : Profile) → (explain : Bool) → AskedTask
  judge : (code : List ℕ) → (clash : GivenClash) → (explain : Bool) → AskedTask
  asm : (file : List ℕ) → AskedTask
  dis : (code : List ℕ) → AskedTask
  run : (file : List ℕ) → (workers names : ℕ) → (explain : Bool) → AskedTask
  version : AskedTask
  refusals : AskedTask

abbrev pub clash_by : ClashWords → GivenClash
clash_by (Bytes digits) = by_bytes digits.now
clash_by (Fields name first second word) = by_fields name.now first.now second.now word.now

-- the task, seen so
abbrev pub asked_task : Task → AskedTask
asked_task (Answer (Check code profile explain)) = check code.now profile explain
asked_task (Answer (Judge code clash explain)) = judge code.now (clash_by clash) explain
asked_task (Answer (Asm file)) = asm file.now
asked_task (Answer (Dis code)) = dis code.now
asked_task (Run file workers names explain) = run file.now workers.count names.count explain
asked_task Version = version
asked_task Refusals = refusals

-- the profile of a number, and the second one where none is named
abbrev pub profile_named : Option Text → Option Profile
profile_named None = Some Both
profile_named (Some number) =
    if bytes_eq number (codes "1") then Some Unsigned
    else (if bytes_eq number (codes "2") then Some Both else None)

-- whether the option is given
abbrev pub explain_named : Option Text → Bool
explain_named None = false
explain_named (Some given) = bytes_eq given (codes "true")

-- the record by its bytes alone, or by its fields alone, with the word 0 where none is given
abbrev pub clash_named : Option Text → Option Text → Option Text → Option Text → Option Text → Option GivenClash
clash_named (Some digits) None None None None = Some (by_bytes digits)
clash_named None (Some name) (Some first) (Some second) None = Some (by_fields name first second (codes "0"))
clash_named None (Some name) (Some first) (Some second) (Some word) = Some (by_fields name first second word)
clash_named digits name first second word = None

-- the request of the values of check; and of judge, asm and dis
abbrev pub check_asked : List Row → Option AskedTask
check_asked rows =
    option_and_then (λ code. option_map
    (λ profile. check code profile (explain_named (first_of (codes "explain") rows)))
    (profile_named (first_of (codes "profile") rows)))
    (first_of (codes "CODE") rows)

abbrev pub judge_asked : List Row → Option AskedTask
judge_asked rows =
    option_and_then (λ code. option_map
    (λ clash. judge code clash (explain_named (first_of (codes "explain") rows)))
    (clash_named (first_of (codes "RECORDHEX") rows) (first_of (codes "name") rows) (first_of (codes "first") rows)
    (first_of (codes "second") rows) (first_of (codes "word") rows)))
    (first_of (codes "CODE") rows)

abbrev pub asm_asked : List Row → Option AskedTask
asm_asked rows = option_map asm (first_of (codes "FILE") rows)

abbrev pub dis_asked : List Row → Option AskedTask
dis_asked rows = option_map dis (first_of (codes "CODE") rows)

-- the number that a text names, if it is one of these
abbrev pub number_named : (ℕ → Option ℕ) → Text → Option ℕ
number_named valid number =
    if is_numeral (without_leading_plus number) then valid (digits_value 10 (without_leading_plus number)) else None

-- how many workers a text names, and the default where none is named
abbrev pub workers_named : Option Text → Option ℕ
workers_named None = Some default_workers
workers_named (Some number) = number_named workers_if number

-- how many names a text names, and the default where none is named
abbrev pub names_named : Option Text → Option ℕ
names_named None = Some max_names
names_named (Some number) = number_named names_if number

abbrev pub run_asked : List Row → Option AskedTask
run_asked rows =
    option_and_then (λ file. option_and_then
    (λ workers. option_map
    (λ names. run file workers names (explain_named (first_of (codes "explain") rows)))
    (names_named (first_of (codes "names") rows)))
    (workers_named (first_of (codes "workers") rows)))
    (first_of (codes "FILE") rows)

-- the request of a subcommand of this name
abbrev pub subcommand_asked : Text × List Row → Option AskedTask
subcommand_asked sub =
    if bytes_eq sub.0 (codes "check") then check_asked sub.1
    else (if bytes_eq sub.0 (codes "judge") then judge_asked sub.1
    else (if bytes_eq sub.0 (codes "asm") then asm_asked sub.1
    else (if bytes_eq sub.0 (codes "dis") then dis_asked sub.1
    else (if bytes_eq sub.0 (codes "run") then run_asked sub.1 else None))))

-- the only word after the program's name is `--version` or `-V`
abbrev pub asks_version : List Text → Bool
asks_version (name ∷ flag ∷ []) = bytes_eq flag (codes "--version") || bytes_eq flag (codes "-V")
asks_version words = false

-- the words after the program's name are `help refusals`
abbrev pub asks_refusals : List Text → Bool
asks_refusals (name ∷ help ∷ topic ∷ []) = bytes_eq help (codes "help") && bytes_eq topic (codes "refusals")
asks_refusals words = false

-- the request of the words that need no subcommand
abbrev pub own_asked : List Text → Option AskedTask
own_asked words = if asks_version words then Some version else (if asks_refusals words then Some refusals else None)

-- the words request this, by themselves or by a subcommand with valid words
abbrev pub Asks : List Text → AskedTask → Type 0
Asks words task = (own_asked words ≡ Some task)
    ⊎ ((fault_of heal_app words ≡ []) × (option_and_then subcommand_asked (subcommand_of heal_app words) ≡ Some task))

-- the fault is out of memory, not a usage error
abbrev pub IsForMemory : CommandFault → Type 0
IsForMemory (Parse e) = kind_of e ≡ OutOfMemory
IsForMemory NoTask = ⊥
IsForMemory NotText = ⊥

-- the usage error of these words: the answer of clap in place of a parse, or none where they parse
abbrev pub IsUsageFault : List Text → CommandFault → Type 0
IsUsageFault words (Parse e) = IsAmong (kind_of e) (fault_of heal_app words)
IsUsageFault words NoTask = fault_of heal_app words ≡ []
IsUsageFault words NotText = ⊥

-- if reading the arguments fails by this kind, the fault is out of memory or invalid UTF-8
abbrev pub IsArgumentFault : ErrorKind → CommandFault → Type 0
IsArgumentFault kind fault =
    (kind ≡ of_io.OutOfMemory → IsForMemory fault) × ((kind ≡ of_io.OutOfMemory → ⊥) → fault ≡ NotText)
