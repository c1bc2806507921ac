-- The request of plain words.
use Rattle.std.specs.Prelude.{option_and_then}
use Rattle.std.proofs.Common.{◌≡◌, ℕ, true, false, [], List, ◌∷◌, ◌∙◌, ap, Some, None, inl, inr, refl, codes}
use Rattle.std.specs.Str.{bytes_eq}
use Rattle.clap.specs.Lexer.{strip_byte}
use Rattle.clap.specs.Words.{Row, Rule, Text, fault_of, subcommand_of}
use Rattle.clap.specs.Walk.{reading_by}
use Rattle.clap.specs.Simple.{filled}
use Rattle.clap.specs.declared.parser.matches.ValueSource.{ValueSource}
use Rattle.clap.specs.declared.parser.matches.ValueSource.TheVariants.{DefaultValue, CommandLine}
use Rattle.clap.proofs.OnLiterals.{clap_on_literals}
use Rattle.partition_table.specs.Tables.{max_names}
use Rattle.judge_pool.specs.Workers.{default_workers}
use Rattle.questions.specs.declared.question.Profile.TheVariants.{Unsigned, Both}
use Rattle.command_line.specs.Asked.{Asks, subcommand_asked, explain_option, given, heal_app, needed, asm, by_bytes, check, dis, judge, refusals, run, version}
use Rattle.command_line.specs.Plain.{IsPlain}

no_hyphen : (word : Text) → IsPlain word → strip_byte 45 word ≡ None
no_hyphen [] plain = refl
no_hyphen (x ∷ xs) plain = rw plain refl

no_end : (word : Text) → IsPlain word → bytes_eq word (45 ∷ 45 ∷ []) ≡ false
no_end [] plain = refl
no_end (x ∷ xs) plain = rw plain refl

pub plain_check : (name code : Text) → IsPlain code → Asks (name ∷ codes "check" ∷ code ∷ []) (check code Both false)
unfolding clap_on_literals
plain_check name code plain =
    let a = no_hyphen code plain in
    let b = no_end code plain in inr (simp (a, b), simp (a, b))

pub plain_unsigned : (name code : Text) → IsPlain code
    → Asks (name ∷ codes "check" ∷ code ∷ codes "--profile" ∷ codes "1" ∷ []) (check code Unsigned false)
unfolding clap_on_literals
plain_unsigned name [] plain = inr (refl, refl)
plain_unsigned name (x ∷ xs) plain = inr (rw (plain, plain) refl, rw (plain, plain) refl)

pub plain_both : (name code : Text) → IsPlain code
    → Asks (name ∷ codes "check" ∷ code ∷ codes "--profile" ∷ codes "2" ∷ []) (check code Both false)
unfolding clap_on_literals
plain_both name [] plain = inr (refl, refl)
plain_both name (x ∷ xs) plain = inr (rw (plain, plain) refl, rw (plain, plain) refl)

pub plain_explained : (name code : Text) → IsPlain code
    → Asks (name ∷ codes "check" ∷ code ∷ codes "--explain" ∷ []) (check code Both true)
unfolding clap_on_literals
plain_explained name code plain =
    let a = no_hyphen code plain in
    let b = no_end code plain in inr (simp (a, b), simp (a, b))

pub plain_narrated : (name file : Text) → IsPlain file
    → Asks (name ∷ codes "run" ∷ file ∷ codes "--explain" ∷ []) (run file default_workers max_names true)
unfolding clap_on_literals
plain_narrated name file plain =
    let a = no_hyphen file plain in
    let b = no_end file plain in inr (simp (a, b), simp (a, b))

-- the values of a rule's one value
abbrev row : Rule → ValueSource → Text → Row
row rule source value = record {
  id = rule.id;
  values = value ∷ [];
  count = None;
  source = Some source;
  reading = reading_by (filled rule);
}

-- the values of judge with code and a record
abbrev judge_rows : Text → Text → List Row
judge_rows code clash =
    row (needed (codes "CODE")) CommandLine code ∷ row (given (codes "RECORDHEX")) CommandLine clash
    ∷ row explain_option DefaultValue (codes "false") ∷ []

judge_asks : (code clash : Text)
    → subcommand_asked (codes "judge", judge_rows code clash) ≡ Some (judge code (by_bytes clash) false)
unfolding clap_on_literals
judge_asks code clash = refl

judge_none_fault : (name : Text) → IsPlain [] → IsPlain []
    → fault_of heal_app (name ∷ codes "judge" ∷ [] ∷ [] ∷ []) ≡ []
unfolding clap_on_literals
judge_none_fault name p q = refl

judge_none_rows : (name : Text) → IsPlain [] → IsPlain []
    → subcommand_of heal_app (name ∷ codes "judge" ∷ [] ∷ [] ∷ [])
    ≡ Some (codes "judge", judge_rows [] [])
unfolding clap_on_literals
judge_none_rows name p q = refl

judge_code_fault : (name : Text) (x : ℕ) (xs : Text) → IsPlain (x ∷ xs) → IsPlain []
    → fault_of heal_app (name ∷ codes "judge" ∷ (x ∷ xs) ∷ [] ∷ []) ≡ []
unfolding clap_on_literals
judge_code_fault name x xs p q = rw (p, p) refl

judge_code_rows : (name : Text) (x : ℕ) (xs : Text) → IsPlain (x ∷ xs) → IsPlain []
    → subcommand_of heal_app (name ∷ codes "judge" ∷ (x ∷ xs) ∷ [] ∷ [])
    ≡ Some (codes "judge", judge_rows (x ∷ xs) [])
unfolding clap_on_literals
judge_code_rows name x xs p q = rw (p, p) refl

judge_clash_fault : (name : Text) (y : ℕ) (ys : Text) → IsPlain [] → IsPlain (y ∷ ys)
    → fault_of heal_app (name ∷ codes "judge" ∷ [] ∷ (y ∷ ys) ∷ []) ≡ []
unfolding clap_on_literals
judge_clash_fault name y ys p q = rw (q, q) refl

judge_clash_rows : (name : Text) (y : ℕ) (ys : Text) → IsPlain [] → IsPlain (y ∷ ys)
    → subcommand_of heal_app (name ∷ codes "judge" ∷ [] ∷ (y ∷ ys) ∷ [])
    ≡ Some (codes "judge", judge_rows [] (y ∷ ys))
unfolding clap_on_literals
judge_clash_rows name y ys p q = rw (q, q) refl

judge_both_fault : (name : Text) (x : ℕ) (xs : Text) (y : ℕ) (ys : Text) → IsPlain (x ∷ xs) → IsPlain (y ∷ ys)
    → fault_of heal_app (name ∷ codes "judge" ∷ (x ∷ xs) ∷ (y ∷ ys) ∷ []) ≡ []
unfolding clap_on_literals
judge_both_fault name x xs y ys p q = rw (p, p, q, q) refl

judge_both_rows : (name : Text) (x : ℕ) (xs : Text) (y : ℕ) (ys : Text) → IsPlain (x ∷ xs) → IsPlain (y ∷ ys)
    → subcommand_of heal_app (name ∷ codes "judge" ∷ (x ∷ xs) ∷ (y ∷ ys) ∷ [])
    ≡ Some (codes "judge", judge_rows (x ∷ xs) (y ∷ ys))
unfolding clap_on_literals
judge_both_rows name x xs y ys p q = rw (p, p, q, q) refl

pub plain_judge : (name code clash : Text) → IsPlain code → IsPlain clash
    → Asks (name ∷ codes "judge" ∷ code ∷ clash ∷ []) (judge code (by_bytes clash) false)
plain_judge name [] [] p q = inr (
  judge_none_fault name p q,
  ap (option_and_then subcommand_asked) (judge_none_rows name p q) ∙ judge_asks [] [],
)
plain_judge name (x ∷ xs) [] p q = inr (
  judge_code_fault name x xs p q,
  ap (option_and_then subcommand_asked) (judge_code_rows name x xs p q) ∙ judge_asks (x ∷ xs) [],
)
plain_judge name [] (y ∷ ys) p q = inr (
  judge_clash_fault name y ys p q,
  ap (option_and_then subcommand_asked) (judge_clash_rows name y ys p q) ∙ judge_asks [] (y ∷ ys),
)
plain_judge name (x ∷ xs) (y ∷ ys) p q = inr (
  judge_both_fault name x xs y ys p q,
  ap (option_and_then subcommand_asked) (judge_both_rows name x xs y ys p q) ∙ judge_asks (x ∷ xs) (y ∷ ys),
)

pub plain_asm : (name file : Text) → IsPlain file → Asks (name ∷ codes "asm" ∷ file ∷ []) (asm file)
unfolding clap_on_literals
plain_asm name file plain =
    let a = no_hyphen file plain in
    let b = no_end file plain in inr (simp (a, b), simp (a, b))

pub plain_dis : (name code : Text) → IsPlain code → Asks (name ∷ codes "dis" ∷ code ∷ []) (dis code)
unfolding clap_on_literals
plain_dis name code plain =
    let a = no_hyphen code plain in
    let b = no_end code plain in inr (simp (a, b), simp (a, b))

pub plain_run : (name file : Text) → IsPlain file
    → Asks (name ∷ codes "run" ∷ file ∷ []) (run file default_workers max_names false)
unfolding clap_on_literals
plain_run name file plain =
    let a = no_hyphen file plain in
    let b = no_end file plain in inr (simp (a, b), simp (a, b))

pub plain_workers : (name file : Text) → IsPlain file
    → Asks (name ∷ codes "run" ∷ file ∷ codes "--workers" ∷ codes "16" ∷ []) (run file 16 max_names false)
unfolding clap_on_literals
plain_workers name [] plain = inr (refl, refl)
plain_workers name (x ∷ xs) plain = inr (rw (plain, plain) refl, rw (plain, plain) refl)

pub plain_names : (name file : Text) → IsPlain file
    → Asks (name ∷ codes "run" ∷ file ∷ codes "--names" ∷ codes "8192" ∷ []) (run file default_workers 8192 false)
unfolding clap_on_literals
plain_names name [] plain = inr (refl, refl)
plain_names name (x ∷ xs) plain = inr (rw (plain, plain) refl, rw (plain, plain) refl)

pub hyphen_asm : (name : Text) → Asks (name ∷ codes "asm" ∷ codes "-" ∷ []) (asm (codes "-"))
unfolding clap_on_literals
hyphen_asm name = inr (refl, refl)

pub hyphen_run : (name : Text)
    → Asks (name ∷ codes "run" ∷ codes "-" ∷ []) (run (codes "-") default_workers max_names false)
unfolding clap_on_literals
hyphen_run name = inr (refl, refl)

pub flag_version : (name : Text) → Asks (name ∷ codes "--version" ∷ []) version
flag_version name = inl refl

pub letter_version : (name : Text) → Asks (name ∷ codes "-V" ∷ []) version
letter_version name = inl refl

pub help_refusals : (name : Text) → Asks (name ∷ codes "help" ∷ codes "refusals" ∷ []) refusals
help_refusals name = inl refl
