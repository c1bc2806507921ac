use Rattle.std.proofs.Common.{◌≡◌, ◌∙◌, ◌⊎◌, List, ap, refl, sym, inl, inr, false, IfOk, IfErr, IsErrAnd, subst, Ok, Err, map, true, Option, Some, None, [], Result}
use Rattle.std.specs.Prelude.{option_map, option_and_then}
use Rattle.std.specs.Option.{ok_or}
use Rattle.clap.specs.Words.{Text, HasKind, IsAmong, fault_of, is_simple_and_free, is_simple, kind_of, subcommand_of}
use Rattle.clap.specs.declared.error.Error.{Error}
use Rattle.command_line.specs.declared.faults.CommandFault.TheVariants.{NoTask, Parse}
use Rattle.clap.proofs.OnLiterals.{clap_on_literals}
use Rattle.command_line.specs.declared.task.Task.{Task}
use Rattle.command_line.specs.declared.faults.CommandFault.{CommandFault}
use Rattle.command_line.specs.Asked.{AskedTask, Asks, IsForMemory, IsUsageFault, asked_task, subcommand_asked, asks_refusals, asks_version, heal_app}
use Rattle.command_line.proofs.reading.command.Goals as goal

is_simple_heal : is_simple heal_app ≡ true
unfolding clap_on_literals
is_simple_heal = refl

is_free_heal : is_simple_and_free heal_app ≡ true
unfolding clap_on_literals
is_free_heal = refl

-- the task that the rows give
given : (words : List Text) (o : Option Task) (r : Result Task CommandFault) (e : CommandFault) → r ≡ ok_or o e
    → fault_of heal_app words ≡ [] → option_map asked_task o ≡ option_and_then subcommand_asked (subcommand_of heal_app words)
    → IfOk r (λ t. Asks words (asked_task t))
given words None r e is none same = rw is tt
given words (Some t) r e is none same = rw is (inr (none, sym same))

-- words that don't ask by themselves ask by a subcommand
by_subcommand : (words : List Text) (task : AskedTask) → asks_version words ≡ false → asks_refusals words ≡ false
    → Asks words task → option_and_then subcommand_asked (subcommand_of heal_app words) ≡ Some task
by_subcommand words task v r (inr h) = h.1
by_subcommand words task v r (inl h) = let none = rw (v, r) at h in absurd (cc)

fault_free : (words : List Text) (task : AskedTask) → asks_version words ≡ false → asks_refusals words ≡ false
    → Asks words task → fault_of heal_app words ≡ []
fault_free words task v r (inr h) = h.0
fault_free words task v r (inl h) = let none = rw (v, r) at h in absurd (cc)

-- if the rows give no task, neither do the words
not_given : (words : List Text) (o : Option Task) (r : Result Task CommandFault) (e : CommandFault) → r ≡ ok_or o e
    → asks_version words ≡ false → asks_refusals words ≡ false
    → option_map asked_task o ≡ option_and_then subcommand_asked (subcommand_of heal_app words)
    → IfErr r (λ f. IsForMemory f ⊎ ((task : AskedTask) → Asks words task → ⊥))
not_given words (Some t) r e is v f same = rw is tt
not_given words None r e is v f same = rw is (inr (λ task asks. let two = by_subcommand words task v f asks in cc))

pub returns-clause-ok : goal.returns-clause-ok
returns-clause-ok g c =
    let words = map g.S.AsStr.text c.args.words.now in
    let app_is = c.in_ok-heal.ensures in
    let none = c.in_ok-matches.ensures.kinds (ap is_simple_and_free app_is ∙ is_free_heal) in
    let rows = c.in_ok-matches.ensures.matches (ap is_simple app_is ∙ is_simple_heal) in
    given words c.task_of.result c.ok_or.result _ c.ok_or.ensures.value
    (ap (λ a. fault_of a words) (sym app_is) ∙ none)
    (c.task_of.ensures ∙ ap (option_and_then subcommand_asked) (rows.1 ∙ ap (λ a. subcommand_of a words) app_is))

pub returns-clause-err : goal.returns-clause-err
returns-clause-err g c =
    let words = map g.S.AsStr.text c.args.words.now in
    let app_is = c.in_ok-heal.ensures in
    let rows = c.in_ok-matches.ensures.matches (ap is_simple app_is ∙ is_simple_heal) in
    not_given words c.task_of.result c.ok_or.result _ c.ok_or.ensures.value
    (sym c.asks_version.ensures ∙ c.if-asks_version.false) (sym c.asks_refusals.ensures ∙ c.if-asks_refusals.false)
    (c.task_of.ensures ∙ ap (option_and_then subcommand_asked) (rows.1 ∙ ap (λ a. subcommand_of a words) app_is))

-- words that clap refuses request nothing, unless memory ran out
refused : (words : List Text) (error : Error) → asks_version words ≡ false → asks_refusals words ≡ false
    → HasKind (fault_of heal_app words) error
    → IsForMemory (Parse error) ⊎ ((task : AskedTask) → Asks words task → ⊥)
refused words error v r (inl memory) = inl memory
refused words error v r (inr among) = inr (λ task asks. let none = fault_free words task v r asks in
    let bad : IsAmong (kind_of error) [] = rw none at among in bad)

refused_as : (words : List Text) (error : Error) (result : Result Task CommandFault)
    → IsErrAnd result (λ f. f ≡ Parse error) → asks_version words ≡ false → asks_refusals words ≡ false
    → HasKind (fault_of heal_app words) error
    → IfErr result (λ f. IsForMemory f ⊎ ((task : AskedTask) → Asks words task → ⊥))
refused_as words error (Ok task) is v r kind = tt
refused_as words error (Err fault) is v r kind = rw is (refused words error v r kind)

pub returns-in_err-matches-clause-err : goal.returns-in_err-matches-clause-err
returns-in_err-matches-clause-err g c =
    let words = map g.S.AsStr.text c.args.words.now in
    let app_is = c.in_ok-heal.ensures in
    let kinds = c.in_err-matches.ensures.kinds (ap is_simple_and_free app_is ∙ is_free_heal) in
    refused_as words c.in_err-matches.field-0.0 c.from_residual-in_err-matches.result
    c.from_residual-in_err-matches.ensures.1
    (sym c.asks_version.ensures ∙ c.if-asks_version.false) (sym c.asks_refusals.ensures ∙ c.if-asks_refusals.false)
    (subst (λ a. HasKind (fault_of a words) c.in_err-matches.field-0.0) app_is kinds)

-- if the rows give no task, the words parse
without_task : (words : List Text) (o : Option Task) (r : Result Task CommandFault) → r ≡ ok_or o NoTask
    → fault_of heal_app words ≡ [] → IfErr r (λ f. IsForMemory f ⊎ IsUsageFault words f)
without_task words (Some t) r is none = rw is tt
without_task words None r is none = rw is (inr none)

pub returns-clause-usage : goal.returns-clause-usage
returns-clause-usage g c =
    let words = map g.S.AsStr.text c.args.words.now in
    let app_is = c.in_ok-heal.ensures in
    let none = c.in_ok-matches.ensures.kinds (ap is_simple_and_free app_is ∙ is_free_heal) in
    without_task words c.task_of.result c.ok_or.result c.ok_or.ensures.value
    (ap (λ a. fault_of a words) (sym app_is) ∙ none)

refused_by : (words : List Text) (error : Error) (result : Result Task CommandFault)
    → IsErrAnd result (λ f. f ≡ Parse error) → HasKind (fault_of heal_app words) error
    → IfErr result (λ f. IsForMemory f ⊎ IsUsageFault words f)
refused_by words error (Ok task) is kind = tt
refused_by words error (Err fault) is kind = rw is kind

pub returns-in_err-matches-clause-usage : goal.returns-in_err-matches-clause-usage
returns-in_err-matches-clause-usage g c =
    let words = map g.S.AsStr.text c.args.words.now in
    let app_is = c.in_ok-heal.ensures in
    let kinds = c.in_err-matches.ensures.kinds (ap is_simple_and_free app_is ∙ is_free_heal) in
    refused_by words c.in_err-matches.field-0.0 c.from_residual-in_err-matches.result
    c.from_residual-in_err-matches.ensures.1
    (subst (λ a. HasKind (fault_of a words) c.in_err-matches.field-0.0) app_is kinds)
