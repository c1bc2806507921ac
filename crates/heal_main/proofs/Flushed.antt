-- What was carried out stays so where the writer hands on what it gathered, and where it can't.
use Rattle.std.proofs.Common.{◌≡◌, ◌∙◌, ◌⊎◌, inl, inr, ℕ, List, ◌++◌, length, take, Option, Some, None, refl, sym, subst}
use Rattle.std.proofs.Math.Seq.{take-length}
use Rattle.std.specs.Io.KnownBytes.{Appends, Keeps}
use Rattle.device.specs.Sending.{AppendsFront}
use Rattle.questions.specs.declared.question.Question.{Question}
use Rattle.command_line.specs.declared.task.Task.{Task}
use Rattle.command_line.specs.declared.task.Task.TheVariants as task
use Rattle.questions.specs.declared.printing.Answer.{Answer}
use Rattle.questions.specs.Lines.{IsDigitsReply, IsListing, IsReply, IsStarved, IsTerse, Prints, by_digits, no_memory, no_room, replied, starved, terse, without}
use Rattle.scripts.specs.Replies as said
use Rattle.scripts.specs.Runs.{IsScriptRun, Ending, Writes}
use Rattle.heal_main.specs.Obeying.{Obeys, RunsFile, ran, unopened}

appends_kept : (a b c : Option (List ℕ)) (text : List ℕ) → Appends a b text → Keeps b c → Appends a c text
appends_kept None b c text h k = tt
appends_kept (Some xs) None c text h k = absurd h
appends_kept (Some xs) (Some ys) None text h k = absurd k
appends_kept (Some xs) (Some ys) (Some zs) text h k = k ∙ h

front_kept : (a b c : Option (List ℕ)) (text : List ℕ) → AppendsFront a b text → Keeps b c → AppendsFront a c text
front_kept a b c text h k = (h.0, appends_kept a b c (take h.0 text) h.1 k)

whole_front : (a b c : Option (List ℕ)) (text : List ℕ) → Appends a b text → Keeps b c → AppendsFront a c text
whole_front a b c text h k =
    (length text, subst (λ t. Appends a c t) (sym (take-length text)) (appends_kept a b c text h k))

module _ (old mid new told_old told_new : Option (List ℕ)) (status : ℕ) (k : Keeps mid new) where
  prints_kept : (text : List ℕ) (due : ℕ) → Prints old mid text due status → Prints old new text due status
  prints_kept text due (inl h) = inl (appends_kept old mid new _ h.0 k, h.1)
  prints_kept text due (inr h) = inr (front_kept old mid new _ h.0 k, h.1)

  prints_cut : (text : List ℕ) (due : ℕ) → Prints old mid text due status → Prints old new text due 3
  prints_cut text due (inl h) = inr (whole_front old mid new _ h.0 k, refl)
  prints_cut text due (inr h) = inr (front_kept old mid new _ h.0 k, refl)

  starved_kept : IsStarved old mid told_old told_new status → IsStarved old new told_old told_new status
  starved_kept s = record { status_is = s.status_is; prints = front_kept old mid new _ s.prints k; told = s.told }

  starved_cut : IsStarved old mid told_old told_new status → IsStarved old new told_old told_new 3
  starved_cut s = record { status_is = refl; prints = front_kept old mid new _ s.prints k; told = s.told }

  digits_kept : (question : Question) → IsDigitsReply question old mid told_old told_new status
      → IsDigitsReply question old new told_old told_new status
  digits_kept question (replied said is h e) = replied said is (prints_kept _ _ h) e
  digits_kept question (no_memory s) = no_memory (starved_kept s)

  digits_cut : (question : Question) → IsDigitsReply question old mid told_old told_new status
      → IsDigitsReply question old new told_old told_new 3
  digits_cut question (replied said is h e) = replied said is (prints_cut _ _ h) e
  digits_cut question (no_memory s) = no_memory (starved_cut s)

  terse_kept : (said : Answer) → IsTerse said old mid told_old told_new status
      → IsTerse said old new told_old told_new status
  terse_kept said (terse words is h e) = terse words is (prints_kept _ _ h) e
  terse_kept said (no_room s) = no_room (starved_kept s)

  terse_cut : (said : Answer) → IsTerse said old mid told_old told_new status
      → IsTerse said old new told_old told_new 3
  terse_cut said (terse words is h e) = terse words is (prints_cut _ _ h) e
  terse_cut said (no_room s) = no_room (starved_cut s)

  reply_kept : (question : Question) → IsReply question old mid told_old told_new status
      → IsReply question old new told_old told_new status
  reply_kept question (by_digits asked is h) = by_digits asked is (digits_kept asked h)
  reply_kept question (without said some is h) = without said some is (terse_kept said h)
  reply_kept question (starved s) = starved (starved_kept s)

  reply_cut : (question : Question) → IsReply question old mid told_old told_new status
      → IsReply question old new told_old told_new 3
  reply_cut question (by_digits asked is h) = by_digits asked is (digits_cut asked h)
  reply_cut question (without said some is h) = without said some is (terse_cut said h)
  reply_cut question (starved s) = starved (starved_cut s)

  listing_kept : IsListing old mid status → IsListing old new status
  listing_kept (inl h) = inl (prints_kept _ _ h)
  listing_kept (inr h) = inr (h.0, front_kept old mid new _ h.1 k)

  listing_cut : IsListing old mid status → IsListing old new 3
  listing_cut (inl h) = inl (prints_cut _ _ h)
  listing_cut (inr h) = inr (refl, front_kept old mid new _ h.1 k)

  writes_kept : (ending : Ending) (answers : List said.Answer) → Writes ending answers old mid status
      → Writes ending answers old new status
  writes_kept ending answers (inl h) = inl (h.0, appends_kept old mid new _ h.1 k, h.2)
  writes_kept ending answers (inr h) = inr (front_kept old mid new _ h.0 k, h.1)

  writes_cut : (ending : Ending) (answers : List said.Answer) → Writes ending answers old mid status
      → Writes ending answers old new 3
  writes_cut ending answers (inl h) = inr (whole_front old mid new _ h.1 k, refl)
  writes_cut ending answers (inr h) = inr (front_kept old mid new _ h.0 k, refl)

  run_by : (limit : ℕ) (read_old read_new : Option (List ℕ)) (after : ℕ)
      (h : IsScriptRun limit read_old read_new old mid status)
      → Writes h.ending h.answers old new after → IsScriptRun limit read_old read_new old new after
  run_by limit read_old read_new after h writes = record {
    ending = h.ending;
    front = h.front;
    rest = h.rest;
    answers = h.answers;
    final = h.final;
    reads = h.reads;
    reaches = h.reaches;
    run = h.run;
    writes = writes;
  }

  file_kept : (limit : ℕ) → RunsFile limit old mid status → RunsFile limit old new status
  file_kept limit (ran read_old read_new h) =
      ran read_old read_new (run_by limit read_old read_new status h (writes_kept h.ending h.answers h.writes))
  file_kept limit (unopened (inl front) three) = unopened (inl (front_kept old mid new _ front k)) three
  file_kept limit (unopened (inr front) three) = unopened (inr (front_kept old mid new _ front k)) three

  file_cut : (limit : ℕ) → RunsFile limit old mid status → RunsFile limit old new 3
  file_cut limit (ran read_old read_new h) =
      ran read_old read_new (run_by limit read_old read_new 3 h (writes_cut h.ending h.answers h.writes))
  file_cut limit (unopened (inl front) three) = unopened (inl (front_kept old mid new _ front k)) refl
  file_cut limit (unopened (inr front) three) = unopened (inr (front_kept old mid new _ front k)) refl

  pub obeyed_kept : (task : Task) → Obeys task old mid told_old told_new status
      → Obeys task old new told_old told_new status
  obeyed_kept (task.Answer question) h = reply_kept question h
  obeyed_kept (task.Run file workers names explain) h = file_kept names.count h
  obeyed_kept task.Version h = prints_kept _ _ h
  obeyed_kept task.Refusals h = listing_kept h

  pub obeyed_cut : (task : Task) → Obeys task old mid told_old told_new status
      → Obeys task old new told_old told_new 3
  obeyed_cut (task.Answer question) h = reply_cut question h
  obeyed_cut (task.Run file workers names explain) h = file_cut names.count h
  obeyed_cut task.Version h = prints_cut _ _ h
  obeyed_cut task.Refusals h = listing_cut h
