-- Answers that are sent.
use Rattle.std.proofs.Common.{◌≡◌, ◌⊎◌, inl, inr, ℕ, Bool, true, false, List, Option, Some, None, Result, Ok, Err, IfOk, refl, sym, subst}
use Rattle.script_text.specs.declared.fault.LineFault.{LineFault}
use Rattle.script_text.specs.declared.fault.LineFault.TheVariants.{OutOfMemory}
use Rattle.script_text.specs.Asking.{Asked, asked_of, takes_memory}
use Rattle.script_text.specs.Faults.{script_fault_number}
use Rattle.script_text.specs.Lines.{Short}
use Rattle.scripts.specs.declared.reply.Reply.{Reply}
use Rattle.scripts.specs.declared.reply.Reply.TheVariants.{Silent, Refused}
use Rattle.scripts.specs.Machines.{ScriptMachine}
use Rattle.scripts.specs.Replies.{Answer, Says, reply_text, reply_status}
use Rattle.scripts.specs.Steps.{AnswersLine, AnswersText, Refuses, RefusesText}
use Rattle.scripts.specs.model.Progress.{SendsNext, IsSaid}

-- a reply that is sent is an answer
pub said : {E : Type 0} (IsAnswer : Answer → Type 0) (number : ℕ) (old new : Option (List ℕ)) (reply : Reply)
    (result : Result ℕ E) → IsAnswer (Says reply) → SendsNext old new (reply_text number reply) result
    → IfOk result (λ status. status ≡ reply_status reply) → IsSaid IsAnswer number old new result
said IsAnswer number old new reply result is_answer sends status =
    record { answer = Says reply; is_answer = is_answer; sends = sends; status = status }

-- an invalid line is refused for its fault
due : (takes : Bool) (machine : ScriptMachine) (fault : LineFault) (reply : Reply)
    → Refuses (script_fault_number fault) None machine reply machine → RefusesText takes fault machine reply machine
due true machine fault reply h = inl h
due false machine fault reply h = h

-- a line that is neither blank nor a comment, and whose words take memory, may be refused when out of memory
starved : (machine : ScriptMachine) (asked : Result (Option Asked) LineFault) (reply : Reply) → (asked ≡ Ok None → ⊥)
    → Refuses 90 None machine reply machine → AnswersText machine true asked (Says reply) machine
starved machine (Ok (Some asked)) reply some h = inr h
starved machine (Ok None) reply some h = absurd (some refl)
starved machine (Err fault) reply some h = inr h

refused : (takes : Bool) (machine : ScriptMachine) (asked : Result (Option Asked) LineFault) (fault : LineFault)
    (reply : Reply) → (asked ≡ Ok None → ⊥) → (asked ≡ Err fault) ⊎ (fault ≡ OutOfMemory)
    → (takes ≡ false → Err fault ≡ asked) → Refuses (script_fault_number fault) None machine reply machine
    → AnswersText machine takes asked (Says reply) machine
refused takes machine asked fault reply some (inl e) exact told =
    subst (λ asked. AnswersText machine takes asked (Says reply) machine) (sym e) (due takes machine fault reply told)
refused true machine asked fault reply some (inr e) exact told =
    starved machine asked reply some (subst (λ f. Refuses (script_fault_number f) None machine reply machine) e told)
refused false machine asked fault reply some (inr e) exact told =
    subst (λ asked. AnswersText machine false asked (Says reply) machine) (exact refl) told

-- an invalid line is refused
pub fault_told : (machine : ScriptMachine) (text : List ℕ) (fault : LineFault) (reply : Reply)
    → (asked_of text ≡ Ok None → ⊥) → (asked_of text ≡ Err fault) ⊎ (fault ≡ OutOfMemory)
    → (takes_memory text ≡ false → Err fault ≡ asked_of text)
    → reply ≡ Refused (record { number = script_fault_number fault; place = None })
    → AnswersLine machine (Short text) (Says reply) machine
fault_told machine text fault reply some right exact told =
    refused (takes_memory text) machine (asked_of text) fault reply some right exact (told, refl)

-- a blank line or a comment has an empty answer
pub nothing_told : (machine : ScriptMachine) (text : List ℕ) → asked_of text ≡ Ok None
    → AnswersLine machine (Short text) (Says Silent) machine
nothing_told machine text e =
    subst (λ asked. AnswersText machine (takes_memory text) asked (Says Silent) machine) (sym e) (refl, refl)
