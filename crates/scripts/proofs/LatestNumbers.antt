-- A line uses at most one number of an exchange.
use Rattle.std.proofs.Common.{◌≡◌, ℕ, ◌+◌, ◌≤◌, inl, inr, Bool, true, false, List, Option, Some, None, Result, Ok, Err, ap, arith}
use Rattle.std.specs.Prelude.{MatchOption}
use Rattle.std.specs.Bool.{MatchBool}
use Rattle.hex.specs.Hex.{decode_of}
use Rattle.code_file.specs.Files.{file_named}
use Rattle.clash_record.specs.declared.side_id.SideId.{SideId}
use Rattle.exchange_core.specs.declared.fault.SideFault.{SideFault}
use Rattle.exchange_law.specs.Calls.{Call}
use Rattle.exchange_law.specs.Sides.{Side}
use Rattle.clash_record.specs.declared.registrations.ResolverId.{ResolverId}
use Rattle.clash_record.specs.declared.registrations.Terms.{Terms}
use Rattle.script_text.specs.declared.fault.LineFault.{LineFault}
use Rattle.script_text.specs.Asking.{Asked, Upload, Register, Unregister, Whereis, Show, Heal, asked_of, takes_memory}
use Rattle.script_text.specs.Lines.{Line, Short, Long}
use Rattle.scripts.specs.declared.reply.Reply.{Reply}
use Rattle.scripts.specs.Machines.{ScriptMachine, resolver_named}
use Rattle.scripts.specs.Replies.{Answer, Says, Shows, Heals}
use Rattle.scripts.specs.Steps.{Step, AnswersLine, AnswersText, Answers, Replies, Refuses, Edits, RegisterStep, UploadStep, UploadsFile, UploadsHex, bad_label, by_digits, no_file_code, no_file, is_free}

stays : (old new : ScriptMachine) → new ≡ old → new.latest ≤ old.latest + 1
stays old new same = omega (arith, ap (λ (m : ScriptMachine). m.latest) same)

edited : (old : ScriptMachine) (id : SideId) (call : Call) (fault : Option SideFault) (after : Option Side) (done reply : Reply)
    (new : ScriptMachine) → Edits old id call fault after done reply new → new.latest ≤ old.latest + 1
edited old id call (Some fault) after done reply new h = stays old new h.1
edited old id call None (Some side) done reply new h = omega (arith, ap (λ (m : ScriptMachine). m.latest) h.1)
edited old id call None None done reply new h = absurd h

registered : (old : ScriptMachine) (id : SideId) (name : List ℕ) (terms : Terms) (resolver : Option ResolverId)
    (reply : Reply) (new : ScriptMachine) → RegisterStep old id name terms resolver reply new → new.latest ≤ old.latest + 1
registered old id name terms (Some resolver) reply new h = edited old id _ _ _ _ reply new h
registered old id name terms None reply new h = stays old new h.1

uploaded : {E : Type 0} (old : ScriptMachine) (word : List ℕ) (bytes : Result (List ℕ) E) (reply : Reply) (new : ScriptMachine)
    → UploadsHex old word bytes reply new → new.latest ≤ old.latest + 1
uploaded old word (Ok bytes) reply new (inl h) = omega (arith, h.latest)
uploaded old word (Ok bytes) reply new (inr h) = stays old new h.refused.1
uploaded old word (Err fault) reply new h = stays old new h.1

upload_step : (old : ScriptMachine) (label code : List ℕ) (free : Bool) (reply : Reply) (new : ScriptMachine)
    → MatchBool free (UploadsHex old label (decode_of code) reply new) (Refuses 53 None old reply new)
    → new.latest ≤ old.latest + 1
upload_step old label code true reply new h = uploaded old label (decode_of code) reply new h
upload_step old label code false reply new h = stays old new h.1

uploaded_from_file : (old : ScriptMachine) (label : List ℕ) (reply : Reply) (new : ScriptMachine) → UploadsFile old label reply new
    → new.latest ≤ old.latest + 1
uploaded_from_file old label reply new (bad_label taken h) = stays old new h.1
uploaded_from_file old label reply new (by_digits content digits is_code h) =
    upload_step old label digits (is_free old.labels label) reply new h
uploaded_from_file old label reply new (no_file_code content fault free wrong h) = stays old new h.1
uploaded_from_file old label reply new (no_file free h) = stays old new h.1

uploaded_word : (old : ScriptMachine) (label word : List ℕ) (file : Option (List ℕ)) (reply : Reply) (new : ScriptMachine)
    → MatchOption file (UploadStep old label word reply new) (λ file. UploadsFile old label reply new)
    → new.latest ≤ old.latest + 1
uploaded_word old label word (Some file) reply new h = uploaded_from_file old label reply new h
uploaded_word old label word None reply new h = upload_step old label word (is_free old.labels label) reply new h

replied : (old : ScriptMachine) (asked : Asked) (reply : Reply) (new : ScriptMachine) → Replies old asked reply new
    → new.latest ≤ old.latest + 1
replied old (Upload label code) reply new h = uploaded_word old label code (file_named code) reply new h
replied old (Register id name terms resolver) reply new h =
    registered old id name terms (resolver_named old.labels resolver) reply new h
replied old (Unregister id name) reply new h = edited old id _ _ _ _ reply new h
replied old (Whereis id name) reply new h = stays old new h.1
replied old (Show id) reply new h = absurd h
replied old (Heal seed uptimes gone) reply new h = omega (arith, h.healed.latest)

answered : (old : ScriptMachine) (asked : Asked) (answer : Answer) (new : ScriptMachine) → Answers old asked answer new
    → new.latest ≤ old.latest + 1
answered old asked (Says reply) new (inl h) = replied old asked reply new h
answered old asked (Says reply) new (inr h) = stays old new h.1
answered old (Show id) (Shows labels rows) new h = stays old new h.2
answered old (Heal seed uptimes gone) (Heals healing) new h = omega (arith, h.healed.latest)
answered old (Upload label code) (Shows labels rows) new h = absurd h
answered old (Register id name terms resolver) (Shows labels rows) new h = absurd h
answered old (Unregister id name) (Shows labels rows) new h = absurd h
answered old (Whereis id name) (Shows labels rows) new h = absurd h
answered old (Heal seed uptimes gone) (Shows labels rows) new h = absurd h
answered old (Upload label code) (Heals healing) new h = absurd h
answered old (Register id name terms resolver) (Heals healing) new h = absurd h
answered old (Unregister id name) (Heals healing) new h = absurd h
answered old (Whereis id name) (Heals healing) new h = absurd h
answered old (Show id) (Heals healing) new h = absurd h

text_answered : (old : ScriptMachine) (takes : Bool) (asked : Result (Option Asked) LineFault) (answer : Answer)
    (new : ScriptMachine) → AnswersText old takes asked answer new → new.latest ≤ old.latest + 1
text_answered old takes (Ok (Some asked)) answer new h = answered old asked answer new h
text_answered old takes (Ok None) (Says reply) new h = stays old new h.1
text_answered old takes (Ok None) (Shows labels rows) new h = absurd h
text_answered old takes (Ok None) (Heals healing) new h = absurd h
text_answered old true (Err fault) (Says reply) new (inl h) = stays old new h.1
text_answered old true (Err fault) (Says reply) new (inr h) = stays old new h.1
text_answered old false (Err fault) (Says reply) new h = stays old new h.1
text_answered old takes (Err fault) (Shows labels rows) new h = absurd h
text_answered old takes (Err fault) (Heals healing) new h = absurd h

line_answered : (old : ScriptMachine) (line : Line) (answer : Answer) (new : ScriptMachine) → AnswersLine old line answer new
    → new.latest ≤ old.latest + 1
line_answered old (Short text) answer new h = text_answered old (takes_memory text) (asked_of text) answer new h
line_answered old Long (Says reply) new h = stays old new h.1
line_answered old Long (Shows labels rows) new h = absurd h
line_answered old Long (Heals healing) new h = absurd h

-- after a line the number of the latest exchange is at most one more than before
pub latest_after : (old : ScriptMachine) (line : Line) (answer : Answer) (new : ScriptMachine) → Step old line answer new
    → new.latest ≤ old.latest + 1
latest_after old line answer new step =
    let most = line_answered step.fresh line answer new step.answered in
    let same = step.renewed.latest in
    omega (arith, most, same)
