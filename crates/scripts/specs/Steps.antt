-- The effect of a line, and its answer.
use Rattle.std.specs.Prelude.{◌≡◌, ◌⊎◌, ℕ, ◌+◌, Bool, true, false, not, ◌&&◌, List, [], ◌∷◌, ◌++◌, length, Option, Some, None, MatchOption, is_none, Result, Ok, Err}
use Rattle.std.specs.Bool.{MatchBool}
use Rattle.std.specs.Option.{option_map}
use Rattle.std.specs.List.{list_any}
use Rattle.std.specs.FinMap.{get}
use Rattle.refusals.specs.declared.place.Place.{Place}
use Rattle.hex.specs.Hex.{decode_of}
use Rattle.code_file.specs.Files.{IsFileCode, IsFileFault, file_named, file_fault_number, file_fault_place}
use Rattle.code_file.specs.declared.fault.FileFault.{FileFault}
use Rattle.code_file.specs.declared.fault.FileFault.TheVariants.{Unreadable}
use Rattle.clash_record.specs.Name.{is_name}
use Rattle.clash_record.specs.Registrations.{registration_on}
use Rattle.clash_record.specs.declared.registrations.ProgramId.{ProgramId}
use Rattle.clash_record.specs.declared.registrations.Registration.{Registration}
use Rattle.clash_record.specs.declared.registrations.ResolverId.{ResolverId}
use Rattle.upload_store.specs.Uploads.{IsKept, IsUploadFault}
use Rattle.upload_store.specs.Faults.{upload_fault_number, upload_fault_place}
use Rattle.upload_store.specs.declared.fault.UploadFault.{UploadFault}
use Rattle.clash_record.specs.Name.{Name}
use Rattle.partition_table.specs.Tables.{row_for, rows_of}
use Rattle.clash_record.specs.declared.side_id.SideId.{SideId}
use Rattle.exchange_core.specs.declared.fault.SideFault.{SideFault}
use Rattle.exchange_core.specs.Faults.{side_fault_number}
use Rattle.exchange_law.specs.Calls.{Call, Register, Unregister, carried_out}
use Rattle.exchange_law.specs.Sides.{Side, shown_table}
use Rattle.exchange_core.specs.Refusals.{register_fault, unregister_fault}
use Rattle.clash_record.specs.declared.registrations.Terms.{Terms}
use Rattle.clash_record.specs.declared.halves.Uptimes.{Uptimes}
use Rattle.clash_record.specs.declared.halves.Withdrawal.{Withdrawal}
use Rattle.script_text.specs.declared.fault.LineFault.{LineFault}
use Rattle.script_text.specs.Faults.{script_fault_number}
use Rattle.script_text.specs.Asking.{Asked, Upload, Register, Unregister, Whereis, Show, Heal, asked_of, takes_memory}
use Rattle.script_text.specs.Lines.{Line, Short, Long}
use Rattle.cluster.specs.Causes.{IsCause, IsEarly, ShowAsBefore}
use Rattle.cluster.specs.Clusters.{AreFresh, at, with_standing, is_full_at}
use Rattle.cluster.specs.Healing.{Plan, HealsSplit, IsFailed}
use Rattle.cluster.specs.Healings.{Healing}
use Rattle.cluster.specs.Faults.{heal_fault_number}
use Rattle.cluster.specs.declared.fault.HealFault.{HealFault}
use Rattle.scripts.specs.declared.labels.Label.{Label}
use Rattle.scripts.specs.declared.reply.Reply.{Reply}
use Rattle.scripts.specs.declared.reply.Reply.TheVariants.{Silent, Uploaded, Registered, Unregistered, Owned, Undefined, Refused}
use Rattle.clash_record.specs.Texts.{builtin_of}
use Rattle.scripts.specs.Machines.{ScriptMachine, labelled, resolver_named}
use Rattle.scripts.specs.Replies.{Answer, Says, Shows, Heals}

-- the line is refused, and nothing changes
abbrev pub Refuses : ℕ → Option Place → ScriptMachine → Reply → ScriptMachine → Type 0
Refuses number place old reply new =
    (reply ≡ Refused (record { number = number; place = place })) × (new ≡ old)

-- so, unless the line is refused when out of memory
abbrev pub UnlessMemory : (Reply → ScriptMachine → Type 0) → ScriptMachine → Reply → ScriptMachine → Type 0
UnlessMemory Is old reply new = Is reply new ⊎ Refuses 90 None old reply new

-- ---- uploads

-- no word that is in use already is a label, and neither are those for the resolvers that are built in
abbrev pub is_free : List Label → List ℕ → Bool
is_free labels word = is_name word && (is_none (builtin_of word) && not (list_any (labelled word) labels))

-- the store takes the bytes over, under their id, and the label names it
pub record Uploads (old : ScriptMachine) (word bytes : List ℕ) (reply : Reply) (new : ScriptMachine) : Type 0 where
  pub id : ProgramId
  pub kept : IsKept old.programs bytes id new.programs
  pub said : reply ≡ Uploaded word (length kept.code)
  pub labels : new.labels ≡ old.labels ++ record { text = word; program = id } ∷ []
  pub cluster : new.cluster ≡ old.cluster
  pub latest : new.latest ≡ old.latest

-- the store refuses them
pub record UploadRefused (old : ScriptMachine) (bytes : List ℕ) (reply : Reply) (new : ScriptMachine) : Type 0 where
  pub fault : UploadFault
  pub cause : IsUploadFault old.programs bytes fault
  pub refused : Refuses (upload_fault_number fault) (upload_fault_place fault) old reply new

abbrev pub UploadsBytes : ScriptMachine → List ℕ → List ℕ → Reply → ScriptMachine → Type 0
UploadsBytes old word bytes reply new = Uploads old word bytes reply new ⊎ UploadRefused old bytes reply new

abbrev pub UploadsHex : {E : Type 0} → ScriptMachine → List ℕ → Result (List ℕ) E → Reply → ScriptMachine → Type 0
UploadsHex old word (Ok bytes) reply new = UploadsBytes old word bytes reply new
UploadsHex old word (Err fault) reply new = Refuses 50 None old reply new

-- the label is checked before the code
abbrev pub UploadStep : ScriptMachine → List ℕ → List ℕ → Reply → ScriptMachine → Type 0
UploadStep old label code reply new =
    MatchBool (is_free old.labels label) (UploadsHex old label (decode_of code) reply new)
    (Refuses 53 None old reply new)

-- the line is refused for its file, and nothing changes
abbrev pub RefusesFile : FileFault → ScriptMachine → Reply → ScriptMachine → Type 0
RefusesFile fault old reply new = Refuses (file_fault_number fault) (file_fault_place fault) old reply new

-- a file, whose content is known only by reading it, is uploaded as the digits of its code are; or it has no code; or it
-- can't be read. The label is checked before the file
pub data UploadsFile (old : ScriptMachine) (label : List ℕ) (reply : Reply) (new : ScriptMachine) : Type 0 where
  bad_label : is_free old.labels label ≡ false → Refuses 53 None old reply new → UploadsFile old label reply new
  by_digits : (content digits : List ℕ) → IsFileCode content digits → UploadStep old label digits reply new
      → UploadsFile old label reply new
  no_file_code : (content : List ℕ) → (fault : FileFault) → is_free old.labels label ≡ true → IsFileFault content fault
      → RefusesFile fault old reply new → UploadsFile old label reply new
  no_file : is_free old.labels label ≡ true → RefusesFile Unreadable old reply new → UploadsFile old label reply new

-- the word for a program is `@` and a file, or hex digits
abbrev pub UploadsWord : ScriptMachine → List ℕ → List ℕ → Reply → ScriptMachine → Type 0
UploadsWord old label word reply new =
    MatchOption (file_named word) (UploadStep old label word reply new) (λ file. UploadsFile old label reply new)

-- ---- edits

-- the same machine with this side, after this call
abbrev pub machine_after : ScriptMachine → SideId → Call → Side → ScriptMachine
machine_after machine id call side = record machine {
  cluster = with_standing machine.cluster id (record {
    side = side;
    calls = call ∷ (at machine.cluster id).calls;
    limit = (at machine.cluster id).limit;
  });
}

-- an edit is refused where a refusal is due, and else carried out
abbrev pub Edits : ScriptMachine → SideId → Call → Option SideFault → Option Side → Reply → Reply → ScriptMachine → Type 0
Edits old id call (Some fault) after done reply new = Refuses (side_fault_number fault) None old reply new
Edits old id call None (Some side) done reply new = (reply ≡ done) × (new ≡ machine_after old id call side)
Edits old id call None None done reply new = ⊥

abbrev pub RegistersOnSide : ScriptMachine → SideId → Name → Registration → Reply → ScriptMachine → Type 0
RegistersOnSide old id name registration reply new =
    let standing = at old.cluster id in
    let call : Call = Register name (row_for old.programs registration) in
    Edits old id call
    (register_fault standing.limit (is_full_at standing) standing.side name registration old.programs)
    (carried_out standing.side call) Registered reply new

-- the word for the resolver is checked before the call
abbrev pub RegisterStep : ScriptMachine → SideId → Name → Terms → Option ResolverId → Reply → ScriptMachine → Type 0
RegisterStep old id name terms (Some resolver) reply new =
    RegistersOnSide old id name (registration_on terms resolver) reply new
RegisterStep old id name terms None reply new = Refuses 41 None old reply new

abbrev pub UnregisterStep : ScriptMachine → SideId → Name → Reply → ScriptMachine → Type 0
UnregisterStep old id name reply new =
    let standing = at old.cluster id in
    Edits old id (Unregister name) (unregister_fault (is_full_at standing) standing.side name)
    (carried_out standing.side (Unregister name))
    Unregistered reply new

-- ---- questions

-- the answer about a registered name
abbrev pub owned : Option Registration → Reply
owned (Some registration) = Owned registration.owner
owned None = Undefined

-- of the table that a side shows: without the names that it withdrew while its exchange is open
abbrev pub whereis_reply : ScriptMachine → SideId → Name → Reply
whereis_reply machine id name =
    owned (option_map (λ row. row.registration) (get (shown_table (at machine.cluster id).side) name))

-- ---- healing

abbrev pub plan_for : ScriptMachine → ℕ → Uptimes → List Withdrawal → Plan
plan_for old seed uptimes gone =
    record { number = old.latest + 1; seed = seed; uptimes = uptimes; gone = gone }

-- nothing but the halves changes, and the number is used
pub record HasHealed (old new : ScriptMachine) : Type 0 where
  pub labels : new.labels ≡ old.labels
  pub programs : new.programs ≡ old.programs
  pub latest : new.latest ≡ old.latest + 1

-- the exchange failed, with a fault that has its cause in the halves before it, or with 39, 40 or 90. 35, 37 and 42 change
-- no table
pub record HealRefused (plan : Plan) (old : ScriptMachine) (reply : Reply) (new : ScriptMachine) : Type 0 where
  pub fault : HealFault
  pub said : reply ≡ Refused (record { number = heal_fault_number fault; place = None })
  pub cause : IsCause plan old.cluster fault
  pub failed : IsFailed plan old.cluster new.cluster
  pub early : IsEarly fault → ShowAsBefore old.cluster new.cluster
  pub healed : HasHealed old new

pub record HealsAs (plan : Plan) (old : ScriptMachine) (healing : Healing) (new : ScriptMachine) : Type 0 where
  pub is_healed : HealsSplit plan old.cluster new.cluster healing
  pub healed : HasHealed old new

-- ---- lines

-- a reply to a request. A line may be refused when out of memory, and then nothing changes
abbrev pub Replies : ScriptMachine → Asked → Reply → ScriptMachine → Type 0
Replies old (Upload label code) reply new = UploadsWord old label code reply new
Replies old (Register id name terms resolver) reply new =
    RegisterStep old id name terms (resolver_named old.labels resolver) reply new
Replies old (Unregister id name) reply new = UnregisterStep old id name reply new
Replies old (Whereis id name) reply new = (reply ≡ whereis_reply old id name) × (new ≡ old)
Replies old (Show id) reply new = ⊥
Replies old (Heal seed uptimes gone) reply new = HealRefused (plan_for old seed uptimes gone) old reply new

abbrev pub Answers : ScriptMachine → Asked → Answer → ScriptMachine → Type 0
Answers old asked (Says reply) new = UnlessMemory (Replies old asked) old reply new
Answers old (Show id) (Shows labels rows) new =
    (labels ≡ old.labels) × (rows ≡ rows_of (shown_table (at old.cluster id).side)) × (new ≡ old)
Answers old (Heal seed uptimes gone) (Heals healing) new =
    HealsAs (plan_for old seed uptimes gone) old healing new
Answers old asked answer new = ⊥

-- an invalid line is refused for its fault, also when out of memory, unless its words take memory
abbrev pub RefusesText : Bool → LineFault → ScriptMachine → Reply → ScriptMachine → Type 0
RefusesText takes fault old reply new =
    let Due = Refuses (script_fault_number fault) None old in
    MatchBool takes (UnlessMemory Due old reply new) (Due reply new)

-- a blank line and a comment have an empty answer, also when out of memory
abbrev pub AnswersText : ScriptMachine → Bool → Result (Option Asked) LineFault → Answer → ScriptMachine → Type 0
AnswersText old takes (Ok (Some asked)) answer new = Answers old asked answer new
AnswersText old takes (Ok None) (Says reply) new = (reply ≡ Silent) × (new ≡ old)
AnswersText old takes (Ok None) answer new = ⊥
AnswersText old takes (Err fault) (Says reply) new = RefusesText takes fault old reply new
AnswersText old takes (Err fault) answer new = ⊥

-- a line has this answer, and leaves new. A line that is too long is refused for any contents
abbrev pub AnswersLine : ScriptMachine → Line → Answer → ScriptMachine → Type 0
AnswersLine old (Short text) answer new = AnswersText old (takes_memory text) (asked_of text) answer new
AnswersLine old Long (Says reply) new = Refuses 54 None old reply new
AnswersLine old Long answer new = ⊥

-- the journals of idle halves that were more than half full are renewed, and nothing else changed
pub record IsRenewedMachine (old new : ScriptMachine) : Type 0 where
  pub labels : new.labels ≡ old.labels
  pub programs : new.programs ≡ old.programs
  pub cluster : AreFresh old.cluster new.cluster
  pub latest : new.latest ≡ old.latest

-- long journals are renewed before each line
pub record Step (old : ScriptMachine) (line : Line) (answer : Answer) (new : ScriptMachine) : Type 0 where
  pub fresh : ScriptMachine
  pub renewed : IsRenewedMachine old fresh
  pub answered : AnswersLine fresh line answer new
