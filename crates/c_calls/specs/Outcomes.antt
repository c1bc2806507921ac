-- The outcome of a finished exchange.
use Rattle.std.specs.Prelude.{◌≡◌, ℕ, Bool, true, false, List, [], length, map, Option, is_some, Result, slice_get, if◌then◌else◌}
use Rattle.std.specs.Option.{option_map, option_map_or, option_and_then, ok_or}
use Rattle.std.specs.FinMap.{get, len}
use Rattle.std.specs.Arc.{arc_value}
use Rattle.clash_record.specs.declared.side_id.SideId.{SideId}
use Rattle.clash_record.specs.declared.side_id.SideId.TheVariants.{A, B}
use Rattle.clash_record.specs.declared.registrations.ResolverId.{ResolverId}
use Rattle.clash_record.specs.declared.registrations.ResolverId.TheVariants.{Builtin, Program}
use Rattle.builtin_resolvers.specs.declared.notice.Notice.{Notice}
use Rattle.builtin_resolvers.specs.Telling.{notices_of}
use Rattle.builtin_resolvers.specs.declared.verdicts.Verdict3.{Verdict3}
use Rattle.builtin_resolvers.specs.declared.verdicts.Verdict3.TheVariants.{First, Second, Neither}
use Rattle.partition_table.specs.Tables.{Clash, Gone, has_first}
use Rattle.partition_table.specs.declared.judged.Judged.{Judged}
use Rattle.clash_record.specs.Name.{Name}
use Rattle.exchange_core.specs.Finished.{Finished, clashes_merged}
use Rattle.exchange_law.specs.Sides.{Side, withdrawn_by}
use Rattle.c_calls.specs.declared.codes.HealClash.{HealClash}
use Rattle.c_calls.specs.declared.codes.HealName.{HealName}
use Rattle.c_calls.specs.declared.codes.HealNotice.{HealNotice}
use Rattle.c_calls.specs.declared.outcome.Mark.{Mark}
use Rattle.c_calls.specs.declared.outcome.Outcome.{Outcome}
use Rattle.c_calls.specs.Answers.{and_then}
use Rattle.c_calls.specs.Sides.{side_id}
use Rattle.c_calls.specs.Codes.{name_code, registration_code, side_code, verdict_code, notice_code}

-- the merged table has the name of a clash
abbrev pub is_kept : Finished → Clash → Bool
is_kept f clash = is_some (get f.table clash.name)

-- the verdict has a winner
abbrev pub has_winner : Verdict3 → Bool
has_winner First = true
has_winner Second = true
has_winner Neither = false

abbrev pub clashes_in : Outcome → List Clash
clashes_in outcome = arc_value outcome.clashes

-- the exchange's number, the number of names of the merged table, and each clash with its ruling, whether the merged table
-- has its name, and whether half A registered the first of the two
pub record IsOutcome (f : Finished) (outcome : Outcome) : Type 0 where
  pub number : outcome.number ≡ f.number
  pub merged : outcome.merged ≡ len f.table
  pub clashes : clashes_in outcome ≡ clashes_merged f
  pub rulings : outcome.rulings.items ≡ f.rulings
  pub kept : outcome.kept.items ≡ map (is_kept f) (clashes_merged f)
  pub of_a : outcome.of_a.items ≡ map (has_first f.a) (clashes_merged f)
  pub gone_a : outcome.gone_a.items ≡ f.gone.of_a
  pub gone_b : outcome.gone_b.items ≡ f.gone.of_b

-- the names that the two sides withdrew in an open exchange
abbrev pub gone_for : SideId → List Name → List Name → Gone
gone_for A own theirs = record { of_a = own; of_b = theirs }
gone_for B own theirs = record { of_a = theirs; of_b = own }

abbrev pub theirs_of : Side → List Name
theirs_of side = option_map_or (λ names. names) (option_and_then (λ exchange. exchange.their_list) side.exchange) []

abbrev pub gone_from_both : Side → Gone
gone_from_both side = gone_for side.id (withdrawn_by side) (theirs_of side)

-- these clashes and withdrawn names, and a place for whether the merged table has the name of each clash
pub record IsRoomFor (list : List Clash) (gone : Gone) (outcome : Outcome) : Type 0 where
  pub gone_a : outcome.gone_a.items ≡ gone.of_a
  pub gone_b : outcome.gone_b.items ≡ gone.of_b
  pub clashes : clashes_in outcome ≡ list
  pub kept : length outcome.kept.items ≡ length list

-- the notices of a verdict; a program's verdict brings none
abbrev pub notices_by : ResolverId → Clash → Verdict3 → List Notice
notices_by (Builtin builtin) clash verdict = notices_of builtin clash.name clash.first.owner clash.second.owner verdict
notices_by (Program id) clash verdict = []

-- who keeps the name: the winner, unless it was withdrawn
abbrev pub name_keeper : Bool → Verdict3 → Verdict3
name_keeper kept verdict = if kept then verdict else Neither

-- a winner keeps the name
abbrev pub wins : Verdict3 → Bool → Bool
wins First kept = kept
wins Second kept = kept
wins Neither kept = true

-- the notices to deliver: none if the winner was withdrawn
abbrev pub notices_to : Clash → Verdict3 → Bool → List Notice
notices_to clash verdict kept = if wins verdict kept then notices_by clash.first.resolver clash verdict else []

abbrev pub mark_from : Bool → Bool → Mark
mark_from kept of_a = record { kept = kept; of_a = of_a }

-- the ruling and the mark of clash i
abbrev pub marked_ruling : Outcome → ℕ → Option (Judged × Mark)
marked_ruling outcome i = option_and_then (λ judged. option_and_then (λ kept.
    option_map (λ of_a. (judged, mark_from kept of_a))
    (slice_get outcome.of_a.items i)) (slice_get outcome.kept.items i)) (slice_get outcome.rulings.items i)

-- clash i with its ruling and its mark
abbrev pub judged_at : Outcome → ℕ → Option (Clash × (Judged × Mark))
judged_at outcome i =
    option_and_then (λ clash. option_map (λ ruling. (clash, ruling)) (marked_ruling outcome i))
    (slice_get (clashes_in outcome) i)

-- the half that registered the first of the two
abbrev pub half_of_first : Mark → SideId
half_of_first mark = if mark.of_a then A else B

abbrev pub clash_code : Clash × (Judged × Mark) → HealClash
clash_code x = record {
  name = name_code x.0.name;
  first = registration_code x.0.first;
  second = registration_code x.0.second;
  word = x.1.0.word;
  verdict = verdict_code x.1.0.answer;
  keeps = verdict_code (name_keeper x.1.1.kept x.1.0.answer);
  first_half = side_code (half_of_first x.1.1);
  notices = length (notices_to x.0 x.1.0.answer x.1.1.kept);
  reserved = 0;
}

-- clash i, or 92
abbrev pub clash_code_at : Outcome → ℕ → Result HealClash ℕ
clash_code_at outcome i = ok_or (option_map clash_code (judged_at outcome i)) 92

-- notice n of clash i, or 92
abbrev pub notice_at : Outcome → ℕ → ℕ → Result HealNotice ℕ
notice_at outcome i n = ok_or (option_and_then (λ (x : Clash × (Judged × Mark)).
    option_map notice_code (slice_get (notices_to x.0 x.1.0.answer x.1.1.kept) n)) (judged_at outcome i)) 92

-- ---- withdrawn names

abbrev pub gone_names : SideId → Outcome → List Name
gone_names A outcome = outcome.gone_a.items
gone_names B outcome = outcome.gone_b.items

-- name i of those that a half withdrew, or 74 for neither half, or 92
abbrev pub withdrawn_of : ℕ → ℕ → Outcome → Result HealName ℕ
withdrawn_of half i outcome =
    and_then (side_id half) (λ id. ok_or (option_map name_code (slice_get (gone_names id outcome) i)) 92)
