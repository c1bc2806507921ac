use Rattle.std.proofs.Common.{◌≡◌, ℕ, ◌-◌, ◌+◌, ◌≤◌, Option, Some, None, length, ap, sym, subst, ◌∙◌, arith}
use Rattle.std.specs.Option.{option_map}
use Rattle.std.specs.Map.{remove_entry}
use Rattle.std.specs.BTreeMap.{is_at}
use Rattle.clash_record.specs.Orders.{name_cmp}
use Rattle.upload_store.specs.laws.Mapped.{ChangesAt}
use Rattle.clash_record.specs.declared.registrations.Registration.{Registration}
use Rattle.clash_record.specs.Name.{Name}
use Rattle.partition_table.specs.declared.shared_rows.SharedRows.{SharedRows}
use Rattle.partition_table.specs.model.Dropping.{undropped}
use Rattle.partition_table.specs.model.Storing.{entries_of, count_set, place_from, rows_shared, marked}
use Rattle.partition_table.proofs.Dropped.{IsDroppedAt, dropped_at, found_at, none_removed, removed_changes}
use Rattle.partition_table.proofs.shared_rows.SharedRows.remove.Goals.{After-mark}
use Rattle.partition_table.proofs.shared_rows.SharedRows.remove.Goals as goal

pub returns-in_default-clause-value : goal.returns-in_default-clause-value
returns-in_default-clause-value c =
    ap (option_map (λ found. found.1)) (sym c.in_default.is ∙ c.find.ensures.found)
    ∙ found_at 0 (is_at (name_cmp c.args.name.now)) c.args.self.now.marks.items (entries_of c.args.self.now.map)

pub returns-in_default-clause-changes : goal.returns-in_default-clause-changes
returns-in_default-clause-changes c =
    let rows = undropped c.args.self.now.marks.items (entries_of c.args.self.now.map) in
    subst (λ left. ChangesAt name_cmp rows left c.args.name.now None)
    (none_removed (is_at (name_cmp c.args.name.now)) rows (sym (returns-in_default-clause-value c)))
    (removed_changes c.args.name.now rows c.find.ensures.ordered)

-- the row that is found is dropped
dropped : (shared : SharedRows) (name : Name) (found : Option (ℕ × Registration)) (place : ℕ) (registration : Registration)
    → found ≡ place_from 0 (is_at (name_cmp name)) shared.marks.items (entries_of shared.map)
    → found ≡ Some (place, registration)
    → IsDroppedAt 0 place (is_at (name_cmp name)) shared.marks.items (entries_of shared.map)
dropped shared name found place registration by is =
    dropped_at (is_at (name_cmp name)) 0 place registration shared.marks.items (entries_of shared.map) (sym by ∙ is)

at_place : (place : ℕ) → place - 0 ≡ place
at_place place = omega arith

pub mark-requires-clause-there : goal.mark-requires-clause-there
mark-requires-clause-there c =
    let at = dropped c.args.self.now c.args.name.now c.find.result c.in-Some.place c.in-Some.registration c.find.ensures.found
    c.in-Some.is in
    omega (arith, at.below)

pub returns-clause-value : goal.returns-clause-value
returns-clause-value c =
    ap (option_map (λ found. found.1)) (sym c.in-Some.is ∙ c.find.ensures.found)
    ∙ found_at 0 (is_at (name_cmp c.args.name.now)) c.args.self.now.marks.items (entries_of c.args.self.now.map)

left : (c : After-mark) → rows_shared c.mark.new.self
    ≡ remove_entry (is_at (name_cmp c.args.name.now)) (rows_shared c.args.self.now)
left c =
    let at = dropped c.args.self.now c.args.name.now c.find.result c.in-Some.place c.in-Some.registration c.find.ensures.found
    c.in-Some.is in
    ap (λ marks. undropped marks (entries_of c.mark.new.self.map)) c.mark.ensures.marks
    ∙ ap (λ map. undropped (marked c.in-Some.place c.args.self.now.marks.items) (entries_of map)) c.mark.ensures.map
    ∙ ap (λ place. undropped (marked place c.args.self.now.marks.items) (entries_of c.args.self.now.map))
    (sym (at_place c.in-Some.place))
    ∙ at.left

pub returns-clause-changes : goal.returns-clause-changes
returns-clause-changes c =
    subst (λ rows. ChangesAt name_cmp (rows_shared c.args.self.now) rows c.args.name.now None) (sym (left c))
    (removed_changes c.args.name.now (rows_shared c.args.self.now) c.find.ensures.ordered)

pub returns-clause-valid : goal.returns-clause-valid
returns-clause-valid c =
    let at = dropped c.args.self.now c.args.name.now c.find.result c.in-Some.place c.in-Some.registration c.find.ensures.found
    c.in-Some.is in
    let rows = ap entries_of c.mark.ensures.map in
    record {
      few = subst (λ rows. c.mark.new.self.marks.len ≤ length rows) (sym rows) c.mark.ensures.few;
      room =
          subst (λ rows. length rows ≤ c.mark.new.self.marks.cap) (sym rows)
          (subst (λ room. length (entries_of c.args.self.now.map) ≤ room) (sym c.mark.ensures.room) c.requires.room);
      counted =
          c.mark.ensures.dropped ∙ ap (λ n. n + 1) c.requires.counted ∙ sym at.more
          ∙ ap (λ place. count_set (marked place c.args.self.now.marks.items)) (at_place c.in-Some.place)
          ∙ ap count_set (sym c.mark.ensures.marks);
    }
