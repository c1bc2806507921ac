use Rattle.std.proofs.Common.{◌≡◌, ◌<◌, length, Some, None, inl, ap, sym, subst, ◌∙◌, arith}
use Rattle.std.specs.Arc.{arc_value}
use Rattle.std.specs.FinMap as map
use Rattle.instruction_set.specs.laws.SameInsn.{same_code}
use Rattle.upload_store.specs.declared.fault.UploadFault.TheVariants.{DigestClash, StoreFull}
use Rattle.upload_store.specs.Programs.{Upload, programs_by, IsProgram, max_programs}
use Rattle.upload_store.specs.Faults.{upload_fault_number}
use Rattle.upload_store.specs.Uploads.{keep_fault}
use Rattle.upload_store.specs.laws.Refused.{is_due, none_is_due}
use Rattle.upload_store.proofs.Keeping.{due_same, due_clash, due_full, due_none}
use Rattle.upload_store.proofs.Maps.{get_lent, insert_again, map_inserted, still_kept}
use Rattle.upload_store.proofs.store.UploadStore.keep_upload.Goals.{Then-eq, Joined-insert-2}
use Rattle.upload_store.proofs.store.UploadStore.keep_upload.Goals as goal

-- it is the program's
again : (c : Then-eq) → map.get c.args.self.now c.upload.inside.id ≡ Some (arc_value c.upload.inside.program)
again c =
    let decides = same_code c.code.result.now c.code-in-Some.result.now c.eq.result c.eq.ensures in
    let equal : c.code.result.now ≡ c.code-in-Some.result.now = decides.0 c.if-eq.true in
    let same : arc_value c.in-Some.kept.now ≡ arc_value c.upload.inside.program =
    cc (c.deref.ensures, c.code.ensures.code, c.deref-in-Some.ensures, c.code-in-Some.ensures.code, equal) in
    get_lent arc_value c.args.self.now c.self.inside.programs.entries c.self.view_is c.upload.inside.id
    (Some c.in-Some.kept) c.in-Some.ensures.value ∙ ap Some same

pub returns-then-eq-clause-answer : goal.returns-then-eq-clause-answer
returns-then-eq-clause-answer c =
    subst (λ u. keep_fault c.args.self.now u ≡ None) c.upload.view_is (due_same c.args.self.now _ (again c))

pub returns-then-eq-clause-refused : goal.returns-then-eq-clause-refused
returns-then-eq-clause-refused c = none_is_due _ _ (returns-then-eq-clause-answer c)

pub returns-then-eq-clause-kept : goal.returns-then-eq-clause-kept
returns-then-eq-clause-kept c =
    subst (λ (u : Upload). c.args.self.now ≡ map.insert c.args.self.now u.id u.code) c.upload.view_is
    (sym (insert_again c.args.self.now c.upload.inside.id (arc_value c.upload.inside.program) (again c)))

pub returns-in-Some-clause-answer : goal.returns-in-Some-clause-answer
returns-in-Some-clause-answer c = inl (subst (λ u. keep_fault c.args.self.now u ≡ Some DigestClash) c.upload.view_is
    (due_clash c.args.self.now _ (arc_value c.in-Some.kept.now)
    (get_lent arc_value c.args.self.now c.self.inside.programs.entries c.self.view_is c.upload.inside.id
    (Some c.in-Some.kept) c.in-Some.ensures.value)
    (λ same.
    let equal : c.code.result.now ≡ c.code-in-Some.result.now =
    cc (c.deref.ensures, c.code.ensures.code, c.deref-in-Some.ensures, c.code-in-Some.ensures.code, same) in
    let is_true = (same_code c.code.result.now c.code-in-Some.result.now c.eq.result c.eq.ensures).1 equal in
    absurd (cc (c.if-eq.false, is_true)))))

pub returns-in-Some-clause-refused : goal.returns-in-Some-clause-refused
returns-in-Some-clause-refused c = is_due _ upload_fault_number _ DigestClash (returns-in-Some-clause-answer c) (λ e. absurd (cc))

pub returns-then-len-ge-MAX_PROGRAMS-clause-answer : goal.returns-then-len-ge-MAX_PROGRAMS-clause-answer
returns-then-len-ge-MAX_PROGRAMS-clause-answer c =
    inl (subst (λ u. keep_fault c.args.self.now u ≡ Some StoreFull) c.upload.view_is
    (due_full c.args.self.now _
    (get_lent arc_value c.args.self.now c.self.inside.programs.entries c.self.view_is c.upload.inside.id None
    c.in_default.ensures.value)
    (λ less.
    let many = ap map.len (sym c.self.view_is) ∙ c.self.invariant.distinct in
    let full = c.if-len-ge-MAX_PROGRAMS.true in
    absurd (omega (arith, less, many, full, c.len.ensures.len)))))

pub returns-then-len-ge-MAX_PROGRAMS-clause-refused : goal.returns-then-len-ge-MAX_PROGRAMS-clause-refused
returns-then-len-ge-MAX_PROGRAMS-clause-refused c =
    is_due _ upload_fault_number _ StoreFull (returns-then-len-ge-MAX_PROGRAMS-clause-answer c) (λ e. absurd (cc))

pub returns-in_default-program-clause-refused : goal.returns-in_default-program-clause-refused
returns-in_default-program-clause-refused c =
    none_is_due _ _ (due_none c.args.self.now _ c.args.upload.now _ c.upload.view_is
    (get_lent arc_value c.args.self.now c.self.inside.programs.entries c.self.view_is c.upload.inside.id None
    c.in_default.ensures.value)
    (sym (ap map.len (sym c.self.view_is) ∙ c.self.invariant.distinct))
    (omega (arith, c.if-len-ge-MAX_PROGRAMS.false, c.len.ensures.len)))

-- there is room
room : (c : Joined-insert-2) → length c.self.inside.programs.entries < max_programs
room c =
    let free = c.if-len-ge-MAX_PROGRAMS.false in
    omega (arith, free, c.len.ensures.len)

none : (c : Joined-insert-2) → map.get c.args.self.now c.upload.inside.id ≡ None
none c =
    get_lent arc_value c.args.self.now c.self.inside.programs.entries c.self.view_is c.upload.inside.id None
    c.in_default.ensures.value

pub invariant_of-self : goal.invariant_of-self
invariant_of-self c =
    still_kept arc_value c.self.inside.programs c.insert.new.self c.upload.inside.id c.in-Ok.program c.self.invariant
    (subst (IsProgram c.upload.inside.id) (sym c.in-Ok.ensures.cases) c.upload.invariant)
    (ap (λ m. map.get m c.upload.inside.id) c.self.view_is ∙ none c) (room c)
    c.insert.result c.insert.ensures.updates c.insert.ensures.len c.insert.ensures.old c.insert.ensures.err

pub returns-in-Ok-insert-clause-answer : goal.returns-in-Ok-insert-clause-answer
returns-in-Ok-insert-clause-answer c =
    due_none c.args.self.now _ c.args.upload.now _ c.upload.view_is (none c)
    (sym (ap map.len (sym c.self.view_is) ∙ c.self.invariant.distinct)) (room c)

pub returns-in-Ok-insert-clause-refused : goal.returns-in-Ok-insert-clause-refused
returns-in-Ok-insert-clause-refused c = none_is_due _ _ (returns-in-Ok-insert-clause-answer c)

pub returns-clause-refused : goal.returns-clause-refused
returns-clause-refused c =
    none_is_due _ _ (due_none c.args.self.now _ c.args.upload.now _ c.upload.view_is
    (get_lent arc_value c.args.self.now c.self.inside.programs.entries c.self.view_is c.upload.inside.id None
    c.in_default.ensures.value)
    (sym (ap map.len (sym c.self.view_is) ∙ c.self.invariant.distinct))
    (omega (arith, c.if-len-ge-MAX_PROGRAMS.false, c.len.ensures.len)))

pub returns-in-Ok-insert-clause-kept : goal.returns-in-Ok-insert-clause-kept
returns-in-Ok-insert-clause-kept c =
    map_inserted arc_value c.self.inside.programs c.insert.new.self c.upload.inside.id c.in-Ok.program
    c.in-Ok-insert.ensures.updates
    ∙ ap (map.insert (programs_by arc_value c.self.inside.programs.entries) c.upload.inside.id) c.in-Ok.ensures.cases
    ∙ ap (λ m. map.insert m c.upload.inside.id (arc_value c.upload.inside.program)) c.self.view_is
    ∙ ap (λ (u : Upload). map.insert c.args.self.now u.id u.code) c.upload.view_is
