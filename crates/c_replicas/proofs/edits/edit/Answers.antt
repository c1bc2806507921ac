use Rattle.std.proofs.Common.{◌≡◌, sym, ◌∙◌, subst}
use Rattle.std.specs.Prelude.{None}
use Rattle.replica.specs.declared.edit.Edit.{Edit}
use Rattle.replica.specs.Faults.{replica_fault_number}
use Rattle.replica.specs.Replicas.{Make, left_by, make_fault, early_make_fault}
use Rattle.replica_codec.specs.Entries.{SpellsEntry}
use Rattle.c_calls.specs.laws.Reading.{boxed_spelled}
use Rattle.c_replicas.proofs.Making.{goes_on, has_room, made}
use Rattle.c_replicas.proofs.edits.edit.Goals as goal

pub returns-in-Ok-edit : goal.returns-in-Ok-edit
returns-in-Ok-edit c before =
    let e = c.in-Ok-edit.ensures in
    let of = c.next_entry-entry.ensures in
    let none : make_fault c.args.replica.now c.args.edit ≡ None =
    subst (λ (x : Edit). make_fault c.args.replica.now x ≡ None) of.edit e.answer in
    let done = subst (λ (x : Edit). c.edit.new.self ≡ left_by c.args.replica.now (Make x)) of.edit e.done in
    let at = of.entry (has_room _ _ _ _ _ none) in
    let spells = boxed_spelled _ (λ bytes. SpellsEntry bytes c.next_entry-entry.result) c.encode_entry.result c.in-Ok.message.value c.in-Ok.ensures c.encode_entry.ensures in
    goes_on replica_fault_number (early_make_fault c.args.replica.now) _ _ _ (sym c.edit_refusal.ensures ∙ c.in_default.is)
    (made replica_fault_number (make_fault c.args.replica.now c.args.edit) (tt {0}) _ _ none
    (done, subst (SpellsEntry c.in-Ok.message.value) at spells))
