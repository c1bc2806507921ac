use Rattle.std.proofs.Common.{◌≡◌, true, if◌then◌else◌, Some, None, IfSome, ap, sym, subst, ◌∙◌}
use Rattle.std.proofs.lemmas.Result.{on_ok_weaker}
use Rattle.std.specs.Option.{option_map}
use Rattle.std.specs.Arc.{arc_value}
use Rattle.std.specs.BTreeSet.{contains}
use Rattle.std.specs.FinMap.{get, insert}
use Rattle.clash_record.specs.declared.registrations.Registration.{Registration}
use Rattle.clash_record.specs.Orders.{name_cmp}
use Rattle.partition_table.specs.Tables.{IsCodeOf, IsNewRow, agrees_with, with_row, unless_gone}
use Rattle.partition_table.specs.model.Merging.{IsRowOf}
use Rattle.partition_table.proofs.Uniting.{coded_row_of, part_agrees, row_of_parts, row_with, stays_put}
use Rattle.partition_table.proofs.merging.Parents.put.Goals as goal

pub push_shared-requires : goal.push_shared-requires
push_shared-requires c =
    let p = c.args.self.now in
    let kept = c.in-Some.kept.now in
    let held = rw c.in-Some.is at c.requires.held in
    let code = option_map (λ p. arc_value p.now) c.program_for-program.result in
    let coded = c.program_for-program.ensures c.args.name.now held.0 held.1 (ap (λ r. r.resolver) (held.2 ∙ sym c.deref-2.ensures)) in
    let is_row = row_of_parts held.0 kept code held.2 coded in
    subst (λ (r : Registration). IsNewRow c.args.merged.now c.args.name.now record { registration = r; code = code })
    (sym c.in_ok-clone.ensures.cases) record {
      new = c.requires.new;
      room = c.requires.room;
      coded =
          subst (λ row. IsCodeOf row.registration.resolver row.code) is_row
          (coded_row_of p.a.now p.b.now c.requires.tables.0 c.requires.tables.1 c.requires.agree c.args.name.now held.0
          held.1);
      agrees =
          subst (λ row. agrees_with c.args.merged.now row ≡ true) is_row
          (part_agrees p.a.now p.b.now c.requires.tables.0 c.requires.tables.1 c.requires.agree c.args.merged.now
          c.requires.part c.args.name.now held.0 held.1);
    }

pub returns : goal.returns
returns c = on_ok_weaker c.push_shared.result (λ e row shown of_row.
    let p = c.args.self.now in
    let n = c.args.name.now in
    let kept = c.in-Some.kept.now in
    let code = option_map (λ p. arc_value p.now) c.program_for-program.result in
    let r = row_with row kept (shown ∙ ap (option_map (λ kept. kept.now)) c.in-Some.is) in
    let of_r = subst (λ o. IfSome o (λ row. IsRowOf p.a.now p.b.now n row)) r.1 of_row in
    let coded = c.program_for-program.ensures n r.0 of_r (ap (λ r. r.resolver) (r.2 ∙ sym c.deref-2.ensures)) in
    e ∙ ap (λ (r : Registration). insert c.args.merged.now n record { registration = r; code = code }) c.in_ok-clone.ensures.cases
    ∙ ap (insert c.args.merged.now n) (sym (row_of_parts r.0 kept code r.2 coded))
    ∙ ap (λ o. with_row n o c.args.merged.now) (sym (stays_put (get p.a.now n) (get p.b.now n)
    (contains name_cmp p.gone_a n)
    (contains name_cmp p.gone_b n) r.0 c.deref.result.now (r.2 ∙ sym c.deref.ensures) c.is_withdrawn.result c.is_withdrawn.ensures
    ∙ ap (λ b. if b then None else Some r.0) c.if-is_withdrawn.false))
    ∙ ap (λ o. with_row n (unless_gone (get p.a.now n) (get p.b.now n) (contains name_cmp p.gone_a n)
    (contains name_cmp p.gone_b n) o) c.args.merged.now) (sym r.1)) c.push_shared.ensures.pushed
