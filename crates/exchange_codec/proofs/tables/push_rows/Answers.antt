use Rattle.std.proofs.Common.{List, subst}
use Rattle.std.specs.Option.{option_map}
use Rattle.std.specs.Arc.{arc_value}
use Rattle.clash_record.specs.declared.registrations.Registration.{Registration}
use Rattle.clash_record.specs.Name.{Name}
use Rattle.exchange_codec.proofs.IdLaws.{no_ids}
use Rattle.exchange_codec.proofs.TableLaws.{IsWritten, none_written, one_written, all_written, all_fit}
use Rattle.exchange_codec.proofs.tables.push_rows.Goals as goal

pub loop-name-init : goal.loop-name-init
loop-name-init c = none_written c.args.table.now c.args.out.now.items c.new-before.result c.rows-rows.result
    (no_ids c.new-before.result c.new-before.ensures.empty) c.rows-rows.ensures.rows

pub loop-name-preserved : goal.loop-name-preserved
loop-name-preserved c =
    one_written c.args.table.now c.args.out.now.items c.loop-name.out.items c.push_row.new.out.items
    c.loop-name.before c.push_row.new.before c.next.new.self c.in-Some.name.now c.in-Some.registration.now
    (option_map (λ p. arc_value p.now) c.program_for-program.result)
    (subst (λ (rs : List (Name × Registration)). IsWritten c.args.table.now c.args.out.now.items c.loop-name.out.items c.loop-name.before rs)
    c.in-Some.ensures.steps c.loop-name.invariant)
    c.program_for-program.ensures.each
    (record { written = c.in_ok-push_row.ensures.written; before = c.in_ok-push_row.ensures.before; fits = c.in_ok-push_row.ensures.fits })

pub returns : goal.returns
returns c =
    let done = subst (λ (rs : List (Name × Registration)). IsWritten c.args.table.now c.args.out.now.items c.loop-name.out.items c.loop-name.before rs)
    c.in_default.ensures.steps.0 c.loop-name.invariant in
    record {
      written = all_written c.args.table.now c.args.out.now.items c.loop-name.out.items c.loop-name.before done;
      fit = all_fit c.args.table.now c.args.out.now.items c.loop-name.out.items c.loop-name.before done;
      front = tt;
    }
