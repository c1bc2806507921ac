use Rattle.std.proofs.Common.{◌≡◌, List, Option, Some, None, refl, subst, ◌∙◌}
use Rattle.instruction_set.specs.declared.insn.Insn.{Insn}
use Rattle.clash_record.specs.declared.registrations.Builtin.{Builtin}
use Rattle.clash_record.specs.declared.registrations.ResolverId.TheVariants as resolver
use Rattle.partition_table.specs.Tables.{IsCodeOf}
use Rattle.partition_table.proofs.Uniting.{coded_row_of}
use Rattle.partition_table.proofs.merging.Parents.program_for.Goals as goal

-- a built-in resolver has no code
no_code : (b : Builtin) (code : Option (List Insn)) → IsCodeOf (resolver.Builtin b) code → None ≡ code
no_code b None h = refl
no_code b (Some c) h = absurd h

pub returns-in-Builtin : goal.returns-in-Builtin
returns-in-Builtin c = λ n row of_row same.
    let p = c.args.self.now in
    no_code c.in-Builtin.field-0 row.code (subst (λ r. IsCodeOf r row.code) (same ∙ c.in-Builtin.is)
    (coded_row_of p.a.now p.b.now c.requires.tables.0 c.requires.tables.1 c.requires.agree n row of_row))
