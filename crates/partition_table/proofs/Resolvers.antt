-- The answer of the resolver of a clash.
use Rattle.std.proofs.Common.{◌≡◌, ℕ, Option, Some, None, List, ap, sym, ◌∙◌, refl}
use Rattle.instruction_set.specs.declared.insn.Insn.{Insn}
use Rattle.instruction_set.specs.Machine.{meaning}
use Rattle.clash_record.specs.declared.registrations.Builtin as b
use Rattle.clash_record.specs.declared.registrations.ProgramId.{ProgramId}
use Rattle.clash_record.specs.declared.registrations.ResolverId.{ResolverId}
use Rattle.clash_record.specs.declared.registrations.ResolverId.TheVariants.{Builtin, Program}
use Rattle.clash_record.specs.Record.{clash_bytes}
use Rattle.builtin_resolvers.specs.declared.verdicts.Verdict3.TheVariants.{Neither}
use Rattle.builtin_resolvers.specs.Verdicts.{builtin_verdict, verdict_of_answer}
use Rattle.partition_table.specs.Tables.{Clash, answer, answer_by}

module _ (c : Clash) (word : ℕ) where
  abbrev bytes : List ℕ
  bytes = clash_bytes c.name c.first c.second word c.of_first c.of_second

  by_resolver : (r : ResolverId) (code : Option (List Insn)) → c.first.resolver ≡ r → c.code ≡ code
      → answer_by r code bytes word ≡ answer c word
  unfolding answer
  by_resolver r code is coded =
      ap (λ r. answer_by r code bytes word) (sym is) ∙ ap (λ code. answer_by c.first.resolver code bytes word)
      (sym coded)

  pub builtin_answer : (resolver : b.Builtin) → c.first.resolver ≡ Builtin resolver
      → builtin_verdict resolver word ≡ answer c word
  builtin_answer resolver is = by_resolver (Builtin resolver) c.code is refl

  pub program_answer : (id : ProgramId) (code : List Insn) (r0 : ℕ) → c.first.resolver ≡ Program id → c.code ≡ Some code
      → r0 ≡ meaning code bytes → verdict_of_answer r0 ≡ answer c word
  program_answer id code r0 is coded ran = ap verdict_of_answer ran ∙ by_resolver (Program id) (Some code) is coded

  pub no_answer : (id : ProgramId) → c.first.resolver ≡ Program id → c.code ≡ None → Neither ≡ answer c word
  no_answer id is coded = by_resolver (Program id) None is coded
