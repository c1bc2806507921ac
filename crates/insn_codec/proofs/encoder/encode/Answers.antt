use Rattle.std.proofs.Common.{◌<◌, ◌++◌, ◌∙◌, ap, sym, subst, length, get_or}
use Rattle.std.specs.List.{flat_map}
use Rattle.instruction_set.specs.Slots.{IsListed}
use Rattle.insn_codec.specs.Encoding.{insn_bytes}
use Rattle.insn_codec.proofs.Written.{more_written, all_written}
use Rattle.insn_codec.proofs.encoder.encode.Goals as goal

pub push_insn-requires : goal.push_insn-requires
push_insn-requires c =
    let insns = c.insns-insns.result.now in
    let within : c.loop-insn.insn-index < length c.args.code.now =
    subst (λ xs. c.loop-insn.insn-index < length xs) c.insns-insns.ensures c.loop-insn-test.true in
    subst IsListed (sym c.insn-item.is) (subst (λ xs. IsListed (get_or xs c.loop-insn.insn-index c.insn-item.result))
    (sym c.insns-insns.ensures) (c.known.ensures.listed c.loop-insn.insn-index c.insn-item.result within))

pub loop-insn-preserved : goal.loop-insn-preserved
loop-insn-preserved c =
    c.in_ok-push_insn.ensures ∙ ap (λ bytes. bytes ++ insn_bytes c.insn-item.result) c.loop-insn.invariant
    ∙ sym (more_written c.insns-insns.result.now c.loop-insn.insn-index c.insn-item.result c.loop-insn-test.true
    c.insn-item.is)

written : goal.returns-clause-bytes
written c = all_written c.insns-insns.result.now c.loop-insn.insn-index c.loop-insn.bytes.items c.loop-insn-test.false
    c.loop-insn.invariant ∙ ap (flat_map insn_bytes) c.insns-insns.ensures

pub returns-clause-bytes : goal.returns-clause-bytes
returns-clause-bytes = written

pub returns-clause-spelled : goal.returns-clause-spelled
returns-clause-spelled c = record { is_code = c.known.ensures; spelling = written c }
