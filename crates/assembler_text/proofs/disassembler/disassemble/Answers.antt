use Rattle.std.proofs.Common.{◌≡◌, List, Result, Ok, Err, IfOk, String, Global}
use Rattle.std.specs.String.{string_bytes}
use Rattle.std.specs.declared.alloc.AllocError.{AllocError}
use Rattle.instruction_set.specs.declared.insn.Insn.{Insn}
use Rattle.assembler_text.specs.Text.{code_text}
use Rattle.assembler_text.specs.Grammar.{IsTextOf}
use Rattle.assembler_text.proofs.RoundTrip.{result_written}
use Rattle.assembler_text.proofs.disassembler.disassemble.Goals as goal

first : (r : Result (String Global) AllocError) (code : List Insn)
    → IfOk r (λ text. (string_bytes text ≡ code_text code) × IsTextOf (string_bytes text) code)
    → IfOk r (λ text. string_bytes text ≡ code_text code)
first (Ok text) code h = h.0
first (Err f) code h = tt

second : (r : Result (String Global) AllocError) (code : List Insn)
    → IfOk r (λ text. (string_bytes text ≡ code_text code) × IsTextOf (string_bytes text) code)
    → IfOk r (λ text. IsTextOf (string_bytes text) code)
second (Ok text) code h = h.1
second (Err f) code h = tt

pub returns-clause-exact : goal.returns-clause-exact
returns-clause-exact c = first c.lines.result c.args.code.now
    (result_written c.lines.result c.insns.result.now c.args.code.now c.insns.ensures c.known.ensures c.lines.ensures)

pub returns-clause-text : goal.returns-clause-text
returns-clause-text c = second c.lines.result c.args.code.now
    (result_written c.lines.result c.insns.result.now c.args.code.now c.insns.ensures c.known.ensures c.lines.ensures)
