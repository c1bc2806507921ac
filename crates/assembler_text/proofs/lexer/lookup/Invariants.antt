use Rattle.std.proofs.Common.{◌≡◌, length, map}
use Rattle.assembler_text.specs.model.Words.{lookup}
use Rattle.assembler_text.proofs.lexer.lookup.Given as goal

abbrev pub invariant-loop-table : goal.invariant-loop-table
invariant-loop-table g l = lookup (map (λ e. (e.0.now, e.1)) l.table) l.name
    ≡ lookup (map (λ e. (e.0.now, e.1)) l.initial.table) l.name

abbrev pub decreases-loop-table : goal.decreases-loop-table
decreases-loop-table g l = length l.table
