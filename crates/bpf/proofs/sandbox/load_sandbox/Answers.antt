use Rattle.std.proofs.Common.{sym, subst}
use Rattle.instruction_set.specs.Machine.{IsSafeFor}
use Rattle.verifier.specs.Stores.{CodeFor}
use Rattle.bpf.proofs.sandbox.load_sandbox.Goals as goal

pub returns-in-Ok-clause-safe : goal.returns-in-Ok-clause-safe
returns-in-Ok-clause-safe c =
    subst (λ (sandbox : CodeFor). IsSafeFor c.args.context_len sandbox.code) (sym c.in-Ok.ensures) c.in_ok-loaded.ensures.safe
