use Rattle.std.proofs.Common.{◌≡◌, rules, sym, subst}
use Rattle.exchange_law.specs.Lists.{IsNameList}
use Rattle.exchange_core.specs.Codings.{names_of}
use Rattle.exchange_core.proofs.Repeated.{is_list}
use Rattle.exchange_core.proofs.messages.Withdrawals.of_names.Goals as goal

pub new-requires-in-Ok : goal.new-requires-in-Ok
new-requires-in-Ok c =
    let same : names_of c.in-Ok.names ≡ c.args.names.items = search rules in
    subst IsNameList (sym same) (is_list c.args.names.items (search rules) (search rules))
