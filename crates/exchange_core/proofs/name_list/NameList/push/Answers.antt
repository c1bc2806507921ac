use Rattle.std.proofs.Common.{◌∷◌, ◌++◌, [], ap, sym, subst, ◌∙◌}
use Rattle.exchange_core.specs.model.Listing.{IsSetOf}
use Rattle.exchange_core.proofs.Listing.{one_more_listed}
use Rattle.exchange_core.proofs.name_list.NameList.push.Goals as goal

pub invariant_of-self-2 : goal.invariant_of-self-2
invariant_of-self-2 c =
    subst (IsSetOf c.insert.new.self)
    (sym (c.push_reserved.ensures.items ∙ ap (λ names. names ++ c.args.name ∷ []) c.in_ok-reserve.ensures.items))
    (one_more_listed c.self.inside.set c.insert.new.self c.self.inside.listed.items c.args.name c.self.invariant
    c.in_ok-insert.ensures.updates)
