use Rattle.std.proofs.Common.{◌≡◌, ◌++◌, ◌∙◌, ap}
use Rattle.std.specs.Option.{option_map}
use Rattle.std.specs.Arc.{arc_value}
use Rattle.std.proofs.lemmas.Result.{on_ok_weaker}
use Rattle.clash_record.specs.declared.registrations.Terms.{Terms}
use Rattle.exchange_codec.specs.Names.{name_bytes}
use Rattle.clash_record.specs.Registrations.{registration_terms}
use Rattle.exchange_codec.specs.Rows.{fields_bytes, resolver_bytes, resolver_text}
use Rattle.exchange_codec.specs.laws.Rows.{row_joined}
use Rattle.exchange_codec.proofs.rows.push_row.Goals as goal

pub returns-clause-written : goal.returns-clause-written
returns-clause-written c =
    let r = c.args.registration.now in
    let fields : c.push_fields.new.out.items ≡ c.push_name.new.out.items ++ fields_bytes (registration_terms r) =
    c.in_ok-push_fields.ensures.written ∙ ap (λ (t : Terms). c.push_name.new.out.items ++ fields_bytes t) c.terms.ensures in
    on_ok_weaker c.push_resolver.result (λ wrote ids are. wrote ids are
    ∙ row_joined c.args.out.now.items c.push_name.new.out.items c.push_fields.new.out.items (name_bytes c.args.name.now)
    (fields_bytes (registration_terms r)) (resolver_bytes (resolver_text ids r.resolver (option_map (λ p. arc_value p.now) c.args.program)))
    c.in_ok-push_name.ensures.written fields) c.push_resolver.ensures.written
