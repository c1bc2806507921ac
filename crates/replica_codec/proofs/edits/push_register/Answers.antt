use Rattle.std.proofs.Common.{◌≡◌, List, ℕ, [], ◌∷◌, ◌++◌, ap, ◌∙◌, append_assoc}
use Rattle.std.proofs.lemmas.Result.{on_ok_weaker}
use Rattle.clash_record.specs.declared.registrations.Terms.{Terms}
use Rattle.exchange_codec.specs.Names.{name_bytes}
use Rattle.clash_record.specs.Registrations.{registration_terms}
use Rattle.exchange_codec.specs.Rows.{fields_bytes, resolver_bytes, row_bytes}
use Rattle.exchange_codec.specs.laws.Rows.{row_joined}
use Rattle.replica_codec.specs.Entries.{plain, plain_row}
use Rattle.replica_codec.proofs.edits.push_register.Goals as goal

pub returns-clause-written : goal.returns-clause-written
returns-clause-written c =
    let r = c.args.registration in
    let row : List ℕ = row_bytes (plain_row c.args.name.now r) in
    let fields : c.push_fields.new.out.items ≡ c.push_name.new.out.items ++ fields_bytes (registration_terms r) =
    c.in_ok-push_fields.ensures.written ∙ ap (λ (t : Terms). c.push_name.new.out.items ++ fields_bytes t) c.terms.ensures in
    on_ok_weaker c.push_resolver.result (λ wrote. wrote
    ∙ row_joined c.push.new.self.items c.push_name.new.out.items c.push_fields.new.out.items (name_bytes c.args.name.now)
    (fields_bytes (registration_terms r)) (resolver_bytes (plain r.resolver)) c.in_ok-push_name.ensures.written fields
    ∙ ap (λ (xs : List ℕ). xs ++ row) c.in_ok-push.ensures.items
    ∙ append_assoc c.args.out.now.items (0 ∷ []) row) c.push_resolver.ensures.written
