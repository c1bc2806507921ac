use Rattle.std.proofs.Common.{◌≡◌, refl, sym, ap, subst, ◌∙◌}
use Rattle.std.specs.Prelude.{Some}
use Rattle.c_calls.specs.Halves.{SideAndStore}
use Rattle.replica.specs.Halves as halves
use Rattle.c_replicas.specs.Exchanges.{IsSideOf}
use Rattle.c_replicas.proofs.Siding.{got}
use Rattle.c_replicas.proofs.exchanges.side.Goals as goal

pub returns-in-Ok-new : goal.returns-in-Ok-new
returns-in-Ok-new c before =
    let e = c.in-Ok.ensures in
    let made : SideAndStore = record { side = c.in-Ok.side; store = c.in-Ok-try_clone.store } in
    let store = c.in-Ok-try_clone.ensures ∙ c.store.ensures ∙ ap (λ (h : halves.HalfState). h.store) c.half.ensures in
    got _ _ c.in_ok-id.id _ (λ id. (h : SideAndStore) × (Some c.in-Ok-new.half.value ≡ Some h) × IsSideOf id c.args.replica.now h) _
    (sym c.in_ok-id.was ∙ c.side_id.ensures) e.answer
    (subst (λ (x : SideAndStore). (h : SideAndStore) × (Some x ≡ Some h) × IsSideOf c.in_ok-id.id c.args.replica.now h) (sym (c.in-Ok-new.ensures.ok ∙ c.of.ensures))
    (made, refl, record { state = e.state; limit = e.limit; short = e.short; store = store }))
