use Rattle.std.proofs.Common.{◌≡◌, Vec, Global, ℕ, ap, ◌∙◌, subst, arith}
use Rattle.std.specs.Prelude.{IfOk}
use Rattle.replica_law.specs.Groups.{Snapshot}
use Rattle.replica.specs.Halves.{HalfState}
use Rattle.replica_codec.specs.Snapshots.{SpellsSnapshot}
use Rattle.replica_codec.proofs.SnapshotAnswers.{encoded, is_limit}
use Rattle.replica_codec.proofs.snapshots.encode_snapshot.Goals as goal

pub returns : goal.returns
returns c =
    let state : HalfState = record {
      store = c.store.result.now;
      table = c.table-2.result.now;
      limit = c.names.result;
      latest = c.latest.result;
    } in
    let made : Snapshot HalfState = record { at = c.position.result; state = state } in
    let half = c.half-half.ensures in
    let store = c.store.ensures ∙ ap (λ (h : HalfState). h.store) half in
    let table = c.table-2.ensures ∙ ap (λ (h : HalfState). h.table) half in
    let limit = c.names.ensures ∙ c.limit.ensures ∙ ap (λ (h : HalfState). h.limit) half in
    let latest = c.latest.ensures ∙ ap (λ (h : HalfState). h.latest) half in
    let is : made ≡ c.args.snapshot.now = λ i. record {
      at = c.position.ensures i;
      state = record { store = store i; table = table i; limit = limit i; latest = latest i };
    } in
    subst (λ (s : Snapshot HalfState). IfOk c.framed.result (λ (v : Vec ℕ Global). SpellsSnapshot v.items s)) is
    (encoded made c.in_ok-out.out.items c.push_position.new.out.items c.push_u32.new.out.items c.push_latest.new.out.items
    c.push_codes.new.out.items c.push_table.new.out.items c.framed.result
    c.in_ok-out.ensures c.in_ok-push_position.ensures.written c.in_ok-push_u32.ensures.written c.in_ok-push_latest.ensures.written
    c.in_ok-push_codes.ensures.written c.in_ok-push_table.ensures.written
    (record {
      at = c.in_ok-push_position.ensures.fits;
      limit = is_limit c.names.result (omega (arith, c.names.ensures, c.limit.result.some)) (omega (arith, c.names.ensures, c.limit.result.few));
      latest = c.in_ok-push_latest.ensures.fits;
      few = c.in_ok-push_codes.ensures.few;
      each = c.in_ok-push_codes.ensures.fit;
    })
    c.in_ok-push_codes.ensures.stored c.in_ok-push_table.ensures.fits c.in_ok-push_table.ensures.kept
    c.framed.ensures.short c.framed.ensures.written)
