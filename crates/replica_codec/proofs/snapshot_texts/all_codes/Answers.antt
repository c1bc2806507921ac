use Rattle.std.proofs.Common.{◌≡◌, ◌++◌, ◌∷◌, [], ◌-◌, ◌+◌, List, ℕ, ap, ◌∙◌}
use Rattle.std.specs.Borrow.{Bor}
use Rattle.std.proofs.lemmas.List.{map_push}
use Rattle.exchange_codec.specs.declared.fault.ReadError.TheVariants as errors
use Rattle.exchange_codec.specs.Reading.{many_at}
use Rattle.exchange_codec.specs.laws.Many.{with_front, goes_on, ends, is_done}
use Rattle.replica_codec.specs.Snapshots.{code_at}
use Rattle.replica_codec.specs.SnapshotsText.{codes_view}
use Rattle.replica_codec.proofs.snapshot_texts.all_codes.Goals as goal

pub returns-in-Err : goal.returns-in-Err
returns-in-Err c = ends code_at (errors.Fault c.in-Err.fault) (codes_view c.loop.codes.items) c.args.count c.loop.counter c.loop.rest.now
    (many_at code_at c.args.count c.args.bytes.now) c.loop-test.true c.in-Err.ensures c.loop.invariant

pub loop-preserved : goal.loop-preserved
loop-preserved c =
    let front : List (List ℕ) = codes_view c.loop.codes.items in
    let code : List ℕ = c.in-Ok.code.now in
    let grown : codes_view c.push.new.self.items ≡ front ++ code ∷ [] =
    ap codes_view c.in-Ok-push.ensures.items ∙ map_push (λ (b : Bor (List ℕ)). b.now) c.loop.codes.items c.in-Ok.code in
    let on = goes_on code_at front c.args.count c.loop.counter c.loop.rest.now code c.in-Ok.after.now
    (many_at code_at c.args.count c.args.bytes.now) c.loop-test.true c.in-Ok.ensures c.loop.invariant in
    ap (λ (cs : List (List ℕ)). with_front cs (many_at code_at (c.args.count - (c.loop.counter + 1)) c.in-Ok.after.now)) grown ∙ on

pub returns : goal.returns
returns c = is_done code_at (codes_view c.loop.codes.items) c.args.count c.loop.counter c.loop.rest.now
    (many_at code_at c.args.count c.args.bytes.now) c.loop-test.false c.loop.invariant
