use Rattle.std.proofs.Common.{◌≡◌, ◌++◌, ◌∷◌, [], List, ap, ◌∙◌, ◌-◌, ◌+◌}
use Rattle.clash_record.specs.Name.{Name}
use Rattle.exchange_codec.specs.declared.fault.ReadError.TheVariants as errors
use Rattle.exchange_codec.specs.Reading.{many_at}
use Rattle.exchange_codec.specs.Names.{name_at}
use Rattle.exchange_codec.specs.laws.Many.{with_front, goes_on, ends, is_done}
use Rattle.exchange_codec.proofs.withdrawals.all_names.Goals as goal

pub returns-in-Err : goal.returns-in-Err
returns-in-Err c = ends name_at (errors.Fault c.in-Err.fault) c.loop.names.items c.args.count c.loop.counter c.loop.rest.now
    (many_at name_at c.args.count c.args.bytes.now) c.loop-test.true c.in-Err.ensures c.loop.invariant

pub loop-preserved : goal.loop-preserved
loop-preserved c =
    let front : List Name = c.loop.names.items in
    let name : Name = c.in-Ok.found.0 in
    let pushed : List Name = c.push.new.self.items in
    let grown : pushed ≡ front ++ name ∷ [] = c.in_ok-push-in-Ok.ensures.items in
    let on = goes_on name_at front c.args.count c.loop.counter c.loop.rest.now name c.in-Ok.found.1.now
    (many_at name_at c.args.count c.args.bytes.now) c.loop-test.true c.in-Ok.ensures c.loop.invariant in
    ap (λ (ns : List Name). with_front ns (many_at name_at (c.args.count - (c.loop.counter + 1)) c.in-Ok.found.1.now)) grown ∙ on

pub returns : goal.returns
returns c = is_done name_at c.loop.names.items c.args.count c.loop.counter c.loop.rest.now
    (many_at name_at c.args.count c.args.bytes.now) c.loop-test.false c.loop.invariant
