use Rattle.std.proofs.Common.{◌≡◌, ℕ, List, length, sym, ap, ◌∙◌, subst, take}
use Rattle.std.proofs.lemmas.List.{length_push}
use Rattle.std.proofs.lemmas.Slice.Zip.{zip_turn, zip_end}
use Rattle.std.specs.Iterator.Adapters.{zip_first, zip_second}
use Rattle.std.specs.Slice.Iter.{iter_rest}
use Rattle.device.specs.Sending.{SendsOn}
use Rattle.scripts.specs.Healed.{each_text}
use Rattle.scripts.specs.model.Forms.{judged_in}
use Rattle.scripts.proofs.Judged.{one_judged, all_judged}
use Rattle.scripts.proofs.Pieces.{then_sent}
use Rattle.scripts.proofs.healed.print_clashes.Goals as goal

pub loop-clash-preserved : goal.loop-clash-preserved
loop-clash-preserved g c =
    let clashes = c.args.clashes.now in
    let rulings = c.args.rulings.now in
    let old = g.W.Write.contents c.args.writer.now in
    let middle = g.W.Write.contents c.loop-clash.writer in
    let new = g.W.Write.contents c.print_judged-sent.new.writer in
    let first : iter_rest (zip_first c.into_iter-clash-iterator.result) ≡ clashes =
    rw (c.into_iter-clash-iterator.ensures.into_iter_gives, c.zip-clash-items.ensures.first) c.iter.ensures in
    let second : iter_rest (zip_second c.into_iter-clash-iterator.result) ≡ rulings =
    rw c.into_iter-clash-iterator.ensures.into_iter_gives c.zip-clash-items.ensures.second.0 in
    let turn = zip_turn clashes rulings c.loop-clash.yielded _ _ c.next.new.self _ first second c.loop-clash.yielded_by
    _ c.in-Some.is
    c.next.ensures.steps in
    let n = length c.loop-clash.yielded in
    let clash = c.in-Some.clash.now in
    let judged = c.in-Some.judged.now in
    let both = then_sent c.args.sent c.loop-clash.sent c.print_judged-sent.result old middle new
    (each_text (judged_in c.args.form) (take n clashes) (take n rulings)) (judged_in c.args.form clash judged) c.loop-clash.invariant
    c.print_judged-sent.ensures in
    let more = one_judged (judged_in c.args.form) n clashes rulings clash judged turn.0 turn.1 (turn.2 clash) (turn.3 judged)
    ∙ ap (λ (m : ℕ). each_text (judged_in c.args.form) (take m clashes) (take m rulings))
    (sym (length_push c.loop-clash.yielded (c.in-Some.clash, c.in-Some.judged))) in
    subst (λ (l : List ℕ). SendsOn c.args.sent old new l c.print_judged-sent.result) more both

pub returns : goal.returns
returns g c =
    let clashes = c.args.clashes.now in
    let rulings = c.args.rulings.now in
    let first : iter_rest (zip_first c.into_iter-clash-iterator.result) ≡ clashes =
    rw (c.into_iter-clash-iterator.ensures.into_iter_gives, c.zip-clash-items.ensures.first) c.iter.ensures in
    let second : iter_rest (zip_second c.into_iter-clash-iterator.result) ≡ rulings =
    rw c.into_iter-clash-iterator.ensures.into_iter_gives c.zip-clash-items.ensures.second.0 in
    let all = zip_end clashes rulings c.loop-clash.yielded _ _ c.next.new.self _ first second c.loop-clash.yielded_by
    c.in-None.is
    c.next.ensures.steps in
    subst (λ (l : List ℕ). SendsOn c.args.sent (g.W.Write.contents c.args.writer.now)
    (g.W.Write.contents c.loop-clash.writer) l c.loop-clash.sent)
    (all_judged (judged_in c.args.form) (length c.loop-clash.yielded) clashes rulings all) c.loop-clash.invariant
