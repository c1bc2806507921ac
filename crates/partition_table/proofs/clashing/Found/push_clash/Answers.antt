use Rattle.std.proofs.Common.{◌≡◌, true, false, if◌then◌else◌, Some, List, [], ◌∷◌, ◌++◌, map, ap, sym, ◌∙◌}
use Rattle.std.specs.Option.{option_map}
use Rattle.std.specs.Arc.{arc_value}
use Rattle.std.specs.FinMap.{get}
use Rattle.std.specs.List.{filter_map, cons_option}
use Rattle.clash_record.specs.Name.{Name}
use Rattle.clash_record.specs.declared.registrations.Registration.{Registration}
use Rattle.clash_record.specs.Orders.{registration_cmp}
use Rattle.partition_table.specs.Tables.{Clash, has_first}
use Rattle.partition_table.specs.model.Judging.{clash_by_name}
use Rattle.partition_table.proofs.Listed.{first_here, first_there, one_more_marked}
use Rattle.partition_table.proofs.OneClash.{alike_clash, less_clash, greater_clash, one_more_found}
use Rattle.partition_table.proofs.clashing.Found.push_clash.Goals as goal

pub returns-in-Equal-clause-found : goal.returns-in-Equal-clause-found
returns-in-Equal-clause-found c names =
    let a = c.args.halves.now.a.now in
    let b = c.args.halves.now.b.now in
    let facts = arc_value c.args.halves.now.facts in
    let rest = filter_map (clash_by_name facts.a a facts.b b) names in
    ap (λ items. items ++ rest) c.reserve.ensures.items
    ∙ ap (λ clash. c.args.self.now.clashes.items ++ cons_option clash rest) (sym (alike_clash facts.a facts.b c.args.name.now
    c.args.mine.now c.args.other.now (get a c.args.name.now) (get b c.args.name.now) c.requires.mine c.requires.other
    (sym (λ i. registration_cmp (c.deref.ensures i) (c.deref-2.ensures i)) ∙ sym c.in-Equal.ensures)))

pub returns-in_ok-facts-in-Less : goal.returns-in_ok-facts-in-Less
returns-in_ok-facts-in-Less c =
    let a = c.args.halves.now.a.now in
    let b = c.args.halves.now.b.now in
    let facts = arc_value c.args.halves.now.facts in
    let at = less_clash facts.a facts.b c.args.name.now c.args.mine.now c.args.other.now
    (get a c.args.name.now) (get b c.args.name.now)
    (option_map (λ p. arc_value p.now) c.program_for-program.result) c.requires.mine c.requires.other
    (sym (λ i. registration_cmp (c.deref.ensures i) (c.deref-2.ensures i)) ∙ sym c.in-Less.ensures)
    (λ row at same. c.program_for-program.ensures.each c.args.name.now row at
    (same ∙ ap (λ (r : Registration). r.resolver) (sym c.deref-in-Less.ensures))) in
    let made : ◌≡◌ {A = Clash} _ _ = c.new-clash.ensures ∙ (λ i. record {
      name = c.args.name.now;
      first = (c.in_ok-rivals-in-Less.ensures i).first;
      second = (c.in_ok-rivals-in-Less.ensures i).second;
      of_first = if (c.in_ok-rivals-in-Less.ensures i).is_first_of_a then (c.in_ok-facts-in-Less.ensures.cases i).a else (c.in_ok-facts-in-Less.ensures.cases i).b;
      of_second = if (c.in_ok-rivals-in-Less.ensures i).is_first_of_a then (c.in_ok-facts-in-Less.ensures.cases i).b else (c.in_ok-facts-in-Less.ensures.cases i).a;
      code = c.in_ok-program-in-Less.ensures i;
    }) in
    let found = λ (names : List Name). one_more_found c.args.self.now.clashes.items c.push_reserved.new.self.items
    (filter_map (clash_by_name facts.a a facts.b b) names) _ c.new-clash.result
    (at ∙ ap Some (sym made)) (c.push_reserved.ensures.items
    ∙ ap (λ clashes. clashes ++ (c.new-clash.result ∷ [])) c.reserve.ensures.items) in
    let first = one_more_marked a _ _ _ _ true c.new-clash.result (c.reserve-2.ensures.items ∙ c.requires.first
    ∙ ap (map (has_first a)) (sym c.reserve.ensures.items)) c.push_reserved-in-Less.ensures.items c.push_reserved.ensures.items
    (first_here a c.args.name.now c.args.mine.now c.requires.mine c.new-clash.result
    (ap (λ (k : Clash). k.name) made) (ap (λ (k : Clash). k.first) made)) in
    record { found = found; first = first }

pub returns-in_ok-facts-in-Greater : goal.returns-in_ok-facts-in-Greater
returns-in_ok-facts-in-Greater c =
    let a = c.args.halves.now.a.now in
    let b = c.args.halves.now.b.now in
    let facts = arc_value c.args.halves.now.facts in
    let at = greater_clash facts.a facts.b c.args.name.now c.args.mine.now c.args.other.now
    (get a c.args.name.now) (get b c.args.name.now)
    (option_map (λ p. arc_value p.now) c.program_for-program-in-Greater.result) c.requires.mine c.requires.other
    (sym (λ i. registration_cmp (c.deref.ensures i) (c.deref-2.ensures i)) ∙ sym c.in-Greater.ensures)
    (λ row at same. c.program_for-program-in-Greater.ensures.each c.args.name.now row at
    (same ∙ ap (λ (r : Registration). r.resolver) (sym c.deref-in-Greater.ensures))) in
    let made : ◌≡◌ {A = Clash} _ _ = c.new-clash-in-Greater.ensures ∙ (λ i. record {
      name = c.args.name.now;
      first = (c.in_ok-rivals-in-Greater.ensures i).first;
      second = (c.in_ok-rivals-in-Greater.ensures i).second;
      of_first = if (c.in_ok-rivals-in-Greater.ensures i).is_first_of_a then (c.in_ok-facts-in-Greater.ensures.cases i).a else (c.in_ok-facts-in-Greater.ensures.cases i).b;
      of_second = if (c.in_ok-rivals-in-Greater.ensures i).is_first_of_a then (c.in_ok-facts-in-Greater.ensures.cases i).b else (c.in_ok-facts-in-Greater.ensures.cases i).a;
      code = c.in_ok-program-in-Greater.ensures i;
    }) in
    let found = λ (names : List Name). one_more_found c.args.self.now.clashes.items c.push_reserved-in-Greater.new.self.items
    (filter_map (clash_by_name facts.a a facts.b b) names) _ c.new-clash-in-Greater.result
    (at ∙ ap Some (sym made)) (c.push_reserved-in-Greater.ensures.items
    ∙ ap (λ clashes. clashes ++ (c.new-clash-in-Greater.result ∷ [])) c.reserve.ensures.items) in
    let first = one_more_marked a _ _ _ _ false c.new-clash-in-Greater.result (c.reserve-2.ensures.items ∙ c.requires.first
    ∙ ap (map (has_first a)) (sym c.reserve.ensures.items)) c.push_reserved-in-Greater-2.ensures.items
    c.push_reserved-in-Greater.ensures.items
    (first_there a c.args.name.now c.args.mine.now c.requires.mine c.new-clash-in-Greater.result
    (ap (λ (k : Clash). k.name) made)
    (ap (λ (k : Clash). registration_cmp c.args.mine.now k.first) made
    ∙ sym (λ i. registration_cmp (c.deref.ensures i) (c.deref-2.ensures i)) ∙ sym c.in-Greater.ensures)) in
    record { found = found; first = first }
