-- A ruling of the map is refused by no side that heard the offers that it is of.
use Rattle.std.proofs.Common.{◌≡◌, ℕ, true, if◌then◌else◌, List, Option, Some, None, is_some, slice_get, eq-eqb, sym, ap, ◌∙◌, subst, option_map, option_and_then}
use Rattle.clash_record.specs.declared.side_id.SideId.{SideId}
use Rattle.partition_table.specs.Tables.{Clash, clashes}
use Rattle.exchange_law.specs.Sides.{Heard, Exchange, Side, clashes_for, clashes_heard, clashes_of, is_lawful, put_ruling, take_heard, take_in}
use Rattle.exchange_law.specs.Calls.{Take, carried_out}
use Rattle.exchange_law.specs.Worlds.{Ruling, Past, Event, side_of, ruling_at, world_after}
use Rattle.exchange_law.specs.History.{taken_by, TakesRulings}
use Rattle.exchange_law.specs.laws.Rulings.{clashes_are, has_clash_passes}
use Rattle.exchange_law.specs.laws.Kept.{Has, other, made, OneEach, SideFits, RulingFits, same_clashes}
use Rattle.exchange_law.specs.laws.Steps.{found_key, sound}

-- the ruling passes the tests of the side
told_now : (past : Past) (one : OneEach past) (id : SideId) (side : Side) (exchange : Exchange) (heard : Heard)
    (r : Ruling) → SideFits id side past → side.exchange ≡ Some exchange → exchange.heard ≡ Some heard →
    exchange.number ≡ r.number → RulingFits r.number r.k r past →
    is_some (option_and_then (carried_out side) (taken_by side r)) ≡ true
told_now past one id side exchange heard r s opened was same_number fits =
    let f = s.open_fits exchange opened in
    let ours = subst (λ n. Has past.offers (made id n exchange.seed exchange.uptime side.table)) same_number f.ours in
    let theirs =
    subst (λ n. Has past.offers (made (other id) n exchange.seed heard.uptime heard.table)) same_number
    (f.heard heard was).theirs in
    let c =
    same_clashes one r.number r.k r fits id exchange.seed exchange.uptime heard.uptime side.table heard.table ours
    theirs in
    let all : clashes_heard side exchange heard ≡ clashes fits.a fits.uptime_a fits.b fits.uptime_b =
    ap (λ j. clashes_for j side.table exchange.uptime heard.table heard.uptime) s.same_id ∙ c.0 in
    let at : slice_get (clashes_heard side exchange heard) r.k ≡ Some r.clash =
    ap (λ (l : List Clash). slice_get l r.k) all ∙ fits.of_clash in
    let lawful : is_lawful (clashes_heard side exchange heard) exchange.seed r.k r.judged ≡ true =
    ap (λ (x : List Clash × ℕ). is_lawful x.0 x.1 r.k r.judged) (λ i. (all i, c.1 i)) ∙ fits.lawful in
    let after = record exchange { heard = Some (record heard { rulings = put_ruling heard.rulings r.k r.judged }) } in
    let opens = λ (o : Option Exchange). is_some (option_map (λ x. record side { exchange = Some x }) o) in
    ap (λ b. is_some (option_and_then (carried_out side) (if b then Some (Take r.number r.k r.judged) else None)))
    (has_clash_passes side exchange heard r.k r.clash opened was at)
    ∙ ap (λ o. opens (option_and_then (take_in (clashes_of side) r.number r.k r.judged) o)) opened
    ∙ ap (λ b. opens (if b then option_and_then (take_heard (clashes_of side) r.k r.judged exchange) exchange.heard
    else None))
    (eq-eqb _ _ same_number)
    ∙ ap (λ o. opens (option_and_then (take_heard (clashes_of side) r.k r.judged exchange) o)) was
    ∙ ap (λ b. opens (if b then Some after else None)) (ap (λ (l : List Clash). is_lawful l exchange.seed r.k r.judged)
    (clashes_are side exchange heard opened was) ∙ lawful)

pub told : (history : List Event) → TakesRulings history
told history id number k ruling exchange heard opened same_number was found =
    let w = world_after history in
    let key = found_key number k w.past.rulings ruling found in
    let there = ap (λ (x : ℕ × ℕ). ruling_at x.0 x.1 w.past.rulings) (λ i. (key.0 i, key.1 i)) ∙ found in
    told_now w.past (sound history).one id (side_of w id) exchange heard ruling ((sound history).fits id) opened was
    (same_number ∙ sym key.0)
    ((sound history).ruled ruling.number ruling.k ruling there)
