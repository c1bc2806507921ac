-- A side begins a number once and closes one list of it, and a clash is judged once.
use Rattle.std.proofs.Common.{◌≡◌, ℕ, cond, ◌&&◌, List, ◌∷◌, Option, Some, None, is_some, eq-eqb, refl, sym, ap, ◌∙◌, subst}
use Rattle.clash_record.specs.declared.side_id.SideId.{SideId}
use Rattle.clash_record.specs.declared.side_id.SideId.TheVariants.{A, B}
use Rattle.clash_record.specs.Name.{Name}
use Rattle.partition_table.specs.Tables.{Table, Clash}
use Rattle.exchange_law.specs.Sides.{Offer, Withdrawals, Side, begin, close_list}
use Rattle.exchange_law.specs.Calls.{Begin, Close_list}
use Rattle.exchange_law.specs.Worlds.{Ruling, ruling_of, ruling_at, Past, World, Event, Does, side_of, past_after, with_side, world_after}
use Rattle.exchange_law.specs.History.{Follows, BeganWith, FinishedWith, JudgedAt, ClosedWith}
use Rattle.exchange_law.specs.laws.Carried.{some_inj}
use Rattle.exchange_law.specs.laws.Kept.{Has, made, made_list, Grows}
use Rattle.exchange_law.specs.laws.Steps.{past_is, sound, grows_on}
use Rattle.exchange_law.proofs.OneTable.{merged}

-- the past right after a step is still there at the end
since : {earlier history : List Event} {step : Event} → Follows earlier step history →
    Grows (world_after (step ∷ earlier)).past (world_after history).past
since {earlier} {history} {step} f =
    subst (λ l. Grows (world_after (step ∷ earlier)).past (world_after l).past) f.1 (grows_on f.0 (step ∷ earlier))

past_now : (w : World) (id : SideId) (more : Past) (o : Option Side) (new : Side) → o ≡ Some new →
    (with_side w id more o).past ≡ more
past_now w id more o new e = ap (λ x. (with_side w id more x).past) e ∙ past_is w id new more

began_has : {history : List Event} {id : SideId} {number seed uptime : ℕ} {table : Table} →
    BeganWith history id number seed uptime table →
    Has (world_after history).past.offers (made id number seed uptime table)
began_has {history} {id} {number} {seed} {uptime} {table} h =
    (since h.place).made_still _ (by_begin (begin (side_of (world_after h.earlier) id) number seed uptime) refl)
  where
    by_begin : (o : Option Side) → begin (side_of (world_after h.earlier) id) number seed uptime ≡ o →
        let w = world_after (Does id (Begin number seed uptime) ∷ h.earlier) in
        Has w.past.offers (made id number seed uptime table)
    by_begin None is = let begins = h.begins in let refused = ap is_some is in absurd (cc)
    by_begin (Some new) is =
        let w = world_after h.earlier in
        let side = side_of w id in
        let more = past_after w.past side (Begin number seed uptime) in
        subst (λ (p : Past). Has p.offers (made id number seed uptime table))
        (sym (past_now w id more (begin side number seed uptime) new is))
        (0, ap Some (λ i. made (((sound h.earlier).fits id).same_id i) number seed uptime (h.has i)))

pub began_once : (history : List Event) (id : SideId) (number s t u v : ℕ) (a b : Table) →
    BeganWith history id number s u a → BeganWith history id number t v b → (s ≡ t) × (u ≡ v) × (a ≡ b)
began_once history id number s t u v a b h g =
    let e = (sound history).one.one_offer _ _ (began_has h) (began_has g) refl refl in
    (ap (λ (o : Offer). o.seed) e, ap (λ (o : Offer). o.uptime) e, ap (λ (o : Offer). o.table) e)

closed_has : {history : List Event} {id : SideId} {number : ℕ} {names : List Name} →
    ClosedWith history id number names → Has (world_after history).past.lists (made_list id number names)
closed_has {history} {id} {number} {names} h =
    (since h.place).list_still _ (by_close (close_list (side_of (world_after h.earlier) id)) refl)
  where
    by_close : (o : Option Side) → close_list (side_of (world_after h.earlier) id) ≡ o →
        Has (world_after (Does id Close_list ∷ h.earlier)).past.lists (made_list id number names)
    by_close None is = let closes = h.closes in let refused = ap is_some is in absurd (cc)
    by_close (Some new) is =
        let w = world_after h.earlier in
        let side = side_of w id in
        subst (λ (p : Past). Has p.lists (made_list id number names))
        (sym (past_now w id (past_after w.past side Close_list) (close_list side) new is))
        (0, ap Some h.sends)

pub closed_once : (history : List Event) (id : SideId) (number : ℕ) (m n : List Name) → ClosedWith history id number m →
    ClosedWith history id number n → m ≡ n
closed_once history id number m n h g =
    ap (λ (l : Withdrawals). l.names) ((sound history).one.one_list _ _ (closed_has h) (closed_has g) refl refl)

judged_has : {history : List Event} {number k : ℕ} {clash : Clash} {word : ℕ} → JudgedAt history number k clash word →
    ruling_at number k (world_after history).past.rulings ≡ Some (ruling_of number k word clash)
judged_has {history} {number} {k} {clash} {word} h =
    (since h.place).found_still number k _
    (ap (ruling_at number k) h.adds
    ∙ (λ i. cond (eq-eqb number number refl i && eq-eqb k k refl i) (Some (ruling_of number k word clash))
    (ruling_at number k (world_after h.earlier).past.rulings)))

pub judged_once : (history : List Event) (number k : ℕ) (c d : Clash) (u v : ℕ) → JudgedAt history number k c u →
    JudgedAt history number k d v → (c ≡ d) × (u ≡ v)
judged_once history number k c d u v h g =
    let e : ruling_of number k u c ≡ ruling_of number k v d = some_inj (sym (judged_has h) ∙ judged_has g) in
    (ap (λ (r : Ruling). r.clash) e, ap (λ (r : Ruling). r.judged.word) e)

-- the seeds are one, since a side hears no offer with another seed
pub one_seed : (history : List Event) (number : ℕ) (i : SideId) (table : Table) (s t u v : ℕ) (a b : Table) →
    FinishedWith history i number table → BeganWith history A number s u a → BeganWith history B number t v b → s ≡ t
one_seed history number i table s t u v a b f h g =
    let m = merged history i number table f in
    let one = (sound history).one in
    ap (λ (o : Offer). o.seed) (one.one_offer _ _ (began_has h) m.made_a refl refl)
    ∙ ap (λ (o : Offer). o.seed) (one.one_offer _ _ m.made_b (began_has g) refl refl)
