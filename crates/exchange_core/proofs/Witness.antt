-- Two halves without names that finish an exchange.
use Rattle.std.proofs.Common.{◌≡◌, ◌+◌, Bool, true, not, nat_le, ◌&&◌, if◌then◌else◌, List, [], ◌∷◌, length, map, filter, replicate, Option, Some, None, refl, ap, ◌∙◌, option_map, arith}
use Rattle.std.proofs.lemmas.List.{nil_from_length}
use Rattle.std.specs.List.{list_all, filter_map}
use Rattle.std.specs.FinMap.{empty, get, entries, contains_key, len-entries, len-empty}
use Rattle.clash_record.specs.Orders.{name_cmp}
use Rattle.clash_record.specs.declared.side_id.SideId.{SideId}
use Rattle.clash_record.specs.declared.side_id.SideId.TheVariants.{A, B}
use Rattle.clash_record.specs.Name.{Name}
use Rattle.partition_table.specs.Tables.{Row, Table, Clash, clash_at, clashes, facts_of, merge, fit_together, agrees_with, most_names}
use Rattle.exchange_law.specs.Sides.{Offer, Judged, Exchange, Side, new_exchange, hear, finish}
use Rattle.exchange_law.specs.Calls.{Begin, Close_list, Finish}
use Rattle.exchange_law.specs.Worlds.{World, Past, Does, Hears, Hears_list, side_of, with_side}
use Rattle.exchange_core.specs.Finished.{finished_from}
use Rattle.exchange_core.specs.Settling.{judged_in, filled, settled, the_round}
use Rattle.exchange_core.specs.Halves.{Act, Happens, Settles, after_act, halves_after, BothFinish}

abbrev none : Table
none = empty

no_entries : entries none ≡ []
no_entries = nil_from_length (entries none) (omega (arith, len-entries none, len-empty name_cmp Row))

-- two empty tables fit together, and have no clashes
fit : fit_together none none ≡ true
fit =
    let test = λ (es : List (Name × Row)).
    nat_le (length (map (λ e. e.0) es) + length (filter (λ name. not (contains_key none name)) (map (λ e. e.0) es)))
    most_names && list_all (agrees_with none) (map (λ e. e.1) es) in
    ap test no_entries

no_clashes : clashes none 0 none 0 ≡ []
unfolding clashes
no_clashes =
    let at = λ (name : Name). clash_at (facts_of none 0) (facts_of none 0) name (get none name) (get none name) in
    ap (λ (es : List (Name × Row)). filter_map at (map (λ e. e.0) es)) no_entries

-- a side in the exchange, with these rulings
abbrev in_exchange_with : SideId → List (Option Judged) → Side
in_exchange_with id rulings = record {
  id = id;
  table = none;
  exchange = Some (record (new_exchange 1 0 0) {
    heard = Some (record { table = none; uptime = 0; rulings = rulings });
  });
  latest = Some 1;
}

abbrev begun : SideId → Side
begun id = record { id = id; table = none; exchange = Some (new_exchange 1 0 0); latest = Some 1 }

abbrev offered : SideId → Offer
offered id = record { side = id; number = 1; seed = 0; uptime = 0; table = none }

-- what hearing depends on: whether the tables fit, and their clashes
abbrev after_hearing : SideId → Bool → List Clash → Option Side
after_hearing id b l = option_map (λ (x : Exchange). record (begun id) { exchange = Some x })
    (if b then Some (record (new_exchange 1 0 0) {
      heard = Some (record { table = none; uptime = 0; rulings = replicate (length l) None });
    }) else None)

heard_a : hear (begun A) (offered B) ≡ Some (in_exchange_with A [])
heard_a = λ i. after_hearing A (fit i) (no_clashes i)

heard_b : hear (begun B) (offered A) ≡ Some (in_exchange_with B [])
heard_b = λ i. after_hearing B (fit i) (no_clashes i)

-- a side without clashes has nothing to settle
abbrev after_settling : SideId → List Clash → Side
after_settling id l = in_exchange_with id (filled (judged_in 0 the_round (length l)) 0 l [])

settled_a : settled the_round (in_exchange_with A []) ≡ in_exchange_with A []
settled_a = ap (after_settling A) no_clashes

settled_b : settled the_round (in_exchange_with B []) ≡ in_exchange_with B []
settled_b = ap (after_settling B) no_clashes

abbrev sent : Past
sent = record { offers = offered B ∷ offered A ∷ []; lists = []; rulings = [] }

abbrev open_world : World
open_world = record { a = in_exchange_with A []; b = in_exchange_with B []; past = sent }

abbrev settled_acts : List Act
settled_acts =
    Settles B ∷ Settles A ∷ Happens (Hears B 1) ∷ Happens (Hears A 0) ∷ Happens (Does B (Begin 1 0 0))
    ∷ Happens (Does A (Begin 1 0 0)) ∷ []

opened : halves_after settled_acts ≡ open_world
opened =
    ap (λ (o : Option Side). after_act (after_act (after_act
    (with_side (record { a = begun A; b = begun B; past = sent }) A sent o)
    (Happens (Hears B 1))) (Settles A)) (Settles B)) heard_a
    ∙ ap (λ (o : Option Side). after_act (after_act
    (with_side (record { a = in_exchange_with A []; b = begun B; past = sent }) B sent o) (Settles A)) (Settles B)) heard_b
    ∙ ap (λ (s : Side). after_act (record { a = s; b = in_exchange_with B []; past = sent }) (Settles B)) settled_a
    ∙ ap (λ (s : Side). record { a = in_exchange_with A []; b = s; past = sent }) settled_b

-- the lists are closed and heard
abbrev listed : World → World
listed w = after_act (after_act (after_act (after_act w (Happens (Does A Close_list))) (Happens (Does B Close_list)))
    (Happens (Hears_list A 0))) (Happens (Hears_list B 1))

abbrev ready : List Act
ready =
    Happens (Hears_list B 1) ∷ Happens (Hears_list A 0) ∷ Happens (Does B Close_list) ∷ Happens (Does A Close_list)
    ∷ settled_acts

pub both_finish : BothFinish
both_finish =
    record {
      acts = Happens (Does B Finish) ∷ Happens (Does A Finish) ∷ ready;
      outcome = record {
        number = 1;
        seed = 0;
        a = none;
        uptime_a = 0;
        b = none;
        uptime_b = 0;
        gone = record { of_a = []; of_b = [] };
        rulings = [];
        table = merge none none [] (record { of_a = []; of_b = [] });
      };
      left_a = record { id = A; table = merge none none [] (record { of_a = []; of_b = [] }); exchange = None; latest = Some 1 };
      left_b = record { id = B; table = merge none none [] (record { of_a = []; of_b = [] }); exchange = None; latest = Some 1 };
      a = record {
        earlier = ready;
        later = Happens (Does B Finish) ∷ [];
        place = refl;
        carried = ap (λ (w : World). finish (side_of (listed w) A)) opened;
        gives = ap (λ (w : World). finished_from (side_of (listed w) A)) opened;
      };
      b = record {
        earlier = Happens (Does A Finish) ∷ ready;
        later = [];
        place = refl;
        carried = ap (λ (w : World). finish (side_of (after_act (listed w) (Happens (Does A Finish))) B)) opened;
        gives = ap (λ (w : World). finished_from (side_of (after_act (listed w) (Happens (Does A Finish))) B)) opened;
      };
    }
