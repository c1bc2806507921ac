-- Equality of what a side keeps and sends.
use Rattle.std.specs.Prelude.{◌≡◌, ℕ, Bool, ◌==◌, if◌then◌else◌, List, Option, refl}
use Rattle.std.specs.Arc.{arc_value}
use Rattle.std.specs.declared.sync.Arc.{Arc}
use Rattle.std.specs.declared.vec.Vec.{Vec}
use Rattle.std.specs.Coded.{Coded, code_by, coded×, coded_ℕ, coded_bool, coded_list, coded_option}
use Rattle.builtin_resolvers.specs.contracts.verdicts.Verdict3 as verdict
use Rattle.builtin_resolvers.specs.declared.verdicts.Verdict3.{Verdict3}
use Rattle.clash_record.specs.laws.Codings.{coded_name}
use Rattle.clash_record.specs.Name.{Name}
use Rattle.partition_table.specs.Tables.{Table}
use Rattle.partition_table.specs.Views.{coded_table}
use Rattle.clash_record.specs.declared.side_id.SideId.{SideId}
use Rattle.clash_record.specs.declared.side_id.SideId.TheVariants.{A, B}
use Rattle.exchange_law.specs.Sides.{Offer, Withdrawals, Judged, Heard, Exchange, Side}
use Rattle.exchange_core.specs.Finished.{Finished}

-- names that have several owners
abbrev pub names_of : {Y Z : Type 0} → Arc (Vec Name Y) Z → List Name
names_of names = (arc_value names).items

abbrev pub side_place : SideId → ℕ
side_place A = 0
side_place B = 1

abbrev pub side_at : ℕ → SideId
side_at place = if place == 0 then A else B

pub side_back : (id : SideId) → side_at (side_place id) ≡ id
side_back A = refl
side_back B = refl

abbrev pub coded_id : Coded SideId
coded_id = code_by ℕ coded_ℕ side_place side_at side_back

abbrev pub coded_names : Coded (List Name)
coded_names = coded_list coded_name

abbrev pub coded_judged : Coded Judged
coded_judged =
    code_by (ℕ × Verdict3) (coded× coded_ℕ verdict.the_row.coded) (λ j. (j.word, j.answer))
    (λ p. record { word = p.0; answer = p.1 }) (λ _. refl)

abbrev pub coded_offer : Coded Offer
coded_offer =
    code_by (SideId × (ℕ × (ℕ × (ℕ × Table))))
    (coded× coded_id (coded× coded_ℕ (coded× coded_ℕ (coded× coded_ℕ coded_table))))
    (λ o. (o.side, (o.number, (o.seed, (o.uptime, o.table)))))
    (λ p. record { side = p.0; number = p.1.0; seed = p.1.1.0; uptime = p.1.1.1.0; table = p.1.1.1.1 })
    (λ _. refl)

abbrev pub coded_withdrawals : Coded Withdrawals
coded_withdrawals =
    code_by (SideId × (ℕ × List Name)) (coded× coded_id (coded× coded_ℕ coded_names))
    (λ l. (l.side, (l.number, l.names))) (λ p. record { side = p.0; number = p.1.0; names = p.1.1 }) (λ _. refl)

abbrev pub coded_heard : Coded Heard
coded_heard =
    code_by (Table × (ℕ × List (Option Judged)))
    (coded× coded_table (coded× coded_ℕ (coded_list (coded_option coded_judged))))
    (λ h. (h.table, (h.uptime, h.rulings)))
    (λ p. record { table = p.0; uptime = p.1.0; rulings = p.1.1 }) (λ _. refl)

abbrev pub ExchangeParts : Type 0
ExchangeParts = ℕ × (ℕ × (ℕ × (Option Heard × (List Name × (Bool × Option (List Name))))))

abbrev pub coded_exchange : Coded Exchange
coded_exchange =
    code_by ExchangeParts
    (coded× coded_ℕ (coded× coded_ℕ (coded× coded_ℕ (coded× (coded_option coded_heard)
    (coded× coded_names (coded× coded_bool (coded_option coded_names)))))))
    (λ x. (x.number, (x.seed, (x.uptime, (x.heard, (x.withdrawn, (x.closed, x.their_list)))))))
    (λ p. record {
      number = p.0;
      seed = p.1.0;
      uptime = p.1.1.0;
      heard = p.1.1.1.0;
      withdrawn = p.1.1.1.1.0;
      closed = p.1.1.1.1.1.0;
      their_list = p.1.1.1.1.1.1;
    })
    (λ _. refl)

abbrev pub coded_side : Coded Side
coded_side =
    code_by (SideId × (Table × (Option Exchange × Option ℕ)))
    (coded× coded_id (coded× coded_table (coded× (coded_option coded_exchange) (coded_option coded_ℕ))))
    (λ s. (s.id, (s.table, (s.exchange, s.latest))))
    (λ p. record { id = p.0; table = p.1.0; exchange = p.1.1.0; latest = p.1.1.1 }) (λ _. refl)

abbrev pub FinishedParts : Type 0
FinishedParts = ℕ × (ℕ × (Table × (ℕ × (Table × (ℕ × (List Name × (List Name × (List Judged × Table))))))))

abbrev pub coded_finished : Coded Finished
coded_finished =
    code_by FinishedParts
    (coded× coded_ℕ (coded× coded_ℕ (coded× coded_table (coded× coded_ℕ (coded× coded_table (coded× coded_ℕ
    (coded× coded_names (coded× coded_names (coded× (coded_list coded_judged) coded_table)))))))))
    (λ f. (
      f.number,
      (
        f.seed,
        (
          f.a,
          (
            f.uptime_a,
            (
              f.b,
              (
                f.uptime_b,
                (f.gone.of_a, (f.gone.of_b, (f.rulings, f.table))),
              ),
            ),
          ),
        ),
      ),
    ))
    (λ p. record {
      number = p.0;
      seed = p.1.0;
      a = p.1.1.0;
      uptime_a = p.1.1.1.0;
      b = p.1.1.1.1.0;
      uptime_b = p.1.1.1.1.1.0;
      gone = record { of_a = p.1.1.1.1.1.1.0; of_b = p.1.1.1.1.1.1.1.0 };
      rulings = p.1.1.1.1.1.1.1.1.0;
      table = p.1.1.1.1.1.1.1.1.1;
    })
    (λ _. refl)
