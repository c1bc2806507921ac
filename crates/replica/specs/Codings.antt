-- Equality of halves, replicas and snapshots.
use Rattle.std.specs.Prelude.{ℕ, Option, refl}
use Rattle.std.specs.Coded.{Coded, code_by, coded×, coded_ℕ, coded_option}
use Rattle.partition_table.specs.Tables.{Table}
use Rattle.partition_table.specs.Views.{coded_table}
use Rattle.upload_store.specs.Programs.{Programs, coded_programs}
use Rattle.replica_law.specs.declared.position.Life.{Life}
use Rattle.replica_law.specs.declared.position.Position.{Position}
use Rattle.replica_law.specs.Groups.{Snapshot}
use Rattle.replica_law.specs.contracts.position.Life as life
use Rattle.replica_law.specs.contracts.position.Position as position
use Rattle.replica.specs.Halves.{HalfState}
use Rattle.replica.specs.Replicas.{Replica}

abbrev pub coded_half : Coded HalfState
coded_half =
    code_by (Programs × (Table × (ℕ × Option ℕ)))
    (coded× coded_programs (coded× coded_table (coded× coded_ℕ (coded_option coded_ℕ))))
    (λ h. (h.store, (h.table, (h.limit, h.latest))))
    (λ p. record { store = p.0; table = p.1.0; limit = p.1.1.0; latest = p.1.1.1 }) (λ _. refl)

abbrev pub coded_snapshot : Coded (Snapshot HalfState)
coded_snapshot =
    code_by (Position × HalfState) (coded× position.the_row.coded coded_half) (λ s. (s.at, s.state)) (λ p. record {
      at = p.0;
      state = p.1;
    }) (λ _. refl)

abbrev pub coded_replica : Coded Replica
coded_replica =
    code_by (Life × (HalfState × (Position × ℕ)))
    (coded× life.the_row.coded (coded× coded_half (coded× position.the_row.coded coded_ℕ)))
    (λ r. (r.life, (r.half, (r.at, r.led))))
    (λ p. record { life = p.0; half = p.1.0; at = p.1.1.0; led = p.1.1.1 }) (λ _. refl)
