-- Lives, positions and states of replicas as C reads and writes them.
use Rattle.std.specs.Prelude.{is_some}
use Rattle.std.specs.Option.{unwrap_or}
use Rattle.std.specs.FinMap.{len}
use Rattle.replica_law.specs.declared.position.Life.{Life}
use Rattle.replica_law.specs.declared.position.Position.{Position}
use Rattle.replica.specs.Replicas.{Replica, is_primary}
use Rattle.c_calls.specs.Queries.{flag}
use Rattle.c_replicas.specs.declared.positions.HealLife.{HealLife}
use Rattle.c_replicas.specs.declared.positions.HealPosition.{HealPosition}
use Rattle.c_replicas.specs.declared.positions.HealReplicaState.{HealReplicaState}

abbrev pub life_of : HealLife → Life
life_of l = record { node = l.node; incarnation = l.incarnation }

abbrev pub life_code : Life → HealLife
life_code l = record { incarnation = l.incarnation; node = l.node; reserved = 0 }

abbrev pub position_of : HealPosition → Position
position_of p = record { view = record { primary = life_of p.primary; number = p.view }; op = p.op }

abbrev pub position_code : Position → HealPosition
position_code p = record { primary = life_code p.view.primary; view = p.view.number; op = p.op; reserved = 0 }

abbrev pub state_code : Replica → HealReplicaState
state_code r = record {
  at = position_code r.at;
  names = len r.half.table;
  limit = r.half.limit;
  latest = unwrap_or r.half.latest 0;
  has_begun = flag (is_some r.half.latest);
  is_primary = flag (is_primary r);
  reserved = 0;
}
