-- The parts of a half that contracts see.
use Rattle.std.specs.Prelude.{refl}
use Rattle.std.specs.Coded.{Coded, code_by, coded×}
use Rattle.upload_store.specs.Programs.{Programs, coded_programs}
use Rattle.exchange_core.specs.declared.side.Side.{Side}
use Rattle.exchange_core.specs.contracts.side.Side as side

-- its side of exchanges, and the programs that its registrations may name
pub record SideAndStore : Type 0 where
  pub side : Side
  pub store : Programs

abbrev pub side_and_store : Side → Programs → SideAndStore
side_and_store side store = record { side = side; store = store }

-- a half is the pair of its parts
abbrev pub coded_side_and_store : Coded SideAndStore
coded_side_and_store =
    code_by (Side × Programs) (coded× side.the_row.coded coded_programs) (λ h. (h.side, h.store))
    (λ p. record { side = p.0; store = p.1 }) (λ _. refl)
