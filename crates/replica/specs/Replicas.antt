-- A replica: what it keeps, and what each of its calls leaves.
use Rattle.std.specs.Prelude.{ℕ, suc, Bool, not, ◌==◌, nat_lt, nat_le, if◌then◌else◌, Option, Some, None, Result, Ok, Err}
use Rattle.partition_table.specs.Tables.{Table}
use Rattle.exchange_law.specs.Sides.{is_above}
use Rattle.replica_law.specs.declared.position.Life.{Life}
use Rattle.replica_law.specs.declared.position.View.{View}
use Rattle.replica_law.specs.declared.position.Position.{Position}
use Rattle.replica_law.specs.Groups.{Entry, Snapshot, same_view, same_position, place, next}
use Rattle.replica.specs.declared.fault.ReplicaFault.{ReplicaFault}
use Rattle.replica.specs.declared.fault.ReplicaFault.TheVariants.{NotPrimary, OtherView, Gap, OwnView, Exhausted, Moved}
use Rattle.replica.specs.declared.replica.Applied.{Applied}
use Rattle.replica.specs.declared.replica.Applied.TheVariants.{Already}
use Rattle.replica.specs.Halves.{HalfState, Edit, first_half, edit_fault, edited}

pub record Replica : Type 0 where
  pub life : Life
  pub half : HalfState
  pub at : Position
  pub led : ℕ  -- the number of the latest view that it started

-- the greatest number of a view or of an operation
abbrev pub max_number : ℕ
max_number = 18446744073709551615

-- the latest view that it started
abbrev pub own_view : Replica → View
own_view r = record { primary = r.life; number = r.led }

-- it may make entries: it is in the latest view that it started
abbrev pub is_primary : Replica → Bool
is_primary r = same_view r.at.view (own_view r)

-- a replica at the start of its view of this number
abbrev pub starting : Life → ℕ → HalfState → Replica
starting life number half = record { life = life; half = half; at = place life number 0; led = number }

abbrev pub new_replica : Life → Replica
new_replica life = starting life 1 first_half

abbrev pub moved : Replica → Position → HalfState → Replica
moved r at half = record r { at = at; half = half }

-- ---- the calls

pub data NodeCall : Type 0 where
  Lead : NodeCall
  Change : (from : Position) → (table : Table) → (latest : Option ℕ) → NodeCall
  Make : (edit : Edit) → NodeCall
  Show : NodeCall
  Follow : (snapshot : Snapshot HalfState) → NodeCall
  Apply : (entry : Entry Edit) → NodeCall

-- the entry that an edit of a primary makes, and the snapshot that a replica makes
abbrev pub entry_made : Replica → Edit → Entry Edit
entry_made r edit = record { at = next r.at; edit = edit }

abbrev pub snapshot_of : Replica → Snapshot HalfState
snapshot_of r = record { at = r.at; state = r.half }

abbrev pub lead_fault : Replica → Option ReplicaFault
lead_fault r = if nat_lt r.led max_number then None else Some Exhausted

-- the exchange began at another position, or no number is left
abbrev pub change_fault : Replica → Position → Option ReplicaFault
change_fault r from = if not (same_position r.at from) then Some Moved else lead_fault r

-- the first of these: it isn't the primary, its view is full, the half refuses the edit
abbrev pub make_fault : Replica → Edit → Option ReplicaFault
make_fault r edit =
    if not (is_primary r) then Some NotPrimary
    else (if not (nat_lt r.at.op max_number) then Some Exhausted else edit_fault r.half edit)

-- those of them that come before the half is looked at, and need no memory
abbrev pub early_make_fault : Replica → Option ReplicaFault
early_make_fault r =
    if not (is_primary r) then Some NotPrimary
    else (if not (nat_lt r.at.op max_number) then Some Exhausted else None)

-- a replica takes no snapshot of the latest view that it started
abbrev pub follow_fault : Replica → Snapshot HalfState → Option ReplicaFault
follow_fault r snapshot = if same_view snapshot.at.view (own_view r) then Some OwnView else None

-- the replica has this entry of its view already
abbrev pub is_repeated : Replica → Entry Edit → Bool
is_repeated r entry = nat_le entry.at.op r.at.op

-- the entry is the next of the replica's view
abbrev pub is_next : Replica → Entry Edit → Bool
is_next r entry = entry.at.op == suc r.at.op

abbrev pub apply_fault : Replica → Entry Edit → Option ReplicaFault
apply_fault r entry =
    if not (same_view entry.at.view r.at.view) then Some OtherView
    else (if is_repeated r entry then None
    else (if is_next r entry then edit_fault r.half entry.edit else Some Gap))

-- the answer to an entry whose edit isn't carried out, which needs no memory
abbrev pub early_answer : Replica → Entry Edit → Option (Result Applied ReplicaFault)
early_answer r entry =
    if not (same_view entry.at.view r.at.view) then Some (Err OtherView)
    else (if is_repeated r entry then Some (Ok Already)
    else (if is_next r entry then None else Some (Err Gap)))

abbrev pub applied : Replica → Entry Edit → Replica
applied r entry = if is_repeated r entry then r else moved r (next r.at) (edited r.half entry.edit)

-- the refusal that a call is due
abbrev pub call_fault : Replica → NodeCall → Option ReplicaFault
call_fault r Lead = lead_fault r
call_fault r (Change from table latest) = change_fault r from
call_fault r (Make edit) = make_fault r edit
call_fault r Show = None
call_fault r (Follow snapshot) = follow_fault r snapshot
call_fault r (Apply entry) = apply_fault r entry

-- the greater of two numbers of exchanges, if there is one
abbrev pub greater : Option ℕ → Option ℕ → Option ℕ
greater None other = other
greater (Some number) other = if is_above number other then Some number else other

-- a half after an exchange: another table, and the greater of its number and the exchange's
abbrev pub changed : HalfState → Table → Option ℕ → HalfState
changed half table latest = record half { table = table; latest = greater half.latest latest }

-- what a call that isn't refused leaves
abbrev pub left_by : Replica → NodeCall → Replica
left_by r Lead = starting r.life (suc r.led) r.half
left_by r (Change from table latest) = starting r.life (suc r.led) (changed r.half table latest)
left_by r (Make edit) = moved r (next r.at) (edited r.half edit)
left_by r Show = r
left_by r (Follow snapshot) = moved r snapshot.at snapshot.state
left_by r (Apply entry) = applied r entry
