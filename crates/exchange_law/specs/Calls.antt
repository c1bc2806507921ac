-- The calls of a side with what they are given, and the side that a list of them leads to.
use Rattle.std.specs.Prelude.{◌≡◌, ℕ, Bool, true, false, List, [], ◌∷◌, Option, unwrap_or}
use Rattle.clash_record.specs.Name.{Name}
use Rattle.partition_table.specs.Tables.{Row}
use Rattle.clash_record.specs.declared.side_id.SideId.{SideId}
use Rattle.exchange_law.specs.Sides.{Offer, Withdrawals, Judged, Side, new_side, register, unregister, begin, hear, take, withdraw, close_list, hear_list, finish, abandon}

pub data Call : Type 0 where
  Register : (name : Name) → (row : Row) → Call
  Unregister : (name : Name) → Call
  Begin : (number seed uptime : ℕ) → Call
  Hear : (offer : Offer) → Call
  Take : (number k : ℕ) → (judged : Judged) → Call
  Withdraw : (name : Name) → Call
  Close_list : Call
  Hear_list : (sent : Withdrawals) → Call
  Finish : Call
  Abandon : Call

-- what a call leaves; none where it is refused
abbrev pub carried_out : Side → Call → Option Side
carried_out side (Register name row) = register side name row
carried_out side (Unregister name) = unregister side name
carried_out side (Begin number seed uptime) = begin side number seed uptime
carried_out side (Hear offer) = hear side offer
carried_out side (Take number k judged) = take side number k judged
carried_out side (Withdraw name) = withdraw side name
carried_out side Close_list = close_list side
carried_out side (Hear_list sent) = hear_list side sent
carried_out side Finish = finish side
carried_out side Abandon = abandon side

-- the side that calls lead to, the latest first; one that is refused changes nothing
abbrev pub replay : SideId → List Call → Side
replay id [] = new_side id
replay id (call ∷ earlier) = unwrap_or (carried_out (replay id earlier) call) (replay id earlier)

-- it is handed a message
abbrev pub takes_message : Call → Bool
takes_message (Hear offer) = true
takes_message (Take number k judged) = true
takes_message (Hear_list sent) = true
takes_message call = false

-- the calls lead to the side
abbrev pub IsJournal : List Call → Side → Type 0
IsJournal calls side = replay side.id calls ≡ side
