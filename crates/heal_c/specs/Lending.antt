-- Bytes that are lent.
use Rattle.std.specs.Prelude.{◌≡◌, ⊤}
use Rattle.std.specs.Borrow.{MutBor, Fml, follows_so}
use mathlib.Core.Option.{none}
use Rattle.heal_c.specs.declared.message_handle.HealBytes.{HealBytes}
use Rattle.heal_c.specs.contracts.message_handle.HealBytes.{the_row}

-- once its bytes are lent no more, the handle has the message that it had
abbrev pub StaysLent : MutBor HealBytes → Fml
StaysLent bytes =
    follows_so the_row the_row bytes.ghost_name none (λ _ _. ⊤) (λ after. after.message ≡ bytes.now.message)
