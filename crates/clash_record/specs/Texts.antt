-- How names' owners, sides and resolvers are printed.
use Rattle.std.specs.Prelude.{ℕ, List, [], ◌∷◌, ◌++◌, Option, codes}
use Rattle.std.specs.List.{find}
use Rattle.std.specs.Str.{bytes_eq}
use Rattle.std.specs.Fmt.{decimal}
use Rattle.clash_record.specs.declared.registrations.Owner.{Owner}
use Rattle.clash_record.specs.declared.registrations.Builtin.{Builtin}
use Rattle.clash_record.specs.declared.registrations.Builtin.TheVariants.{Exit, Notify, NotifyAll}
use Rattle.clash_record.specs.declared.side_id.SideId.{SideId}
use Rattle.clash_record.specs.declared.side_id.SideId.TheVariants.{A, B}

-- an owner, as `1.10`
abbrev pub owner_text : Owner → List ℕ
owner_text owner = decimal owner.node ++ (codes "." ++ decimal owner.serial)

-- a built-in resolver
abbrev pub builtin_text : Builtin → List ℕ
builtin_text Exit = codes "exit"
builtin_text Notify = codes "notify"
builtin_text NotifyAll = codes "notify-all"

-- the built-in resolver of a word
abbrev pub builtin_of : List ℕ → Option Builtin
builtin_of word = find (λ builtin. bytes_eq word (builtin_text builtin)) (Exit ∷ Notify ∷ NotifyAll ∷ [])

-- a side
abbrev pub side_text : SideId → List ℕ
side_text A = codes "a"
side_text B = codes "b"
