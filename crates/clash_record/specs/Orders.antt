-- The orders of names, ids and registrations.
use Rattle.std.specs.Prelude.{ℕ, List}
use Rattle.std.specs.declared.cmp.Ordering.{Ordering}
use Rattle.std.specs.declared.cmp.Ordering.TheVariants.{Less, Greater}
use Rattle.std.specs.Ordering.{nat_cmp, ordering_then}
use Rattle.std.specs.Cmp.Lexicographic.{slice_cmp}
use Rattle.clash_record.specs.declared.registrations.Owner.{Owner}
use Rattle.clash_record.specs.declared.registrations.Builtin.{Builtin}
use Rattle.clash_record.specs.declared.registrations.Builtin.TheVariants.{Exit, Notify, NotifyAll}
use Rattle.clash_record.specs.declared.registrations.ProgramId.{ProgramId}
use Rattle.clash_record.specs.declared.registrations.ResolverId.{ResolverId}
use Rattle.clash_record.specs.declared.registrations.ResolverId.TheVariants as by
use Rattle.clash_record.specs.declared.registrations.Registration.{Registration}

-- names by their bytes, a shorter one before a longer that begins with it
abbrev pub name_cmp : List ℕ → List ℕ → Ordering
name_cmp a b = slice_cmp nat_cmp a b

-- ids of programs by their bytes
abbrev pub id_cmp : ProgramId → ProgramId → Ordering
id_cmp p q = slice_cmp nat_cmp p.0 q.0

-- owners by node, and then by serial number
abbrev pub owner_cmp : Owner → Owner → Ordering
owner_cmp a b = ordering_then (nat_cmp a.node b.node) (nat_cmp a.serial b.serial)

-- the built-in resolvers stand so: exit, notify, notify-all
abbrev pub builtin_place : Builtin → ℕ
builtin_place Exit = 0
builtin_place Notify = 1
builtin_place NotifyAll = 2

-- the built-in resolvers by their places, and then the programs by their ids
abbrev pub resolver_cmp : ResolverId → ResolverId → Ordering
resolver_cmp (by.Builtin a) (by.Builtin b) = nat_cmp (builtin_place a) (builtin_place b)
resolver_cmp (by.Builtin a) (by.Program q) = Less
resolver_cmp (by.Program p) (by.Builtin b) = Greater
resolver_cmp (by.Program p) (by.Program q) = id_cmp p q

-- registrations by owner, stamp, weight, the extra bytes, and then the resolver
abbrev pub registration_cmp : Registration → Registration → Ordering
registration_cmp a b =
    ordering_then (owner_cmp a.owner b.owner)
    (ordering_then (nat_cmp a.stamp b.stamp)
    (ordering_then (nat_cmp a.weight b.weight)
    (ordering_then (slice_cmp nat_cmp a.extra b.extra)
    (resolver_cmp a.resolver b.resolver))))
