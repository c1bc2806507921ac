-- Names, ids and registrations as data, for the finite maps of other crates.
use Rattle.std.specs.Prelude.{◌≡◌, ℕ, ◌==◌, if◌then◌else◌, List, [], refl}
use Rattle.std.specs.Coded.{Coded, code_by, coded×, coded_ℕ, coded_list}
use Rattle.clash_record.specs.declared.registrations.Owner.{Owner}
use Rattle.clash_record.specs.declared.registrations.Builtin.TheVariants.{Exit, Notify, NotifyAll}
use Rattle.clash_record.specs.declared.registrations.ProgramId.{ProgramId}
use Rattle.clash_record.specs.declared.registrations.ResolverId.{ResolverId}
use Rattle.clash_record.specs.declared.registrations.ResolverId.TheVariants as by
use Rattle.clash_record.specs.declared.registrations.Registration.{Registration}
use Rattle.clash_record.specs.Orders.{builtin_place}

-- a name is the list of its bytes
abbrev pub coded_name : Coded (List ℕ)
coded_name = coded_list coded_ℕ

-- an id is the list of its bytes
abbrev pub coded_id : Coded ProgramId
coded_id = code_by (List ℕ) (coded_list coded_ℕ) (λ id. id.0) (λ bytes. record { 0 = bytes }) (λ _. refl)

-- an owner is the pair of its numbers
abbrev pub coded_owner : Coded Owner
coded_owner =
    code_by (ℕ × ℕ) (coded× coded_ℕ coded_ℕ)
    (λ o. (o.node, o.serial)) (λ p. record { node = p.0; serial = p.1 }) (λ _. refl)

-- a resolver as its place, a program's being 3, and the bytes of its id
abbrev pub resolver_parts : ResolverId → ℕ × List ℕ
resolver_parts (by.Builtin b) = (builtin_place b, [])
resolver_parts (by.Program id) = (3, id.0)

-- the resolver of these parts
abbrev pub resolver_of : ℕ × List ℕ → ResolverId
resolver_of parts =
    if parts.0 == 0 then by.Builtin Exit
    else (if parts.0 == 1 then by.Builtin Notify
    else (if parts.0 == 2 then by.Builtin NotifyAll else by.Program record { 0 = parts.1 }))

-- the parts give the resolver back
pub resolver_back : (r : ResolverId) → resolver_of (resolver_parts r) ≡ r
resolver_back (by.Builtin Exit) = refl
resolver_back (by.Builtin Notify) = refl
resolver_back (by.Builtin NotifyAll) = refl
resolver_back (by.Program id) = refl

-- a resolver is the pair of its parts
abbrev pub coded_resolver : Coded ResolverId
coded_resolver =
    code_by (ℕ × List ℕ) (coded× coded_ℕ (coded_list coded_ℕ)) resolver_parts resolver_of resolver_back

-- the fields of a registration
abbrev pub Fields : Type 0
Fields = Owner × (ℕ × (ℕ × (List ℕ × ResolverId)))

abbrev pub fields : Registration → Fields
fields r = (r.owner, (r.stamp, (r.weight, (r.extra, r.resolver))))

-- the registration of these fields
abbrev pub registration_of : Fields → Registration
registration_of f =
    record { owner = f.0; stamp = f.1.0; weight = f.1.1.0; extra = f.1.1.1.0; resolver = f.1.1.1.1 }

-- a registration is the list of its fields
abbrev pub coded_registration : Coded Registration
coded_registration =
    code_by Fields (coded× coded_owner (coded× coded_ℕ (coded× coded_ℕ (coded× coded_name coded_resolver))))
    fields registration_of (λ _. refl)
