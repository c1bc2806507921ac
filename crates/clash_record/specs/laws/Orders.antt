-- The orders of names, ids and registrations are total, and what compares alike is equal.
use Rattle.std.specs.Prelude.{◌≡◌, ℕ, List, refl}
use Rattle.std.proofs.Common.{sym, ap, ◌∙◌}
use Rattle.std.specs.declared.cmp.Ordering.{Ordering}
use Rattle.std.specs.declared.cmp.Ordering.TheVariants.{Less, Equal, Greater}
use Rattle.std.specs.Cmp.{IsTotalOrder}
use Rattle.std.specs.FinMap.{IsAntisymmetric}
use Rattle.std.specs.Ordering.{nat_cmp, ordering_then, ordering_reverse}
use Rattle.std.specs.Cmp.Lexicographic.{slice_cmp}
use Rattle.std.proofs.lemmas.Cmp.{nat_cmp_total, nat_list_cmp_total, on_total, then_total}
use Rattle.std.proofs.lemmas.Map.Lookups.{exact_bytes, exact_pairs, exact_unsigned}
use Rattle.clash_record.specs.declared.registrations.Owner.{Owner}
use Rattle.clash_record.specs.declared.registrations.Builtin.TheVariants.{Exit, Notify, NotifyAll}
use Rattle.clash_record.specs.declared.registrations.ProgramId.{ProgramId}
use Rattle.clash_record.specs.declared.registrations.ResolverId.{ResolverId}
use Rattle.clash_record.specs.declared.registrations.ResolverId.TheVariants as by
use Rattle.clash_record.specs.declared.registrations.Registration.{Registration}
use Rattle.clash_record.specs.Orders.{name_cmp, id_cmp, owner_cmp, builtin_place, resolver_cmp, registration_cmp}
use Rattle.clash_record.specs.laws.Codings.{resolver_parts, resolver_of, resolver_back, fields, registration_of}

-- names
pub names_total : IsTotalOrder name_cmp
names_total = nat_list_cmp_total

pub names_exact : IsAntisymmetric name_cmp
names_exact = exact_bytes

-- ids of programs
pub ids_total : IsTotalOrder id_cmp
ids_total = on_total (λ (id : ProgramId). id.0) nat_list_cmp_total

pub ids_exact : IsAntisymmetric id_cmp
ids_exact a b h = ap (λ (bytes : List ℕ). record { 0 = bytes }) (exact_bytes a.0 b.0 h)

-- resolvers, compared by their parts
by_parts : ResolverId → ResolverId → Ordering
by_parts a b =
    ordering_then (nat_cmp (resolver_parts a).0 (resolver_parts b).0)
    (slice_cmp nat_cmp (resolver_parts a).1 (resolver_parts b).1)

then_equal : (o : Ordering) → ordering_then o Equal ≡ o
then_equal Less = refl
then_equal Equal = refl
then_equal Greater = refl

by_parts-is : (a b : ResolverId) → by_parts a b ≡ resolver_cmp a b
unfolding by_parts
by_parts-is (by.Builtin a) (by.Builtin b) = then_equal (nat_cmp (builtin_place a) (builtin_place b))
by_parts-is (by.Builtin Exit) (by.Program q) = refl
by_parts-is (by.Builtin Notify) (by.Program q) = refl
by_parts-is (by.Builtin NotifyAll) (by.Program q) = refl
by_parts-is (by.Program p) (by.Builtin Exit) = refl
by_parts-is (by.Program p) (by.Builtin Notify) = refl
by_parts-is (by.Program p) (by.Builtin NotifyAll) = refl
by_parts-is (by.Program p) (by.Program q) = refl

by_parts_total : IsTotalOrder by_parts
unfolding by_parts
by_parts_total =
    then_total (on_total (λ r. (resolver_parts r).0) nat_cmp_total)
    (on_total (λ r. (resolver_parts r).1) nat_list_cmp_total)

pub resolvers_total : IsTotalOrder resolver_cmp
resolvers_total =
    let total = by_parts_total in
    record {
      antisymm = λ a b. sym (by_parts-is a b) ∙ total.antisymm a b ∙ ap ordering_reverse (by_parts-is b a);
      trans = λ a b c first second.
          sym (by_parts-is a c) ∙ total.trans a b c (by_parts-is a b ∙ first) (by_parts-is b c ∙ second);
      congr = λ a b c alike.
          sym (by_parts-is a c) ∙ total.congr a b c (by_parts-is a b ∙ alike) ∙ by_parts-is b c;
    }

pub resolvers_exact : IsAntisymmetric resolver_cmp
unfolding by_parts
resolvers_exact a b h =
    sym (resolver_back a)
    ∙ ap resolver_of (exact_pairs nat_cmp (slice_cmp nat_cmp) exact_unsigned exact_bytes
    (resolver_parts a) (resolver_parts b) (by_parts-is a b ∙ h))
    ∙ resolver_back b

-- owners
owners_total : IsTotalOrder owner_cmp
owners_total =
    then_total (on_total (λ (o : Owner). o.node) nat_cmp_total) (on_total (λ (o : Owner). o.serial) nat_cmp_total)

owners_exact : IsAntisymmetric owner_cmp
owners_exact a b h =
    ap (λ (o : ℕ × ℕ). record { node = o.0; serial = o.1 })
    (exact_pairs nat_cmp nat_cmp exact_unsigned exact_unsigned (a.node, a.serial) (b.node, b.serial) h)

-- registrations, field by field
pub registrations_total : IsTotalOrder registration_cmp
registrations_total =
    then_total (on_total (λ (r : Registration). r.owner) owners_total)
    (then_total (on_total (λ (r : Registration). r.stamp) nat_cmp_total)
    (then_total (on_total (λ (r : Registration). r.weight) nat_cmp_total)
    (then_total (on_total (λ (r : Registration). r.extra) nat_list_cmp_total)
    (on_total (λ (r : Registration). r.resolver) resolvers_total))))

pub registrations_exact : IsAntisymmetric registration_cmp
registrations_exact a b h =
    ap registration_of (exact_pairs owner_cmp _ owners_exact
    (exact_pairs nat_cmp _ exact_unsigned
    (exact_pairs nat_cmp _ exact_unsigned
    (exact_pairs (slice_cmp nat_cmp) resolver_cmp exact_bytes resolvers_exact)))
    (fields a) (fields b) h)
