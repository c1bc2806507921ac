-- Registrations by their terms.
use Rattle.clash_record.specs.declared.registrations.Registration.{Registration}
use Rattle.clash_record.specs.declared.registrations.ResolverId.{ResolverId}
use Rattle.clash_record.specs.declared.registrations.Terms.{Terms}

-- all of a registration but its resolver
abbrev pub registration_terms : Registration → Terms
registration_terms r = record { owner = r.owner; stamp = r.stamp; weight = r.weight; extra = r.extra }

-- the registration on these terms with this resolver
abbrev pub registration_on : Terms → ResolverId → Registration
registration_on terms resolver = record {
  owner = terms.owner;
  stamp = terms.stamp;
  weight = terms.weight;
  extra = terms.extra;
  resolver = resolver;
}
