-- The structs of C, and what they are codes of.
use Rattle.std.specs.Prelude.{ℕ, ◌==◌, if◌then◌else◌, List, length, replicate, Result, Ok, Err}
use Rattle.clash_record.specs.Name.{Name, is_name, padded}
use Rattle.clash_record.specs.Orders.{builtin_place}
use Rattle.clash_record.specs.declared.records.Facts.{Facts}
use Rattle.clash_record.specs.declared.side_id.SideId.{SideId}
use Rattle.clash_record.specs.declared.side_id.SideId.TheVariants.{A, B}
use Rattle.clash_record.specs.declared.registrations.Owner.{Owner}
use Rattle.clash_record.specs.declared.registrations.Registration.{Registration}
use Rattle.clash_record.specs.declared.registrations.ResolverId.{ResolverId}
use Rattle.clash_record.specs.declared.registrations.ResolverId.TheVariants.{Builtin, Program}
use Rattle.clash_record.specs.declared.registrations.Builtin.TheVariants as by
use Rattle.builtin_resolvers.specs.declared.notice.Notice.{Notice}
use Rattle.builtin_resolvers.specs.declared.notice.Notice.TheVariants.{Exit, Conflict, ConflictWith}
use Rattle.builtin_resolvers.specs.declared.verdicts.Verdict3.{Verdict3}
use Rattle.builtin_resolvers.specs.declared.verdicts.Verdict3.TheVariants.{First, Second, Neither}
use Rattle.c_calls.specs.declared.codes.HealFacts.{HealFacts}
use Rattle.c_calls.specs.declared.codes.HealName.{HealName}
use Rattle.c_calls.specs.declared.codes.HealNotice.{HealNotice}
use Rattle.c_calls.specs.declared.codes.HealOwner.{HealOwner}
use Rattle.c_calls.specs.declared.codes.HealRegistration.{HealRegistration}
use Rattle.c_calls.specs.declared.codes.HealRow.{HealRow}
use Rattle.c_calls.specs.Answers.{and_then}

-- ---- what C gives

-- a name, or 44
abbrev pub given_name : List ℕ → Result Name ℕ
given_name bytes = if is_name bytes then Ok bytes else Err 44

-- a resolver by its kind, or 76
abbrev pub given_resolver : ℕ → List ℕ → Result ResolverId ℕ
given_resolver kind program =
    if kind == 0 then Ok (Builtin by.Exit)
    else (if kind == 1 then Ok (Builtin by.Notify)
    else (if kind == 2 then Ok (Builtin by.NotifyAll)
    else (if kind == 3 then Ok (Program (record { 0 = program })) else Err 76)))

abbrev pub given_owner : HealOwner → Owner
given_owner owner = record { node = owner.node; serial = owner.serial }

-- a registration, or 76
abbrev pub given_registration : HealRegistration → Result Registration ℕ
given_registration r = and_then (given_resolver r.resolver r.program) (λ resolver. Ok record {
  owner = given_owner r.owner;
  stamp = r.stamp;
  weight = r.weight;
  extra = r.extra;
  resolver = resolver;
})

-- a name and a registration; the name's fault is due first
abbrev pub given_entry : List ℕ → HealRegistration → Result (Name × Registration) ℕ
given_entry bytes r =
    and_then (given_name bytes) (λ name. and_then (given_registration r) (λ registration. Ok (name, registration)))

abbrev pub given_facts : HealFacts → Facts
given_facts facts = record { size = facts.size; uptime = facts.uptime }

-- ---- what C gets

abbrev pub name_code : Name → HealName
name_code name = record { len = length name; bytes = padded name; reserved = 0 }

abbrev pub owner_code : Owner → HealOwner
owner_code owner = record { node = owner.node; serial = owner.serial }

-- exit is 0, notify 1, notify-all 2, and a program 3
abbrev pub resolver_kind : ResolverId → ℕ
resolver_kind (Builtin builtin) = builtin_place builtin
resolver_kind (Program id) = 3

-- the id of the program, or zeros
abbrev pub resolver_program : ResolverId → List ℕ
resolver_program (Builtin builtin) = replicate 32 0
resolver_program (Program id) = id.0

abbrev pub registration_code : Registration → HealRegistration
registration_code r = record {
  owner = owner_code r.owner;
  stamp = r.stamp;
  weight = r.weight;
  extra = r.extra;
  resolver = resolver_kind r.resolver;
  program = resolver_program r.resolver;
  reserved = 0;
}

abbrev pub row_code : Name × Registration → HealRow
row_code row = record { name = name_code row.0; registration = registration_code row.1; reserved = 0 }

abbrev pub verdict_code : Verdict3 → ℕ
verdict_code Neither = 0
verdict_code First = 1
verdict_code Second = 2

-- A is 0, and B 1
abbrev pub side_code : SideId → ℕ
side_code A = 0
side_code B = 1

abbrev pub nobody : HealOwner
nobody = record { node = 0; serial = 0 }

-- exit is 0, conflict 1, and conflict with another owner 2
abbrev pub notice_code : Notice → HealNotice
notice_code (Exit owner) = record { kind = 0; to = owner_code owner; other = nobody; reserved = 0 }
notice_code (Conflict name owner) = record { kind = 1; to = owner_code owner; other = nobody; reserved = 0 }
notice_code (ConflictWith name owner other) = record { kind = 2; to = owner_code owner; other = owner_code other; reserved = 0 }
