-- The rows of an offer as bytes. The code of a program stands where a row first names it, and its id in the rows after.
use Rattle.std.specs.Prelude.{◌≡◌, ℕ, zero, suc, ◌<◌, ◌≤◌, ◌^◌, Bool, IsTrue, if◌then◌else◌, List, [], ◌∷◌, ◌++◌, length, Option, Some, None, Result, Ok}
use Rattle.std.specs.List.{flat_map, list_any}
use Rattle.std.specs.Int.{w32, w64, to_le_bytes}
use Rattle.instruction_set.specs.declared.insn.Insn.{Insn}
use Rattle.insn_codec.specs.Encoding.{insn_bytes}
use Rattle.std.specs.BTreeSet.{BTreeSet, contains}
use Rattle.clash_record.specs.Orders.{builtin_place, id_cmp}
use Rattle.clash_record.specs.Registrations.{registration_terms}
use Rattle.clash_record.specs.declared.registrations.Owner.{Owner}
use Rattle.clash_record.specs.declared.registrations.Builtin.{Builtin}
use Rattle.clash_record.specs.declared.registrations.Builtin.TheVariants.{Exit, Notify, NotifyAll}
use Rattle.clash_record.specs.declared.registrations.ProgramId.{ProgramId}
use Rattle.clash_record.specs.declared.registrations.ResolverId.{ResolverId}
use Rattle.clash_record.specs.declared.registrations.ResolverId.TheVariants as by
use Rattle.clash_record.specs.declared.registrations.Terms.{Terms}
use Rattle.clash_record.specs.Name.{Name, is_name}
use Rattle.partition_table.specs.Tables.{Row, same_id}
use Rattle.exchange_codec.specs.declared.fault.Fault.{Fault}
use Rattle.exchange_codec.specs.declared.fault.FieldFault.TheVariants as wrongs
use Rattle.refusals.specs.Answers.{◌>>=◌}
use Rattle.exchange_codec.specs.Reading.{wrong, number_at, bytes_at, count_at}
use Rattle.exchange_codec.specs.Names.{name_bytes, name_at}

-- the most bytes that the code of a program has
abbrev pub max_code : ℕ
max_code = 8192

-- ---- the fields of rows in a message

pub data ResolverText : Type 0 where
  ByBuiltin : (b : Builtin) → ResolverText
  Named : (id : ProgramId) → ResolverText  -- a program whose code stands before
  Code : (bytes : List ℕ) → ResolverText  -- a program, by its code

pub record RowText : Type 0 where
  pub name : Name
  pub terms : Terms
  pub resolver : ResolverText

-- the code of a program
abbrev pub sized_code : List ℕ → List ℕ
sized_code code = to_le_bytes w32 (length code) ++ code

abbrev pub resolver_bytes : ResolverText → List ℕ
resolver_bytes (ByBuiltin b) = builtin_place b ∷ []
resolver_bytes (Named id) = 3 ∷ id.0
resolver_bytes (Code bytes) = 4 ∷ (to_le_bytes w32 (length bytes) ++ bytes)

abbrev pub owner_bytes : Owner → List ℕ
owner_bytes o = to_le_bytes w32 o.node ++ to_le_bytes w32 o.serial

-- all of a registration but its resolver
abbrev pub fields_bytes : Terms → List ℕ
fields_bytes t = owner_bytes t.owner ++ (to_le_bytes w64 t.stamp ++ (to_le_bytes w64 t.weight ++ t.extra))

abbrev pub row_bytes : RowText → List ℕ
row_bytes r = name_bytes r.name ++ (fields_bytes r.terms ++ resolver_bytes r.resolver)

-- what has a spelling
abbrev pub IsResolver : ResolverText → Type 0
IsResolver (ByBuiltin b) = Unit {0}
IsResolver (Named id) = length id.0 ≡ 32
IsResolver (Code bytes) = length bytes ≤ max_code

-- the fields of a registration but its resolver
pub record HasFields (t : Terms) : Type 0 where
  pub node : t.owner.node < 2 ^ 32
  pub serial : t.owner.serial < 2 ^ 32
  pub stamp : t.stamp < 2 ^ 64
  pub weight : t.weight < 2 ^ 64
  pub extra : length t.extra ≡ 16

pub record IsRow (r : RowText) : Type 0 where
  pub named : IsTrue (is_name r.name)
  pub fields : HasFields r.terms
  pub resolver : IsResolver r.resolver

-- ---- the rows of a table as texts

abbrev pub has_id : ProgramId → List ProgramId → Bool
has_id id ids = list_any (λ other. same_id (Some other) (Some id)) ids

-- the bytes that spell the code (RFC 9669)
abbrev pub code_bytes : Option (List Insn) → List ℕ
code_bytes None = []
code_bytes (Some code) = flat_map insn_bytes code

-- where the programs with these ids stand before
abbrev pub resolver_text : List ProgramId → ResolverId → Option (List Insn) → ResolverText
resolver_text before (by.Builtin b) code = ByBuiltin b
resolver_text before (by.Program id) code = if has_id id before then Named id else Code (code_bytes code)

abbrev pub row_text : List ProgramId → Name → Row → RowText
row_text before name row = record {
  name = name;
  terms = registration_terms row.registration;
  resolver = resolver_text before row.registration.resolver row.code;
}

abbrev pub ids_after : List ProgramId → ResolverId → List ProgramId
ids_after before (by.Builtin b) = before
ids_after before (by.Program id) = if has_id id before then before else before ++ id ∷ []

unfoldable pub texts_of : List ProgramId → List (Name × Row) → List RowText
texts_of before [] = []
texts_of before (e ∷ es) =
    row_text before e.0 e.1 ∷ texts_of (ids_after before e.1.registration.resolver) es

-- the set has these ids
abbrev pub AreIds : BTreeSet ProgramId → List ProgramId → Type 0
AreIds set ids = (id : ProgramId) → contains id_cmp set id ≡ has_id id ids

-- the ids of the programs that rows name, each once
unfoldable pub ids_of : List ProgramId → List (Name × Row) → List ProgramId
ids_of before [] = before
ids_of before (e ∷ es) = ids_of (ids_after before e.1.registration.resolver) es

-- ---- reading them

unfoldable pub resolver_at : List ℕ → Result (ResolverText × List ℕ) Fault
resolver_at [] = wrong wrongs.Cut []
resolver_at (zero ∷ rest) = Ok (ByBuiltin Exit, rest)
resolver_at (suc zero ∷ rest) = Ok (ByBuiltin Notify, rest)
resolver_at (suc (suc zero) ∷ rest) = Ok (ByBuiltin NotifyAll, rest)
resolver_at (suc (suc (suc zero)) ∷ rest) = do
  id ← bytes_at 32 rest
  Ok (Named (record { 0 = id.0 }), id.1)
resolver_at (suc (suc (suc (suc zero))) ∷ rest) = do
  len ← count_at max_code rest
  code ← bytes_at len.0 len.1
  Ok (Code code.0, code.1)
resolver_at (suc (suc (suc (suc (suc n)))) ∷ rest) = wrong wrongs.Resolver (suc (suc (suc (suc (suc n)))) ∷ rest)

unfoldable pub owner_at : List ℕ → Result (Owner × List ℕ) Fault
owner_at bytes = do
  node ← number_at w32 bytes
  serial ← number_at w32 node.1
  Ok (record { node = node.0; serial = serial.0 }, serial.1)

unfoldable pub terms_at : List ℕ → Result (Terms × List ℕ) Fault
terms_at bytes = do
  owner ← owner_at bytes
  stamp ← number_at w64 owner.1
  weight ← number_at w64 stamp.1
  extra ← bytes_at 16 weight.1
  Ok (record { owner = owner.0; stamp = stamp.0; weight = weight.0; extra = extra.0 }, extra.1)

unfoldable pub row_at : List ℕ → Result (RowText × List ℕ) Fault
row_at bytes = do
  name ← name_at bytes
  terms ← terms_at name.1
  resolver ← resolver_at terms.1
  Ok (record { name = name.0; terms = terms.0; resolver = resolver.0 }, resolver.1)
