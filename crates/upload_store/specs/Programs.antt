-- Programs by the digests of their bytes.
use Rattle.std.specs.Prelude.{◌≡◌, ℕ, ◌≤◌, Some, List, map as map_list, refl}
use Rattle.std.specs.Coded.{Coded, code_by, coded×, coded_list}
use Rattle.std.specs.FinMap.{FinMap, code}
use Rattle.std.specs.FinMap as map
use Rattle.sha2.specs.Sha256.{sha256}
use Rattle.instruction_set.specs.declared.insn.Insn.{Insn}
use Rattle.instruction_set.specs.contracts.insn.Insn.{the_row}
use Rattle.instruction_set.specs.Machine.{IsSafe}
use Rattle.insn_codec.specs.Encoding.{Spells}
use Rattle.verifier.specs.Programs.{IsAccepted}
use Rattle.clash_record.specs.declared.registrations.ProgramId.{ProgramId}
use Rattle.clash_record.specs.Orders.{id_cmp}
use Rattle.clash_record.specs.laws.Codings.{coded_id}

-- the id of bytes is their SHA-256 digest (FIPS 180-4)
abbrev pub id_of : List ℕ → ProgramId
id_of bytes = record { 0 = sha256 bytes }

-- the contents of a store: a finite map from ids to code
abbrev pub Programs : Type 0
Programs = FinMap id_cmp (List Insn)

-- how two stores are compared
abbrev pub coded_programs : Coded Programs
coded_programs = code coded_id (coded_list the_row.coded)

-- entries with another value at each key
abbrev pub mapped : {K X Y : Type 0} → (X → Y) → List (K × X) → List (K × Y)
mapped f entries = map_list (λ e. (e.0, f e.1)) entries

-- the map of these entries, each of which holds its code in some way
abbrev pub programs_by : {X : Type 0} → (X → List Insn) → List (ProgramId × X) → Programs
programs_by code_of entries = map.from_entries (mapped code_of entries)

-- safe code, and accepted bytes that spell it and have this id
pub record IsProgram (id : ProgramId) (code : List Insn) : Type 0 where
  pub safe : IsSafe code
  pub bytes : List ℕ
  pub spelled : Spells bytes code
  pub accepted : IsAccepted bytes code
  pub named : id ≡ id_of bytes

-- a program with its id
pub record Upload : Type 0 where
  pub id : ProgramId
  pub code : List Insn

-- an upload is the pair of its parts
abbrev pub coded_upload : Coded Upload
coded_upload =
    code_by (ProgramId × List Insn) (coded× coded_id (coded_list the_row.coded)) (λ u. (u.id, u.code)) (λ p. record {
      id = p.0;
      code = p.1;
    }) (λ _. refl)

-- the most programs that a store holds
abbrev pub max_programs : ℕ
max_programs = 256

-- at most 256 programs, each under its own id
pub record IsStore (programs : Programs) : Type 0 where
  pub few : map.len programs ≤ max_programs
  pub each : (id : ProgramId) (code : List Insn) → map.get programs id ≡ Some code → IsProgram id code
