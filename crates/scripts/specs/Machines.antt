-- The state of a script between its lines.
use Rattle.std.specs.Prelude.{ℕ, Bool, List, [], Option, Some, None}
use Rattle.std.specs.Option.{option_map}
use Rattle.std.specs.Ordering.{is_eq}
use Rattle.std.specs.List.{find}
use Rattle.std.specs.Str.{bytes_eq}
use Rattle.std.specs.FinMap.{empty}
use Rattle.clash_record.specs.Orders.{id_cmp}
use Rattle.clash_record.specs.Texts.{builtin_of, builtin_text}
use Rattle.clash_record.specs.declared.registrations.Builtin as built_in
use Rattle.clash_record.specs.declared.registrations.ProgramId.{ProgramId}
use Rattle.clash_record.specs.declared.registrations.ResolverId.{ResolverId}
use Rattle.clash_record.specs.declared.registrations.ResolverId.TheVariants.{Builtin, Program}
use Rattle.upload_store.specs.Programs.{Programs}
use Rattle.cluster.specs.Clusters.{Cluster, cluster_of, new_cluster}
use Rattle.scripts.specs.declared.labels.Label.{Label}
use Rattle.scripts.specs.declared.machine.Machine as code

-- the labels in the order in which they were given, the programs, the two halves, and the number of the latest exchange
pub record ScriptMachine : Type 0 where
  pub labels : List Label
  pub programs : Programs
  pub cluster : Cluster
  pub latest : ℕ

abbrev pub machine_of : code.Machine → ScriptMachine
machine_of m = record {
  labels = m.labels.items;
  programs = m.store;
  cluster = cluster_of m.cluster;
  latest = m.latest;
}

-- one whose halves may have this many names
abbrev pub new_machine : ℕ → ScriptMachine
new_machine limit = record { labels = []; programs = empty; cluster = new_cluster limit; latest = 0 }

-- ---- labels, and the words for resolvers

abbrev pub labelled : List ℕ → Label → Bool
labelled word label = bytes_eq label.text word

abbrev pub or_label : Option built_in.Builtin → Option Label → Option ResolverId
or_label (Some builtin) found = Some (Builtin builtin)
or_label None found = option_map (λ label. Program label.program) found

-- the resolver that a word names
abbrev pub resolver_named : List Label → List ℕ → Option ResolverId
resolver_named labels word = or_label (builtin_of word) (find (labelled word) labels)

abbrev pub is_program : ProgramId → Label → Bool
is_program id label = is_eq (id_cmp label.program id)

abbrev pub label_text : Option Label → List ℕ
label_text (Some label) = label.text
label_text None = []

-- how a resolver is called: a program by its first label
abbrev pub shown_resolver : List Label → ResolverId → List ℕ
shown_resolver labels (Builtin builtin) = builtin_text builtin
shown_resolver labels (Program id) = label_text (find (is_program id) labels)
