-- The names that a side withdrew are a list to be sent.
use Rattle.std.proofs.Common.{◌≡◌, ◌||◌, ◌≤◌, Bool, true, false, Option, Some, None, List, [], ◌∷◌, length, refl, sym, subst, ◌∙◌, arith}
use Rattle.std.proofs.lemmas.Bool.{and_parts}
use Rattle.std.proofs.lemmas.Map.Made.{length-le_from_is_member}
use Rattle.std.proofs.lemmas.Map.Entries.{length-keys_of}
use Rattle.std.specs.Option.{option_map_or}
use Rattle.std.specs.List.{list_all, list_any}
use Rattle.std.specs.FinMap.{contains_key, contains_key-keys, entries, keys, len, len-entries}
use Rattle.clash_record.specs.Name.{Name}
use Rattle.partition_table.specs.Tables.{Table, IsTable, is_same_name}
use Rattle.partition_table.specs.laws.Sameness.{name_decides}
use Rattle.exchange_law.specs.Calls.{Call}
use Rattle.exchange_law.specs.Sides.{Exchange, Side}
use Rattle.exchange_law.specs.Worlds.{list_of}
use Rattle.exchange_law.specs.Calls.{IsJournal}
use Rattle.exchange_law.specs.Lists.{IsNameList, AreNamesOf}
use Rattle.exchange_law.specs.laws.Replays.{is_name_equivalence, none_apart, replayed_names}

-- a name that equals one of these names of the table is a name of the table
member_there : (table : Table) (names : List Name) → list_all (contains_key table) names ≡ true → (q : Name) →
    list_any (is_same_name q) names ≡ true → contains_key table q ≡ true
member_there table [] all q any = cc
member_there table (n ∷ names) all q any =
    let parts = and_parts _ _ all in by_name parts.0 (member_there table names parts.1 q) (is_same_name q n) refl any
  where
    by_name : contains_key table n ≡ true → (list_any (is_same_name q) names ≡ true → contains_key table q ≡ true) →
        (b : Bool) → is_same_name q n ≡ b → (b || list_any (is_same_name q) names) ≡ true → contains_key table q ≡ true
    by_name first rest true same any = subst (λ k. contains_key table k ≡ true) (sym ((name_decides q n).0 same)) first
    by_name first rest false same any = rest any

-- a side's list has distinct names of its table
pub replayed_list : (calls : List Call) (side : Side) → IsJournal calls side →
    AreNamesOf side.table (list_of side).names
replayed_list calls side led = by side.exchange refl
  where
    by : (o : Option Exchange) → side.exchange ≡ o →
        AreNamesOf side.table (option_map_or (λ exchange. exchange.withdrawn) o [])
    by None is = record { there = refl; distinct = none_apart }
    by (Some x) is = replayed_names calls side led x is

pub listed : (table : Table) (names : List Name) → IsTable table → AreNamesOf table names → IsNameList names
listed table names kept own = record {
  few =
      let below : length names ≤ length (keys table) =
      length-le_from_is_member is_name_equivalence names (keys table) own.distinct
      (λ q any. sym (contains_key-keys table q) ∙ member_there table names own.there q any) in
      let same : length (keys table) ≡ len table = length-keys_of (entries table) ∙ sym (len-entries table) in
      let few = kept.few in
      omega (arith, below, same, few);
  distinct = own.distinct;
}
