use Rattle.std.proofs.Common.{◌≡◌, ℕ, Some, map}
use Rattle.std.specs.List.{AllByRecursion, filter_map}
use Rattle.std.specs.Option.{option_map}
use Rattle.std.specs.BTreeSet.{contains}
use Rattle.std.specs.FinMap.{empty, get, keys, len}
use Rattle.std.specs.Slice.Iter.{iter_rest}
use Rattle.clash_record.specs.Orders.{name_cmp}
use Rattle.partition_table.specs.Tables.{facts_of}
use Rattle.partition_table.specs.model.Judging.{clash_by_name}
use Rattle.partition_table.specs.model.Listing.{clashes_ahead}
use Rattle.partition_table.specs.model.Merging.{IsReady, settled, put_all}
use Rattle.partition_table.proofs.merging.Parents.put_names_of_a.Given as goal

-- what is put and what is left are all, and the clashes of the names that are left are ahead
abbrev pub invariant-loop-name : goal.invariant-loop-name
invariant-loop-name l =
    let p = l.self in
    let left = map (λ row. row.0) l.name-iterator in
    record {
      told :
          put_all (settled p.a.now p.b.now (contains name_cmp p.gone_a) (contains name_cmp p.gone_b) left
          (iter_rest l.upcoming.answers)) l.merged
          ≡ put_all (settled p.a.now p.b.now (contains name_cmp p.gone_a) (contains name_cmp p.gone_b) (keys p.a.now)
          l.fn.answers) empty;
      ready : IsReady p.a.now p.b.now left (len p.a.now) l.merged;
      ahead : (uptime_a : ℕ) × (uptime_b : ℕ) × (clashes_ahead l.upcoming
          ≡ filter_map (clash_by_name (facts_of p.a.now uptime_a) p.a.now (facts_of p.b.now uptime_b) p.b.now) left);
      own : AllByRecursion (λ row. option_map (λ r. r.registration) (get p.a.now row.0) ≡ Some row.1) l.name-iterator;
    }
