-- The agreements of the two halves with the store.
use Rattle.std.specs.Prelude.{◌≡◌}
use Rattle.std.specs.Coded.{Coded-set, ×_prop}
use Rattle.upload_store.specs.Programs.{Programs}
use Rattle.partition_table.specs.Agreements.{Agreement, coded_agreement}
use Rattle.cluster.specs.Clusters.{Cluster, Standing}
use Rattle.scripts.specs.declared.agreements.Agreements.{Agreements}

-- that of a half's table and the store
abbrev pub agreement_of : Standing → Programs → Agreement
agreement_of standing store = record { table = standing.side.table; store = store }

-- each is that of its half's table and the store
abbrev pub AreAgreed : Cluster → Programs → Agreements → Type 0
AreAgreed cluster store agreements =
    (agreements.a ≡ agreement_of cluster.a store) × (agreements.b ≡ agreement_of cluster.b store)

pub AreAgreed-prop : (cluster : Cluster) (store : Programs) (agreements : Agreements)
    → IsProp (AreAgreed cluster store agreements)
AreAgreed-prop cluster store agreements =
    ×_prop (Coded-set coded_agreement agreements.a (agreement_of cluster.a store))
    (Coded-set coded_agreement agreements.b (agreement_of cluster.b store))
