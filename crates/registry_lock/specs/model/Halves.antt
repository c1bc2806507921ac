-- One of the two that were merged, as the code compares it.
use Rattle.exchange_core.specs.Finished.{Half}
use Rattle.registry_lock.specs.declared.comparing.Half as code

abbrev pub half_of : code.Half → Half
half_of half = record { table = half.table.now; uptime = half.uptime; gone = half.gone.now }
