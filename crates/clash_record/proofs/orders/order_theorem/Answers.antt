use Rattle.clash_record.specs.laws.Orders.{names_total, names_exact, ids_total, ids_exact, registrations_total, registrations_exact}
use Rattle.clash_record.proofs.orders.order_theorem.Goals as goal

pub returns : goal.returns
returns c =
    record {
      names = names_total;
      names_exact = names_exact;
      ids = ids_total;
      ids_exact = ids_exact;
      registrations = registrations_total;
      registrations_exact = registrations_exact;
    }
