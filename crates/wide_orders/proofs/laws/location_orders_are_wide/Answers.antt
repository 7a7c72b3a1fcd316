use Rattle.wide_orders.proofs.LocationOrders.{location_logs, location_orders}
use Rattle.wide_orders.proofs.laws.location_orders_are_wide.Goals as goal

pub returns : goal.returns
returns c = record { kept = location_logs; back = location_orders }
