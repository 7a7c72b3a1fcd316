use Rattle.std.proofs.Common.{◌≡◌, map, replicate}
use Rattle.run_serving.specs.BenchUnits.{bench_value}
use Rattle.run_serving.specs.Printing.{unit_of}
use Rattle.run_serving.proofs.units.make_units.Given as goal

abbrev pub invariant-loop : goal.invariant-loop
invariant-loop l = map bench_value l.units.items ≡ replicate l.counter (unit_of l.options)
