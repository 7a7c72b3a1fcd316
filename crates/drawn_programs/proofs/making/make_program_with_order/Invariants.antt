use Rattle.std.proofs.Common.{◌≡◌, ◌*◌, map}
use Rattle.std.specs.List.{range_with_len}
use Rattle.tso_ops.specs.Values.{rows}
use Rattle.drawn_programs.specs.Making.{after_words}
use Rattle.drawn_programs.specs.Internal.MadeOps.{ops_of_processor, writes_of}
use Rattle.drawn_programs.proofs.making.make_program_with_order.Given as goal

abbrev pub invariant-loop : goal.invariant-loop
invariant-loop g l = record {
  lists : rows l.lists.items ≡ map (ops_of_processor l.order l.shape (g.R.Rng.stream l.fn.rng)) (range_with_len 0 l.counter);
  left : g.R.Rng.stream l.rng ≡ after_words (l.counter * l.shape.operations) (g.R.Rng.stream l.fn.rng);
  last : l.last ≡ writes_of (l.counter * l.shape.operations) (g.R.Rng.stream l.fn.rng);
}
