use Rattle.std.proofs.Common.{◌≡◌, ◌+◌}
use Rattle.drawn_programs.specs.Making.{after_words}
use Rattle.drawn_programs.specs.Internal.MadeOps.{next_ops, writes_of}
use Rattle.drawn_programs.proofs.making.make_list.Given as goal

abbrev pub invariant-loop : goal.invariant-loop
invariant-loop g l = record {
  list : l.list.items ≡ next_ops l.order l.shape.addresses l.fn.last (g.R.Rng.stream l.fn.rng) l.counter;
  left : g.R.Rng.stream l.rng ≡ after_words l.counter (g.R.Rng.stream l.fn.rng);
  last : l.last ≡ l.fn.last + writes_of l.counter (g.R.Rng.stream l.fn.rng);
}
