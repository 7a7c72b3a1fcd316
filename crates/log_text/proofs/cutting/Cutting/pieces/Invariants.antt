use Rattle.std.proofs.Common.{◌≡◌, ◌+◌, ◌-◌, ◌≤◌, ◌++◌}
use Rattle.std.specs.HashSet.{keys}
use Rattle.log_text.specs.Splits.{address_in, pieces, pieces_from}
use Rattle.log_text.proofs.cutting.Cutting.pieces.Given as goal

abbrev pub invariant-loop-more : goal.invariant-loop-more
invariant-loop-more l = record {
  rest : l.found.items ++ pieces_from (keys l.fn.self.boundaries) l.start l.count (l.address + l.more) (l.fn.said.width - l.more)
      ≡ pieces (keys l.fn.self.boundaries) (address_in l.fn.said.line) l.fn.said.width;
  few : l.count ≤ l.more;
}
