use Rattle.std.proofs.Common.{◌≡◌, ◌+◌, suc, List, ◌++◌, length, map, take}
use Rattle.log_text.specs.declared.lines.LogLine.{LogLine}
use Rattle.log_text.specs.Splits.{line_on_piece}
use Rattle.log_text.specs.Internal.Readings.{HoldsLines}
use Rattle.log_text.proofs.readings.Reading.take_pieces.Given as goal

abbrev pub invariant-loop-piece : goal.invariant-loop-piece
invariant-loop-piece l = record {
  next : l.next ≡ l.number + l.piece-index;
  holds : (before : List LogLine) → HoldsLines l.fn.self before → l.number ≡ suc (length before) → HoldsLines l.self (before ++ map (line_on_piece l.fn.line) (take l.piece-index l.fn.pieces));
}
