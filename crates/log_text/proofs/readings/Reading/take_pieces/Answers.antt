use Rattle.std.proofs.Common.{arith}
use Rattle.log_text.proofs.ReadingFacts.{holds_piece}
use Rattle.log_text.proofs.readings.Reading.take_pieces.Goals as goal

pub loop-piece-preserved : goal.loop-piece-preserved
loop-piece-preserved c = record {
  next = omega (arith, c.in_ok-next.ensures, c.loop-piece.invariant.next);
  holds = λ before holds numbered.
      holds_piece c.args.self.now c.loop-piece.self c.take.new.self before c.args.number c.loop-piece.next c.loop-piece.piece-index c.args.line c.args.pieces.now c.line_on_piece.result _
      (omega (arith, c.loop-piece-test.true)) c.loop-piece.invariant.next numbered c.line_on_piece.ensures (c.loop-piece.invariant.holds before holds numbered) c.in_ok-take.ensures;
}
