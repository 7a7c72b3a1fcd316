use Rattle.std.proofs.Common.{◌∙◌, ◌+◌, [], ap, arith, length, subst, sym, take}
use Rattle.std.proofs.lemmas.List.{take_all}
use Rattle.trace_streams.specs.StreamSplitters.{Cuts}
use Rattle.trace_streams.proofs.StreamSplitterFacts.{cuts_on, cuts_one, cuts_start, within_chunk}
use Rattle.trace_streams.proofs.stream_splitters.StreamSplitter.cut.Goals as goal

pub loop-from-init : goal.loop-from-init
loop-from-init c = record {
  within = omega arith;
  cuts = λ bytes at. subst (λ ps. Cuts c.args.self.now c.args.self.now bytes [] ps) (sym c.new-pieces.ensures.items) (cuts_start c.args.self.now bytes at);
  fewer = (let none = ap length c.new-pieces.ensures.items in omega (arith, none, c.requires));
}

pub returns-then-len-most-clause-cut : goal.returns-then-len-most-clause-cut
returns-then-len-most-clause-cut c = λ bytes at.
    subst (Cuts c.args.self.now c.take_trace_text.new.self bytes (take (c.loop-from.from + c.in_ok-piece.count) c.args.chunk.now)) (sym c.in_ok-push-in-Some.ensures.items)
    (cuts_one c.args.self.now c.loop-from.self c.take_trace_text.new.self bytes c.args.chunk.now c.loop-from.from c.in_ok-piece.count c.in_ok-piece.piece c.loop-from.pieces.items
    (c.loop-from.invariant.cuts bytes at) c.in_ok-piece.ensures.limit c.in_ok-piece.ensures.piece c.in-Some.piece c.in-Some.is)

pub loop-from-preserved-else-len-most : goal.loop-from-preserved-else-len-most
loop-from-preserved-else-len-most c = record {
  within = within_chunk c.args.chunk.now c.loop-from.from c.in_ok-piece.count c.loop-from.invariant.within c.in_ok-piece.ensures.within;
  cuts = λ bytes at.
      subst (Cuts c.args.self.now c.take_trace_text.new.self bytes (take (c.loop-from.from + c.in_ok-piece.count) c.args.chunk.now)) (sym c.in_ok-push-in-Some.ensures.items)
      (cuts_one c.args.self.now c.loop-from.self c.take_trace_text.new.self bytes c.args.chunk.now c.loop-from.from c.in_ok-piece.count c.in_ok-piece.piece c.loop-from.pieces.items
      (c.loop-from.invariant.cuts bytes at) c.in_ok-piece.ensures.limit c.in_ok-piece.ensures.piece c.in-Some.piece c.in-Some.is);
  fewer = (let few = c.if-len-most.false in let len = c.len.ensures in let items = c.push.new.self.ok.0 in omega (arith, few, len, items));
}

pub loop-from-preserved : goal.loop-from-preserved
loop-from-preserved c = record {
  within = within_chunk c.args.chunk.now c.loop-from.from c.in_ok-piece.count c.loop-from.invariant.within c.in_ok-piece.ensures.within;
  cuts = λ bytes at.
      cuts_on c.args.self.now c.loop-from.self c.take_trace_text.new.self bytes c.args.chunk.now c.loop-from.from c.in_ok-piece.count c.in_ok-piece.piece c.loop-from.pieces.items
      (c.loop-from.invariant.cuts bytes at) c.in_ok-piece.ensures.limit c.in_ok-piece.ensures.piece c.in-None.is;
  fewer = c.loop-from.invariant.fewer;
}

pub returns-clause-cut : goal.returns-clause-cut
returns-clause-cut c = λ bytes at.
    subst (λ t. Cuts c.args.self.now c.loop-from.self bytes t c.loop-from.pieces.items)
    (take_all c.loop-from.from c.args.chunk.now c.loop-from-test.false ∙ sym (take_all (length c.args.chunk.now) c.args.chunk.now (omega arith))) (c.loop-from.invariant.cuts bytes at)
