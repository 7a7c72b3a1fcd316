use Rattle.std.proofs.Common.{arith, subst, None}
use Rattle.std.proofs.lemmas.List.{take_all}
use Rattle.trace_streams.specs.Internal.Searches.{Finds}
use Rattle.trace_streams.proofs.StreamSplitterFacts.{within_chunk}
use Rattle.trace_streams.proofs.NthFacts.{finds_it, finds_later, finds_on, finds_start}
use Rattle.trace_streams.proofs.nth_trace_texts.Search.take.Goals as goal

pub loop-from-init : goal.loop-from-init
loop-from-init c = record { within = omega arith; finds = finds_start c.args.self.now }

pub returns-then-self-eq0 : goal.returns-then-self-eq0
returns-then-self-eq0 c = λ bytes at.
    finds_it c.args.self.now c.loop-from.self c.take_trace_text.new.self bytes c.args.chunk.now c.loop-from.from c.in_ok-piece.count c.in_ok-piece.piece c.in_ok-piece.ensures.limit
    c.in_ok-piece.ensures.piece (c.loop-from.invariant.finds bytes at) c.in-Some.piece c.in-Some.is c.if-self-eq0.true c.loop-from.self

pub loop-from-preserved-in-Some : goal.loop-from-preserved-in-Some
loop-from-preserved-in-Some c = record {
  within = within_chunk c.args.chunk.now c.loop-from.from c.in_ok-piece.count c.loop-from.invariant.within c.in_ok-piece.ensures.within;
  finds = λ bytes at.
      finds_later c.args.self.now c.loop-from.self c.take_trace_text.new.self bytes c.args.chunk.now c.loop-from.from c.in_ok-piece.count c.in_ok-piece.piece c.in_ok-piece.ensures.limit
      c.in_ok-piece.ensures.piece (c.loop-from.invariant.finds bytes at) c.in-Some.piece c.in-Some.is c.if-self-eq0.false;
}

pub loop-from-preserved : goal.loop-from-preserved
loop-from-preserved c = record {
  within = within_chunk c.args.chunk.now c.loop-from.from c.in_ok-piece.count c.loop-from.invariant.within c.in_ok-piece.ensures.within;
  finds = λ bytes at.
      finds_on c.args.self.now c.loop-from.self c.take_trace_text.new.self bytes c.args.chunk.now c.loop-from.from c.in_ok-piece.count c.in_ok-piece.piece c.in_ok-piece.ensures.limit
      c.in_ok-piece.ensures.piece (c.loop-from.invariant.finds bytes at) c.in-None.is;
}

pub returns : goal.returns
returns c = λ bytes at.
    subst (λ t. Finds c.args.self.now c.loop-from.self bytes t None)
    (take_all c.loop-from.from c.args.chunk.now c.loop-from-test.false) (c.loop-from.invariant.finds bytes at)
