use Rattle.std.proofs.Common.{◌∙◌, ◌+◌, ap, sym, arith}
use Rattle.rand_core.specs.Stream.{next_u64}
use Rattle.drawn_programs.specs.Making.{made_op}
use Rattle.drawn_programs.proofs.WordFacts.{after_words-none, after_words-more, writes_of-none, writes_of-more, writes_of-le, next_ops-next}
use Rattle.drawn_programs.proofs.making.make_list.Goals as goal

pub loop-init : goal.loop-init
loop-init g c = record {
  list = c.new-list.ensures.items;
  left = sym (after_words-none _);
  last = omega (arith, writes_of-none (g.R.Rng.stream c.args.rng.now));
}

pub make_op-requires-clause-room : goal.make_op-requires-clause-room
make_op-requires-clause-room g c =
    omega (arith, c.loop.invariant.last, writes_of-le c.loop.counter (g.R.Rng.stream c.args.rng.now), c.operations-end.ensures.is, c.loop-test.true, c.requires)

pub loop-preserved : goal.loop-preserved
loop-preserved g c =
    let s = g.R.Rng.stream c.args.rng.now in
    let rest = g.R.Rng.stream c.loop.rng in
    let op = c.make_op.ensures.op ∙ ap (λ a. made_op c.args.order a (c.loop.last + 1) (next_u64 rest).0) c.addresses.ensures.is in
    record {
      list = rw c.in_ok-push.ensures.items
          (next_ops-next c.args.order c.args.shape.addresses c.args.last.now c.loop.last s rest c.loop.counter c.loop.list.items c.make_op.result c.loop.invariant.list c.loop.invariant.left
          c.loop.invariant.last op);
      left = c.make_op.ensures.left ∙ ap (λ t. (next_u64 t).1) c.loop.invariant.left ∙ sym (after_words-more c.loop.counter s);
      last = rw (writes_of-more c.loop.counter s, ← c.loop.invariant.left) (omega (arith, c.make_op.ensures.last, c.loop.invariant.last));
    }
