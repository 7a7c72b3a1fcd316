use Rattle.std.proofs.Common.{length, arith, inl, inr}
use Rattle.std.proofs.lemmas.Bool.Decides.{nat_tests}
use Rattle.chain_reach.specs.Internal.FirstTables.{Reaches}
use Rattle.chain_reach.proofs.CutFacts.{CutWithin-above, CutWithin-below}
use Rattle.chain_reach.proofs.lowering.reaching.Goals as goal
use Rattle.chain_reach.proofs.lowering.reaching.Goals.{then-x-edge, else-x-edge}

pub loop-low-preserved-then-first-x : goal.loop-low-preserved-then-first-x
loop-low-preserved-then-first-x c =
    CutWithin-above c.args.members.now (Reaches c.args.first.now (length c.args.edge.given.now) c.args.edge.from c.args.edge.from_chain) c.loop-low.low c.loop-low.high c.next_place-middle.result
    (record { first = c.requires.first }) c.loop-low.invariant c.next_place-middle.ensures.from c.next_place-middle.ensures.below
    (elim c.if-x-edge.branch [ then-x-edge w ↦ inl w.if-x-edge.true | else-x-edge w ↦ inr (grind (arith, nat_tests, w.value-is, c.if-first-x.true)) ])

pub loop-low-preserved : goal.loop-low-preserved
loop-low-preserved c =
    CutWithin-below c.args.members.now (Reaches c.args.first.now (length c.args.edge.given.now) c.args.edge.from c.args.edge.from_chain) c.loop-low.low c.loop-low.high c.next_place-middle.result
    (record { first = c.requires.first }) c.loop-low.invariant c.next_place-middle.ensures.from c.next_place-middle.ensures.below
    (λ of. elim c.if-x-edge.branch [
      | then-x-edge w ↦ grind (arith, nat_tests, w.value-is, w.if-x-edge.true, c.if-first-x.false)
      | else-x-edge w ↦ elim of [ inl e ↦ w.if-x-edge.false e | inr le ↦ grind (arith, nat_tests, w.value-is, c.if-first-x.false, le) ]
    ])
