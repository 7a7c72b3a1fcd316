use Rattle.std.proofs.Common.{◌≡◌, ◌-◌, suc, reverse, subst, ◌∙◌, arith}
use Rattle.std.proofs.lemmas.Bool.{both_ways}
use Rattle.order_graph.specs.Digraphs.{IsEdge}
use Rattle.trace_judging.specs.Internal.Collecting.{Collects, IsAboveOrBase}
use Rattle.trace_judging.proofs.RoundSteps.{base_start, row_pass}
use Rattle.trace_judging.proofs.certificates.collect_base.Goals as goal

pub loop-u-init : goal.loop-u-init
loop-u-init c = λ k cycle start.
    base_start c.args.trace.now k c.nodes-u.result cycle c.args.marks.now (reverse c.args.steps.now.items) (c.nodes-u.ensures.size ∙ c.requires.nodes) start

pub loop-u-preserved-then-not-has_from : goal.loop-u-preserved-then-not-has_from
loop-u-preserved-then-not-has_from c = λ k cycle start.
    let more : c.loop-u.u ≡ suc (c.loop-u.u - 1) = omega (arith, c.loop-u-test.true) in
    row_pass c.args.trace.now k (c.loop-u.u - 1) cycle c.args.marks.now (reverse c.loop-u.steps.items) (λ e. both_ways c.has_from.result c.if-not-has_from.true (c.has_from.ensures.1 e))
    (subst (λ n. Collects c.args.trace.now k cycle (IsEdge c.args.marks.now) (IsAboveOrBase c.args.trace.now n 0) (reverse c.loop-u.steps.items)) more (c.loop-u.invariant k cycle start))

pub loop-u-preserved : goal.loop-u-preserved
loop-u-preserved c = λ k cycle start.
    let more : c.loop-u.u ≡ suc (c.loop-u.u - 1) = omega (arith, c.loop-u-test.true) in
    c.in_ok-collect_base_row.ensures.steps k cycle
    (subst (λ n. Collects c.args.trace.now k cycle (IsEdge c.args.marks.now) (IsAboveOrBase c.args.trace.now n 0) (reverse c.loop-u.steps.items)) more (c.loop-u.invariant k cycle start))

pub returns : goal.returns
returns c = record {
  steps = λ k cycle start.
      let none : c.loop-u.u ≡ 0 = omega (arith, c.loop-u-test.false) in
      subst (λ n. Collects c.args.trace.now k cycle (IsEdge c.args.marks.now) (IsAboveOrBase c.args.trace.now n 0) (reverse c.loop-u.steps.items)) none (c.loop-u.invariant k cycle start);
}
