use Rattle.std.proofs.Common.{◌≡◌, ◌+◌, ◌-◌, reverse, subst, ◌∙◌, arith}
use Rattle.std.proofs.lemmas.Bool.{both_ways}
use Rattle.order_graph.specs.Digraphs.{IsEdge}
use Rattle.trace_judging.specs.Internal.Collecting.{Collects, IsAboveOrBase}
use Rattle.trace_judging.proofs.RoundSteps.{row_start, base_step, base_pass}
use Rattle.trace_judging.proofs.certificates.collect_base_row.Goals as goal

pub loop-v-init : goal.loop-v-init
loop-v-init c = λ k cycle start.
    row_start c.args.trace.now k c.args.u c.nodes-v.result cycle c.args.marks.now (reverse c.args.steps.now.items) (c.nodes-v.ensures.size ∙ c.requires.nodes) start

pub loop-v-preserved-then-not-has : goal.loop-v-preserved-then-not-has
loop-v-preserved-then-not-has c = λ k cycle start.
    let more : c.loop-v.v ≡ (c.loop-v.v - 1) + 1 = omega (arith, c.loop-v-test.true) in
    let before = subst (λ n. Collects c.args.trace.now k cycle (IsEdge c.args.marks.now) (IsAboveOrBase c.args.trace.now c.args.u n) (reverse c.loop-v.steps.items)) more (c.loop-v.invariant k cycle start) in
    base_pass c.args.trace.now k c.args.u (c.loop-v.v - 1) cycle c.args.marks.now (reverse c.loop-v.steps.items) (λ m f. both_ways c.has.result c.if-not-has.true (c.has.ensures.1 m)) before

pub loop-v-preserved-in_default : goal.loop-v-preserved-in_default
loop-v-preserved-in_default c = λ k cycle start.
    let more : c.loop-v.v ≡ (c.loop-v.v - 1) + 1 = omega (arith, c.loop-v-test.true) in
    let before = subst (λ n. Collects c.args.trace.now k cycle (IsEdge c.args.marks.now) (IsAboveOrBase c.args.trace.now c.args.u n) (reverse c.loop-v.steps.items)) more (c.loop-v.invariant k cycle start) in
    base_pass c.args.trace.now k c.args.u (c.loop-v.v - 1) cycle c.args.marks.now (reverse c.loop-v.steps.items) (λ m f. c.in_default.ensures f.0 f.1) before

pub loop-v-preserved : goal.loop-v-preserved
loop-v-preserved c = λ k cycle start.
    let more : c.loop-v.v ≡ (c.loop-v.v - 1) + 1 = omega (arith, c.loop-v-test.true) in
    let before = subst (λ n. Collects c.args.trace.now k cycle (IsEdge c.args.marks.now) (IsAboveOrBase c.args.trace.now c.args.u n) (reverse c.loop-v.steps.items)) more (c.loop-v.invariant k cycle start) in
    base_step c.args.trace.now k c.args.u (c.loop-v.v - 1) cycle c.in-Some.rule c.args.marks.now c.loop-v.steps.items c.push.new.self.items c.in-Some.ensures (c.has.ensures.0 c.if-not-has.false)
    c.in_ok-push.ensures.items before

pub returns : goal.returns
returns c = record {
  steps = λ k cycle start.
      let none : c.loop-v.v ≡ 0 = omega (arith, c.loop-v-test.false) in
      subst (λ n. Collects c.args.trace.now k cycle (IsEdge c.args.marks.now) (IsAboveOrBase c.args.trace.now c.args.u n) (reverse c.loop-v.steps.items)) none (c.loop-v.invariant k cycle start);
}
