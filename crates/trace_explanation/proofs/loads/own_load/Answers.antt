use Rattle.std.proofs.Common.{◌∙◌, sym, arith}
use Rattle.trace_explanation.specs.Steps.{reads_past}
use Rattle.trace_explanation.proofs.SearchFacts.{fails-more}
use Rattle.trace_explanation.proofs.StepFacts.{own_load-found, own_load-none, own_load-none_before}
use Rattle.trace_explanation.proofs.loads.own_load.Goals as goal

pub loop-l-init : goal.loop-l-init
loop-l-init c = own_load-none_before c.args.trace.now c.args.u c.args.v

pub loop-l-preserved : goal.loop-l-preserved
loop-l-preserved c = fails-more (reads_past c.args.trace.now c.args.u c.args.v) c.loop-l.l c.loop-l.invariant (sym c.reads_past.ensures ∙ c.if-reads_past.false)

pub returns-then-reads_past : goal.returns-then-reads_past
returns-then-reads_past c =
    sym (own_load-found c.args.trace.now c.args.u c.args.v c.loop-l.l c.loop-l.invariant (sym c.reads_past.ensures ∙ c.if-reads_past.true) (omega (arith, c.loop-l-test.true, c.events-l-end.ensures.count)))

pub returns : goal.returns
returns c = sym (own_load-none c.args.trace.now c.args.u c.args.v c.loop-l.l c.events-l-end.result c.events-l-end.ensures.count c.loop-l.invariant c.loop-l-test.false)
