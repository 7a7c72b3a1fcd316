use Rattle.std.proofs.Common.{◌≡◌, arith, subst}
use Rattle.run_serving.proofs.RepeatingFacts.{HaveRun, left_before, left_within, none_run, on_err, one_run}
use Rattle.run_serving.proofs.repeating.repeat.Goals as goal

pub loop-done-init : goal.loop-done-init
loop-done-init g c = (none_run c.args.request.now.unit c.args.program.now (g.W.Write.contents c.args.writer.now), omega arith)

pub loop-done-preserved : goal.loop-done-preserved
loop-done-preserved g c = (
  one_run c.args.request.now.unit c.args.program.now c.loop-done._done _ _ _ c.loop-done.invariant.0 c.in_ok-text.text.items c.deref.result.now c.in_ok-text.ensures c.deref.ensures.value c.in_ok-write_text.ensures.whole,
  omega (arith, c.loop-done-test.true),
)

pub returns-in_err-text-clause-left : goal.returns-in_err-text-clause-left
returns-in_err-text-clause-left g c =
    on_err _ _ (left_before c.args.request.now.unit c.args.program.now c.loop-done._done _ _ (g.W.Write.contents c.loop-done.writer) c.loop-done.invariant.0 c.args.times c.loop-done.invariant.1)

pub returns-in_err-write_text-clause-left : goal.returns-in_err-write_text-clause-left
returns-in_err-write_text-clause-left g c =
    on_err _ _ (left_within c.args.request.now.unit c.args.program.now c.loop-done._done _ _ _ c.loop-done.invariant.0 c.args.times c.in_ok-text.text.items c.deref.result.now (omega (arith, c.loop-done-test.true))
    c.in_ok-text.ensures c.deref.ensures.value c.in_err-write_text.ensures.prefix)

pub returns-clause-whole : goal.returns-clause-whole
returns-clause-whole g c =
    let all : c.loop-done._done ≡ c.args.times = omega (arith, c.loop-done.invariant.1, c.loop-done-test.false) in
    subst (λ n. HaveRun c.args.request.now.unit c.args.program.now n (g.W.Write.contents c.args.writer.now) (g.W.Write.contents c.loop-done.writer)) all c.loop-done.invariant.0
