use Rattle.std.proofs.lemmas.List.{take_all}
use Rattle.std.proofs.lemmas.List.Elements.{All-nil, All-more}
use Rattle.std.proofs.lemmas.Result.{err_from_is_err_and}
use Rattle.tso_ops.proofs.CheckFacts.{AdmitsMore-none, AdmitsMore-next, refused_at}
use Rattle.tso_ops.proofs.checks.admit_list.Goals as goal

pub loop-item-init : goal.loop-item-init
loop-item-init g c = (AdmitsMore-none _, All-nil _)

pub returns-in_err-admit-clause-refused : goal.returns-in_err-admit-clause-refused
returns-in_err-admit-clause-refused g c ops was =
    let p = err_from_is_err_and c.from_residual.result c.from_residual.ensures.1 in
    rw (p.1, p.2)
    (refused_at g.T.Operation.op _ _ c.args.list.now c.loop-item.item-index c.item-item.result c.op.result _ c.loop-item-test.true c.item-item.is c.op.ensures.is
    c.loop-item.invariant.0 c.in_err-admit.ensures.refused ops was)

pub loop-item-preserved : goal.loop-item-preserved
loop-item-preserved g c = (
  AdmitsMore-next g.T.Operation.op _ _ _ c.args.list.now c.loop-item.item-index c.item-item.result c.op.result c.loop-item-test.true c.item-item.is c.op.ensures.is
      c.loop-item.invariant.0 c.in_ok-admit.ensures.admitted,
  All-more g.T.Operation.fits c.args.list.now c.loop-item.item-index c.item-item.result c.loop-item-test.true c.loop-item.invariant.1
      (rw (← c.item-item.is) c.op.ensures.fits),
)

pub returns-clause-admitted : goal.returns-clause-admitted
returns-clause-admitted g c = rw (take_all c.loop-item.item-index c.args.list.now c.loop-item-test.false) at c.loop-item.invariant.0

pub returns-clause-fits : goal.returns-clause-fits
returns-clause-fits g c = rw (take_all c.loop-item.item-index c.args.list.now c.loop-item-test.false) at c.loop-item.invariant.1
