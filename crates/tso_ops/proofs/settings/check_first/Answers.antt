use Rattle.std.proofs.lemmas.Result.{err_from_is_err_and}
use Rattle.tso_ops.proofs.EntryFacts.{AreChecked-nil, AreChecked-next, fault_at}
use Rattle.tso_ops.proofs.settings.check_first.Goals as goal

pub loop-entry-init : goal.loop-entry-init
loop-entry-init c = AreChecked-nil

pub returns-in_err-check_entry-clause-refused : goal.returns-in_err-check_entry-clause-refused
returns-in_err-check_entry-clause-refused c =
    let p = err_from_is_err_and c.from_residual.result c.from_residual.ensures.1 in
    let first = c.args.first.now in
    rw (p.1, p.2)
    (fault_at first c.loop-entry.entry-index (0, 0) _ c.loop-entry-test.true c.loop-entry.invariant.faultless (c.in_err-check_entry.ensures.refused _ c.loop-entry.invariant.below))

pub loop-entry-preserved : goal.loop-entry-preserved
loop-entry-preserved c =
    let ok = c.in_ok-check_entry.ensures in
    AreChecked-next c.args.first.now c.loop-entry.entry-index c.loop-entry.least (0, 0) c.loop-entry-test.true c.loop-entry.invariant
    (record { within = ok.within; non_zero = ok.non_zero; fits = ok.fits; after = ok.after })
