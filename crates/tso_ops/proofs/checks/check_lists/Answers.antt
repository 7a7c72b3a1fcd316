use Rattle.std.proofs.Common.{map, arith, subst}
use Rattle.std.proofs.lemmas.List.{take_all}
use Rattle.std.proofs.lemmas.List.Elements.{All-nil, All-append}
use Rattle.std.proofs.lemmas.Result.{err_from_is_err_and}
use Rattle.tso_ops.specs.Settings.{setting_of}
use Rattle.tso_ops.specs.Limits.{IsFaultless, KeepsEntries, has_entry_fault}
use Rattle.tso_ops.proofs.CheckFacts.{Admitted-row, row_refused, program_refused, program_admitted, program_accepted, flat_map-next, flat_map-rows}
use Rattle.tso_ops.proofs.checks.check_lists.Goals as goal

pub loop-list-init : goal.loop-list-init
loop-list-init g c = (c.in_ok-tally.ensures, All-nil _)

pub returns-in_err-admit_list-clause-refused : goal.returns-in_err-admit_list-clause-refused
returns-in_err-admit_list-clause-refused g c =
    let lists = c.args.lists.now in
    let setting = setting_of c.args.setting.now in
    let p = err_from_is_err_and c.from_residual-in_err-admit_list.result c.from_residual-in_err-admit_list.ensures.1 in
    let fault = c.in_err-admit_list.ensures.refused setting _ c.loop-list.invariant.0 in
    rw (p.1, p.2) (λ other.
    program_refused g.T.Operation.op setting lists _ c.if-lists-gt-MAX_PROCESSORS.false
    (subst (IsFaultless has_entry_fault) c.deref.ensures.value c.in_ok-check_first.ensures.accepted)
    (row_refused (λ row. map g.T.Operation.op row.items) setting lists c.loop-list.list-index c.list-item.result _ c.loop-list-test.true c.list-item.is
    (rw c.deref-in-loop-list.ensures.value at (fault other))))

pub loop-list-preserved : goal.loop-list-preserved
loop-list-preserved g c = (
  Admitted-row (λ row. map g.T.Operation.op row.items) (setting_of c.args.setting.now) _ _ c.args.lists.now c.loop-list.list-index c.list-item.result c.loop-list-test.true c.list-item.is
      c.loop-list.invariant.0 (rw c.deref-in-loop-list.ensures.value at c.in_ok-admit_list.ensures.admitted),
  rw (flat_map-next (λ row. row.items) c.args.lists.now c.loop-list.list-index c.list-item.result c.loop-list-test.true c.list-item.is)
      (All-append g.T.Operation.fits _ _ c.loop-list.invariant.1 (rw c.deref-in-loop-list.ensures.value at c.in_ok-admit_list.ensures.fits)),
)

pub returns-clause-limits : goal.returns-clause-limits
returns-clause-limits g c =
    program_admitted g.T.Operation.op (setting_of c.args.setting.now) c.args.lists.now c.loop-list.tally (omega arith)
    (record { version_one = c.requires; entries = subst KeepsEntries c.deref.ensures.value c.in_ok-check_first.ensures.kept })
    (rw (take_all c.loop-list.list-index c.args.lists.now c.loop-list-test.false) at c.loop-list.invariant.0)

pub returns-clause-fits : goal.returns-clause-fits
returns-clause-fits g c =
    rw (flat_map-rows c.args.lists.now) (rw (take_all c.loop-list.list-index c.args.lists.now c.loop-list-test.false) at c.loop-list.invariant.1)

pub returns-clause-accepted : goal.returns-clause-accepted
returns-clause-accepted g c =
    program_accepted g.T.Operation.op (setting_of c.args.setting.now) c.args.lists.now c.loop-list.tally (omega arith)
    (subst (IsFaultless has_entry_fault) c.deref.ensures.value c.in_ok-check_first.ensures.accepted)
    (rw (take_all c.loop-list.list-index c.args.lists.now c.loop-list-test.false) at c.loop-list.invariant.0)
