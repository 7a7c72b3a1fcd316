use Rattle.std.proofs.Common.{sym, subst, IfOk}
use Rattle.value_check.specs.Internal.Showing.{ShowsStep}
use Rattle.value_check.proofs.known.Known.holds.Goals as goal

pub returns-in-Read : goal.returns-in-Read
returns-in-Read c = subst (λ step. IfOk c.read_holds.result (ShowsStep c.args.self.now step)) (sym c.in-Read.is) c.read_holds.ensures

pub returns-in-In : goal.returns-in-In
returns-in-In c = subst (λ step. IfOk c.in_holds.result (ShowsStep c.args.self.now step)) (sym c.in-In.is) c.in_holds.ensures

pub returns-in-Out : goal.returns-in-Out
returns-in-Out c = subst (λ step. IfOk c.out_holds.result (ShowsStep c.args.self.now step)) (sym c.in-Out.is) c.out_holds.ensures

pub returns-in-Over : goal.returns-in-Over
returns-in-Over c = subst (λ step. IfOk c.over_holds.result (ShowsStep c.args.self.now step)) (sym c.in-Over.is) c.over_holds.ensures

pub returns-in-SwapAfter : goal.returns-in-SwapAfter
returns-in-SwapAfter c = subst (λ step. ShowsStep c.args.self.now step c.swap_after_holds.result) (sym c.in-SwapAfter.is) c.swap_after_holds.ensures

pub returns-in-SwapBefore : goal.returns-in-SwapBefore
returns-in-SwapBefore c = subst (λ step. ShowsStep c.args.self.now step c.swap_before_holds.result) (sym c.in-SwapBefore.is) c.swap_before_holds.ensures
