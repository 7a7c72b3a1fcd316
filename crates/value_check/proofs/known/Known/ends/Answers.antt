use Rattle.std.proofs.Common.{sym, subst, IfOk}
use Rattle.value_check.specs.Internal.Showing.{ShowsEnd}
use Rattle.value_check.proofs.known.Known.ends.Goals as goal

pub returns-in-NoSource : goal.returns-in-NoSource
returns-in-NoSource c = subst (λ end. IfOk c.has_no_source.result (ShowsEnd c.args.self.now c.args.aside.now end)) (sym c.in-NoSource.is) c.has_no_source.ensures

pub returns-in-Cycle : goal.returns-in-Cycle
returns-in-Cycle c = subst (λ end. ShowsEnd c.args.self.now c.args.aside.now end c.is_on_cycle.result) (sym c.in-Cycle.is) (c.is_on_cycle.ensures c.args.aside.now)
