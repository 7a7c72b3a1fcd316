use Rattle.std.proofs.Common.{◌<◌, suc, arith}
use Rattle.tso_ops.specs.Events.{event_total, IsUnwritten}
use Rattle.tso_ops.proofs.NumberFacts.{IsLoad-within}
use Rattle.tso_model.proofs.Searches.{none_more, none_found}
use Rattle.traces_for_tests.proofs.sources.has_unwritten_load.Goals as goal

pub loop-l-preserved : goal.loop-l-preserved
loop-l-preserved c = none_more (λ l. IsUnwritten c.args.trace.now l) c.loop-l.l c.loop-l.invariant c.if-is_unwritten.ensures

pub returns : goal.returns
returns c =
    none_found (λ l. IsUnwritten c.args.trace.now l) c.loop-l.l
    (λ l h. let within : l < suc (event_total c.args.trace.now) = IsLoad-within c.args.trace.now l h.0 in omega arith)
    c.loop-l.invariant
