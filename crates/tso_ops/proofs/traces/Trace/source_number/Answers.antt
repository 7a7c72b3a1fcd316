use Rattle.std.proofs.Common.{ap, subst, Some}
use Rattle.tso_ops.specs.Events.{SourceIs}
use Rattle.tso_ops.proofs.NumberFacts.{own_values, source_unique}
use Rattle.tso_ops.proofs.traces.Trace.source_number.Goals as goal

pub returns-in-Init-clause-all : goal.returns-in-Init-clause-all
returns-in-Init-clause-all c = λ s has.
    ap Some (source_unique c.args.self.now (own_values c.args.self.now c.events-events.ensures.kept) c.args.l 0 s (subst (SourceIs c.args.self.now c.args.l) c.in-Init.is c.in_ok-source.ensures.read) has)

pub returns-in-Store-clause-all : goal.returns-in-Store-clause-all
returns-in-Store-clause-all c = λ s has.
    let read = subst (SourceIs c.args.self.now c.args.l) c.in-Store.is c.in_ok-source.ensures.read in
    ap Some (source_unique c.args.self.now (own_values c.args.self.now c.events-events.ensures.kept) c.args.l c.in-Store.s s read.0 has)
