use Rattle.std.proofs.Common.{[]}
use Rattle.bitsets.specs.Rows.{Marks}
use Rattle.tso_rules.proofs.InferredFacts.{SourcesBefore}
use Rattle.tso_rules.proofs.sources.sources_of.Given as goal

-- the sources of the loads of the passed words are marked
abbrev pub invariant-loop-j : goal.invariant-loop-j
invariant-loop-j l = Marks [] l.sources.items (SourcesBefore l.trace l.one l.two l.u l.j)
