use Rattle.std.proofs.Common.{◌≡◌, ℕ, Some, arith}
use Rattle.tso_ops.specs.Events.{HasSource}
use Rattle.tso_ops.proofs.NumberFacts.{IsLoad-within}
use Rattle.log_selections.specs.Cuts.{origin_in}
use Rattle.log_selections.specs.Internal.Known.{source_in}
use Rattle.log_selections.proofs.SourceFacts.{loads-next, no_load-zero, not_some, source_of_number}
use Rattle.log_selections.proofs.source_checks.keeps_sources.Goals as goal
use Rattle.log_selections.proofs.source_checks.keeps_sources.Goals.{in-None, in-Some}

pub loop-k-init : goal.loop-k-init
loop-k-init c l load within = absurd (no_load-zero c.args.trace.now l load within)

pub loop-k-preserved : goal.loop-k-preserved
loop-k-preserved c =
    loads-next c.args.trace.now (λ l. (s : ℕ) × HasSource c.args.trace.now l s × (source_in c.args.sources.now (origin_in c.args.origins.now l) ≡ Some (origin_in c.args.origins.now s))) c.loop-k.k c.loop-k.invariant
    (elim c.match-source.branch [
      | in-None w ↦ λ load. absurd (not_some c.source.result w.in-None.is (c.source.ensures.load.1 load))
      | in-Some w ↦ λ load.
          let (s, same, is) = w.is_known.ensures w.if-is_known.true in
          (s, source_of_number c.args.trace.now _ s w.in-Some.source w.in-Some.ensures.read same, is)
    ])

pub returns : goal.returns
returns c told l load =
    c.loop-k.invariant l load (omega (arith, IsLoad-within c.args.trace.now l load, c.events-k-end.ensures.count, c.loop-k-test.false))
