use Rattle.std.proofs.Common.{ℕ, List, subst}
use Rattle.bitsets.specs.Rows.{IsListOf}
use Rattle.tso_rules.specs.Affected.{IsAffected}
use Rattle.round_pool.proofs.WorksetFacts.{affected_workset}
use Rattle.round_pool.proofs.worksets.changed_rows.Goals as goal

pub returns : goal.returns
returns c = λ k old follows.
    affected_workset c.args.trace.now k old c.args.graph.now c.in_ok-grown.grown.items c.in_ok-numbers.numbers.items follows c.in_ok-grown.ensures
    (subst (λ (l : List ℕ). IsListOf c.in_ok-numbers.numbers.items (IsAffected c.args.trace.now l)) c.deref.ensures.value c.in_ok-numbers.ensures)
