use Rattle.std.proofs.Common.{List, ℕ, subst}
use Rattle.std.proofs.lemmas.Result.{IfOk-weaker}
use Rattle.bitsets.specs.Rows.{IsListOf}
use Rattle.tso_rules.specs.Affected.{IsAffected}
use Rattle.chain_rules.proofs.RowListFacts.{changed_listed, changed_rests}
use Rattle.chain_rules.proofs.worksets.changed_rows.Goals as goal

pub returns-clause-rows : goal.returns-clause-rows
returns-clause-rows c =
    IfOk-weaker c.affected_rows.result _ _ (λ numbers list k old follows.
    changed_listed c.args.trace.now k old c.args.reach.now c.in_ok-grown.grown.items numbers.items follows c.in_ok-grown.ensures
    (subst (λ (l : List ℕ). IsListOf numbers.items (IsAffected c.args.trace.now l)) c.deref.ensures.value list)) c.affected_rows.ensures

pub returns-clause-only : goal.returns-clause-only
returns-clause-only c =
    IfOk-weaker c.affected_rows.result _ _ (λ numbers list.
    changed_rests c.args.trace.now c.args.reach.now c.in_ok-grown.grown.items numbers.items c.in_ok-grown.ensures
    (subst (λ (l : List ℕ). IsListOf numbers.items (IsAffected c.args.trace.now l)) c.deref.ensures.value list)) c.affected_rows.ensures
