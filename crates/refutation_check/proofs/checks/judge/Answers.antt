use Rattle.std.proofs.Common.{All, refl, subst, arith}
use Rattle.tso_ops.proofs.EventFacts.{event_total-most}
use Rattle.refutation_check.specs.Refusals.{IsLineUpTo}
use Rattle.cert_check.proofs.RefusalFacts.{if_ok}
use Rattle.refutation_check.proofs.Told.{told_of_walk, structure_of_none}
use Rattle.refutation_check.proofs.checks.judge.Goals as goal

pub new-requires : goal.new-requires
new-requires c = let most = event_total-most c.args.trace.now c.events-last.ensures.kept in omega (arith, c.events-last.ensures.count, most)

pub returns-clause-told : goal.returns-clause-told
returns-clause-told c =
    if_ok _ _ (λ said walked.
    told_of_walk c.args.trace.now c.args.lines.now said (structure_of_none c.args.lines.now c.in_ok-fault.field-0 c.in_default.is c.in_ok-fault.ensures.told)
    (subst (λ n. All (IsLineUpTo n) c.args.lines.now) c.events-last.ensures.count (c.if-not-are_lines_up_to.ensures.0 refl)) walked)
    c.check_lines.result c.check_lines.ensures
