use Rattle.std.proofs.Common.{◌+◌, Some}
use Rattle.program_chains.specs.LogEvents.{log_trace}
use Rattle.value_check.specs.Internal.InForce.{after}
use Rattle.value_check.specs.Internal.Walks.{HasLineFault, LineHolds}
use Rattle.value_check.proofs.WalkFacts.{fault_of_some, holds_of_none, walk_ends, walk_more}
use Rattle.value_check.proofs.refutation_checks.check_lines.Goals as goal

pub returns-in-Some : goal.returns-in-Some
returns-in-Some c =
    let t = log_trace c.args.log.now in
    let p = c.loop-k.invariant.0 in
    let k = c.loop-k.k in
    let told = fault_of_some c.in_ok-fault.field-0 c.in-Some.fault (LineHolds t p _) (HasLineFault t p (k + 1) _) c.in-Some.is (c.in_ok-fault.ensures t p c.loop-k.invariant.1) in
    c.loop-k.invariant.2 (Some c.in-Some.fault) (walk_ends t p c.args.lines.now k _ c.loop-k-test.true c.in-Some.fault told)

pub loop-k-preserved : goal.loop-k-preserved
loop-k-preserved c =
    let t = log_trace c.args.log.now in
    let p = c.loop-k.invariant.0 in
    let k = c.loop-k.k in
    let holds = holds_of_none c.in_ok-fault.field-0 (LineHolds t p _) (HasLineFault t p (k + 1) _) c.in_default.is (c.in_ok-fault.ensures t p c.loop-k.invariant.1) in (
      after _ p,
      c.in_ok-follow.ensures p c.loop-k.invariant.1 holds,
      λ answer walks. c.loop-k.invariant.2 answer (walk_more t p c.args.lines.now k _ c.loop-k-test.true answer holds walks),
    )
