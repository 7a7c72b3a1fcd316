use Rattle.std.proofs.Common.{◌≡◌, ◌∙◌, sym, ap, Some, slice_get, get_or, length, arith}
use Rattle.std.proofs.lemmas.Option.{slice_get-get_or}
use Rattle.tso_ops.specs.declared.ops.Op.TheVariants.{Ld}
use Rattle.tso_ops.specs.Values.{ops_at}
use Rattle.unit_core.proofs.IssueFacts.{ops-issuable}
use Rattle.unit_core.proofs.ReplayFacts.{FollowsActs-issue, FollowsActs-nothing_left, HasIssued-next, no_ops}
use Rattle.unit_core.proofs.replays.issue_next.Goals as goal

pub returns-then-p-processors-clause-follows : goal.returns-then-p-processors-clause-follows
returns-then-p-processors-clause-follows g c =
    FollowsActs-nothing_left c.args.program.now c.args.issued.now c.args.p (g.U.MemoryUnit.value_of c.args.unit.now)
    (let past = c.if-p-processors.true in omega (arith, no_ops c.args.program.now c.args.p (omega (arith, c.processors.ensures.count))))

pub perform-requires-clause-issuable : goal.perform-requires-clause-issuable
perform-requires-clause-issuable g c =
    rw c.ops-ops.ensures (ops-issuable c.args.program.now c.args.p c.processors.ensures.kept (get_or c.args.issued.now c.args.p 0) (Ld 0)
    (let within = c.if-next-ops.true in rw c.ops-ops.ensures at within))

-- the operation that is next
next_is : (g : _) (c : goal.In_ok-perform g) → slice_get (ops_at c.args.program.now c.args.p) (get_or c.args.issued.now c.args.p 0) ≡
    Some (get_or c.ops-ops.result.now (get_or c.args.issued.now c.args.p 0) (Ld 0))
next_is g c =
    let n = get_or c.args.issued.now c.args.p 0 in
    ap (λ ops. slice_get ops n) (sym c.ops-ops.ensures) ∙ slice_get-get_or c.ops-ops.result.now n (Ld 0) c.if-next-ops.true

pub returns-in_ok-perform-clause-issued : goal.returns-in_ok-perform-clause-issued
returns-in_ok-perform-clause-issued g c =
    HasIssued-next c.args.program.now c.args.issued.now c.args.p _ c.in_ok-perform.field-0 (g.U.MemoryUnit.value_of c.args.unit.now) (g.U.MemoryUnit.value_of c.perform.new.unit)
    (omega (arith, c.requires.counts, c.processors.ensures.count, c.if-p-processors.false, c.processors.ensures.kept.processors)) (next_is g c) c.in_ok-perform.ensures.answered
    c.in_ok-perform.ensures.taken c.requires

pub returns-in_ok-perform-clause-follows : goal.returns-in_ok-perform-clause-follows
returns-in_ok-perform-clause-follows g c =
    FollowsActs-issue c.args.program.now c.args.issued.now c.args.p _ c.in_ok-perform.field-0 (g.U.MemoryUnit.value_of c.args.unit.now) (g.U.MemoryUnit.value_of c.perform.new.unit)
    (omega (arith, c.processors.ensures.count, c.if-p-processors.false)) c.requires.counts c.processors.ensures.kept.processors (next_is g c) c.in_ok-perform.ensures.answered c.in_ok-perform.ensures.taken

pub returns-else-next-ops-clause-follows : goal.returns-else-next-ops-clause-follows
returns-else-next-ops-clause-follows g c =
    FollowsActs-nothing_left c.args.program.now c.args.issued.now c.args.p (g.U.MemoryUnit.value_of c.args.unit.now) (let past = c.if-next-ops.false in omega (arith, ap length c.ops-ops.ensures))
