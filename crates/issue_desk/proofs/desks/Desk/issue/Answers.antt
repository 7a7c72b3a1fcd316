use Rattle.std.proofs.Common.{◌≡◌, ◌∙◌, sym, ap, refl, ◌<◌, Some, slice_get, get_or, length, arith}
use Rattle.std.proofs.lemmas.List.{get_or_read_under}
use Rattle.std.proofs.lemmas.Option.{slice_get-get_or}
use Rattle.tso_ops.specs.declared.ops.Op.TheVariants.{Ld}
use Rattle.tso_ops.specs.Values.{ops_at}
use Rattle.unit_core.proofs.IssueFacts.{ops-issuable}
use Rattle.issue_desk.proofs.DeskFacts.{desk-issued, issues-next}
use Rattle.issue_desk.proofs.desks.Desk.issue.Goals as goal
use Rattle.issue_desk.proofs.desks.Desk.issue.Goals.{After-steps-steps}

pub perform-requires : goal.perform-requires
perform-requires g c =
    rw c.ops-ops.ensures (ops-issuable c.self.inside.program c.processor-p.result c.processors.ensures.kept c.index-next.result.now (Ld 0)
    (let within = c.if-next-ops.false in rw c.ops-ops.ensures at within))

below : (g : _) (c : After-steps-steps g) → c.processor-p.result < length c.self.inside.program.lists
below g c = omega (arith, c.if-p-processors.false, c.processors.ensures.count)

-- how many operations of the processor were issued
count : (g : _) (c : After-steps-steps g) → c.index-next.result.now ≡ get_or c.self.inside.issued.items c.processor-p.result 0
count g c =
    get_or_read_under c.self.inside.issued.items c.processor-p.result (length c.self.inside.issued.items) c.index-next.result.now 0 c.index-next.ensures
    (omega (arith, below g c, c.self.invariant.1.processors)) refl

-- the operation that is next
read : (g : _) (c : After-steps-steps g) → slice_get (ops_at c.self.inside.program c.processor-p.result) c.index-next.result.now ≡ Some (get_or c.ops-ops.result.now c.index-next.result.now (Ld 0))
read g c =
    ap (λ ops. slice_get ops c.index-next.result.now) (sym c.ops-ops.ensures) ∙ slice_get-get_or c.ops-ops.result.now c.index-next.result.now (Ld 0) c.if-next-ops.false

pub invariant_of-self-2 : goal.invariant_of-self-2
invariant_of-self-2 g c =
    desk-issued c.self.inside.program (g.U.MemoryUnit.value_of c.self.inside.unit) (g.U.MemoryUnit.value_of c.perform.new.unit) c.self.inside.issued.items c.args.pass.now c.perform.new.self _
    c.processor-p.result c.index-next.result.now c.processor-p.ensures.is (count g c) (below g c) (read g c) c.steps-steps.ensures.kept c.in_ok-perform.ensures.answered
    c.self.invariant.0 c.self.invariant.1

pub returns-clause-issued : goal.returns-clause-issued
returns-clause-issued g c =
    rw (← c.self.view_is) (issues-next c.self.inside.program (g.U.MemoryUnit.value_of c.self.inside.unit) (g.U.MemoryUnit.value_of c.perform.new.unit) c.self.inside.issued.items c.args.pass.now
    c.perform.new.self _ c.processor-p.result c.index-next.result.now c.processor-p.ensures.is (count g c) (below g c) (read g c) c.in_ok-perform.ensures.answered c.self.invariant.1)

pub returns-clause-kept : goal.returns-clause-kept
returns-clause-kept g c = (invariant_of-self-2 g c).0
