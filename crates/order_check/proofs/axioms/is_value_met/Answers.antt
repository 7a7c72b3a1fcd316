use Rattle.std.proofs.Common.{◌∙◌, refl, sym, subst}
use Rattle.std.proofs.lemmas.Bool.{false≢true}
use Rattle.tso_ops.specs.Events.{SourceIs}
use Rattle.order_check.proofs.ValueFacts.{reads_first, reads_store, unwritten_unmet}
use Rattle.order_check.proofs.axioms.is_value_met.Goals as goal

pub returns-in-Some-Unwritten : goal.returns-in-Some-Unwritten
returns-in-Some-Unwritten c = λ order passed at. (
  λ e. absurd (false≢true e),
  λ met. absurd (unwritten_unmet c.args.trace.now order c.args.l (subst (SourceIs c.args.trace.now c.args.l) c.in-Some-Unwritten.field-0-is c.in-Some-Unwritten.ensures.read) met),
)

pub returns-in-Some-Init : goal.returns-in-Some-Init
returns-in-Some-Init c = λ order passed at.
    let source = subst (SourceIs c.args.trace.now c.args.l) c.in-Some-Init.field-0-is c.in-Some-Init.ensures.read in
    let last = c.is_last_seen.ensures order passed at in
    let reads = reads_first c.args.trace.now order c.args.l c.args.progress.now passed source in
    (λ yes. reads.0 (last.0 yes), λ met. last.1 (reads.1 met))

pub returns-then-is_seen : goal.returns-then-is_seen
returns-then-is_seen c = λ order passed at.
    let source = subst (SourceIs c.args.trace.now c.args.l) c.in-Some-Store.field-0-is c.in-Some-Store.ensures.read in
    let last = c.is_last_seen-then-is_seen.ensures order passed at in
    let reads = reads_store c.args.trace.now order c.args.l c.args.progress.now passed c.in-Some-Store.s source.0 source.1 in
    (λ yes. reads.0 (c.if-is_seen.ensures.0 refl, last.0 yes), λ met. last.1 (reads.1 met).1)

pub returns-else-is_seen : goal.returns-else-is_seen
returns-else-is_seen c = λ order passed at.
    let source = subst (SourceIs c.args.trace.now c.args.l) c.in-Some-Store.field-0-is c.in-Some-Store.ensures.read in
    let reads = reads_store c.args.trace.now order c.args.l c.args.progress.now passed c.in-Some-Store.s source.0 source.1 in
    (λ yes. absurd (false≢true (sym c.if-is_seen.false ∙ yes)), λ met. c.is_seen.ensures.1 (reads.1 met).0)
