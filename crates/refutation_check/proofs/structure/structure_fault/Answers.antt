use Rattle.std.proofs.Common.{◌∙◌, sym, reverse}
use Rattle.std.proofs.lemmas.Bool.{false≢true}
use Rattle.refutation_check.proofs.StructureFacts.{leaves_at, misplaced_at, unfinished}
use Rattle.refutation_check.proofs.structure.structure_fault.Goals as goal

pub returns-then-not-branch-clause-told : goal.returns-then-not-branch-clause-told
returns-then-not-branch-clause-told c =
    misplaced_at c.args.lines.now c.loop-k.k c.index-lines-k.result c.loop-k.structure.ended c.takes.new.self.ended (reverse c.loop-k.structure.cases.items)
    (reverse c.takes.new.self.cases.items) c.in_ok-takes.field-0 c.loop-k-test.true c.index-lines-k.is (λ e. false≢true (sym c.if-not-branch.true ∙ e))
    c.in_ok-takes.ensures.takes c.loop-k.invariant

pub loop-k-preserved : goal.loop-k-preserved
loop-k-preserved c =
    leaves_at c.args.lines.now c.loop-k.k c.index-lines-k.result c.loop-k.structure.ended c.takes.new.self.ended (reverse c.loop-k.structure.cases.items)
    (reverse c.takes.new.self.cases.items) c.in_ok-takes.field-0 c.loop-k-test.true c.index-lines-k.is c.if-not-branch.false c.in_ok-takes.ensures.takes c.loop-k.invariant

pub returns-clause-told : goal.returns-clause-told
returns-clause-told c =
    unfinished c.args.lines.now c.loop-k.k c.loop-k.structure.ended (reverse c.loop-k.structure.cases.items) c.loop-k-test.false c.loop-k.invariant
    (λ missing. false≢true (sym c.if-is_whole.false ∙ c.is_whole.ensures.1 missing))
