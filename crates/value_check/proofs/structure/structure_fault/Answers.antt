use Rattle.std.proofs.Common.{◌∙◌, sym}
use Rattle.std.proofs.lemmas.Bool.{false≢true}
use Rattle.value_check.proofs.StructureFacts.{misplaced_at, unfinished}
use Rattle.value_check.proofs.structure.structure_fault.Goals as goal

pub returns-then-not-takes : goal.returns-then-not-takes
returns-then-not-takes c =
    misplaced_at c.args.lines.now c.loop-k.k _ c.loop-k.structure.ended c.takes.new.self.ended c.loop-k.structure.missing c.takes.new.self.missing c.takes.result
    c.loop-k-test.true c.takes.ensures.takes c.loop-k.invariant.leaves (λ taken. false≢true (sym c.if-not-takes.true ∙ taken))

pub returns-else-is_whole : goal.returns-else-is_whole
returns-else-is_whole c =
    unfinished c.args.lines.now c.loop-k.k c.loop-k.structure.ended c.loop-k.structure.missing c.loop-k-test.false c.loop-k.invariant.leaves
    (λ missing. false≢true (sym c.if-is_whole.false ∙ c.is_whole.ensures.1 missing))
