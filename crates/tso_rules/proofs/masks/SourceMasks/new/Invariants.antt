use Rattle.tso_rules.specs.Internal.MaskTables.{AreMasksFrom}
use Rattle.tso_rules.proofs.masks.SourceMasks.new.Given as goal

-- the rows of the loads passed are made
abbrev pub invariant-loop-load : goal.invariant-loop-load
invariant-loop-load l = AreMasksFrom l.trace l.words.items l.width l.load
