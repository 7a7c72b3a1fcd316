use Rattle.std.proofs.Common.{arith}
use Rattle.std.proofs.lemmas.Bool.{false≢true}
use Rattle.tso_rules.proofs.SourceMaskFacts.{masks_past, masks_more}
use Rattle.tso_rules.proofs.masks.add_load.Goals as goal

pub returns-then-not-is_load : goal.returns-then-not-is_load
returns-then-not-is_load c = masks_past c.args.trace.now c.args.words.now c.args.width c.args.load c.requires.later (λ load. false≢true (c.if-not-is_load.ensures.1 load))

pub returns : goal.returns
returns c =
    masks_more c.args.trace.now c.args.words.now c.add_later.new.words c.add_source.new.words c.args.width c.args.load c.requires.later (c.is_load.ensures.0 c.if-not-is_load.false)
    (omega (arith, c.add_later.auto.words, c.add_source.auto.words)) c.add_later.ensures c.add_source.ensures
