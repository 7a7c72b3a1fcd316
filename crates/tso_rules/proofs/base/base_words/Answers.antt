use Rattle.tso_model.specs.Ranks.{RankSet}
use Rattle.bitsets.proofs.MarkFacts.{marks_from_none}
use Rattle.tso_rules.proofs.base.base_words.Goals as goal

pub returns : goal.returns
returns c = λ v.
    marks_from_none c.in_ok-marks.marks.items c.mark_base.new.marks.items (RankSet c.args.trace.now 0 c.args.u) c.in_ok-marks.ensures.items c.in_ok-mark_base.ensures v
