use Rattle.tso_model.specs.Ranks.{RankSet}
use Rattle.bitsets.proofs.MarkFacts.{marks_both, marks_as, marks_from_none}
use Rattle.tso_rules.proofs.BaseFacts.{base_or_own}
use Rattle.tso_rules.proofs.masked_base.masked_base_words.Goals as goal

pub returns : goal.returns
returns c = λ v.
    let first = c.in_ok-marks.marks.items in
    let last = c.mark_masked_own.new.marks.items in
    let t = c.args.trace.now in
    marks_from_none first last (RankSet t 0 c.args.u) c.in_ok-marks.ensures.items
    (marks_as first last _ _
    (marks_both first c.mark_all_but_own.new.marks.items last _ _ c.in_ok-mark_all_but_own.ensures c.in_ok-mark_masked_own.ensures)
    (λ n. base_or_own t c.args.u n))
    v
