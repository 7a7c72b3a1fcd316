use Rattle.std.proofs.Common.{◌≢◌, ◌∙◌, get_or, refl, sym, arith}
use Rattle.std.proofs.lemmas.Bool.{false≢true}
use Rattle.bitsets.specs.Rows.{HasNumber}
use Rattle.bitsets.proofs.MarkFacts.{earlier_words_all, earlier_words_more, marks_none}
use Rattle.bitsets.proofs.RowFacts.{left_number, bit_without, HasNumber-within}
use Rattle.tso_rules.proofs.over_base.mark_unreached.Goals as goal

pub returns-then-not-may_lack : goal.returns-then-not-may_lack
returns-then-not-may_lack c = marks_none c.args.marks.now.items _ (λ v is. false≢true (sym c.if-not-may_lack.true ∙ c.may_lack.ensures v is.0.0 is.0.1))

pub loop-j-preserved : goal.loop-j-preserved
loop-j-preserved c =
    let row = c.args.row.now in
    let reached = c.args.reached.now in
    let u = c.args.u in
    earlier_words_more c.args.marks.now.items c.loop-j.marks.items c.mark_word.new.marks.items c.loop-j.j c.word_without.result
    (λ v. (HasNumber row v × (HasNumber reached v → ⊥)) × (v ≢ u)) c.loop-j.invariant c.in_ok-mark_word.ensures
    (λ v at. bit_without _ c.word_without.result c.loop-j.j u v _ at c.word_without.ensures
    (left_number row reached c.loop-j.j (get_or row c.loop-j.j 0) c.word_at.result v at refl c.word_at.ensures (omega arith)))

pub returns : goal.returns
returns c =
    let row = c.args.row.now in
    let reached = c.args.reached.now in
    let u = c.args.u in
    earlier_words_all c.args.marks.now.items c.loop-j.marks.items c.loop-j.j (λ v. (HasNumber row v × (HasNumber reached v → ⊥)) × (v ≢ u)) c.loop-j.invariant
    (λ v is. let low = HasNumber-within row v is.0.0 in omega (arith, low, c.loop-j-test.false))
