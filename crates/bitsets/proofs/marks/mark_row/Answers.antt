use Rattle.std.proofs.Common.{get_or, refl, arith}
use Rattle.bitsets.specs.Rows.{HasNumber}
use Rattle.bitsets.proofs.MarkFacts.{earlier_words_more, earlier_words_all}
use Rattle.bitsets.proofs.RowFacts.{word_number, HasNumber-within}
use Rattle.bitsets.proofs.marks.mark_row.Goals as goal

pub loop-j-preserved : goal.loop-j-preserved
loop-j-preserved c =
    earlier_words_more c.args.marks.now.items c.loop-j.marks.items c.mark_word.new.marks.items c.loop-j.j (get_or c.args.row.now c.loop-j.j 0) (HasNumber c.args.row.now)
    c.loop-j.invariant c.in_ok-mark_word.ensures
    (λ v at. word_number c.args.row.now c.loop-j.j (get_or c.args.row.now c.loop-j.j 0) v at refl)

pub returns : goal.returns
returns c =
    earlier_words_all c.args.marks.now.items c.loop-j.marks.items c.loop-j.j (HasNumber c.args.row.now) c.loop-j.invariant
    (λ v has. let low = HasNumber-within c.args.row.now v has in omega (arith, low, c.loop-j-test.false))
