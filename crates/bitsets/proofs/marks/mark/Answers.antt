use Rattle.bitsets.proofs.MarkFacts.{marks_number, on_ok}
use Rattle.bitsets.proofs.marks.mark.Goals as goal

pub returns : goal.returns
returns c = on_ok c.mark_word.result _ _ (marks_number c.args.marks.now.items c.mark_word.new.marks.items c.args.number) c.mark_word.ensures
