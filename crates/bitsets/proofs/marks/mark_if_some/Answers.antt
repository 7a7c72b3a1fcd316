use Rattle.bitsets.proofs.MarkFacts.{marks_some, on_ok}
use Rattle.bitsets.proofs.marks.mark_if_some.Goals as goal

pub returns-in-Some : goal.returns-in-Some
returns-in-Some c = on_ok c.mark.result _ _ (marks_some c.args.marks.now.items c.mark.new.marks.items c.args.number c.in-Some.n c.in-Some.is) c.mark.ensures
