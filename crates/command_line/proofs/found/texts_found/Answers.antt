use Rattle.command_line.proofs.found.texts_found.Goals as goal

pub returns-in-Some : goal.returns-in-Some
returns-in-Some c = rw c.in-Some.is c.batch_texts.ensures
