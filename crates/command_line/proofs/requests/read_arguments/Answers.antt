use Rattle.std.proofs.lemmas.Result.{IfOk-weaker}
use Rattle.command_line.proofs.MatchLemmas.{asked_for}
use Rattle.command_line.proofs.SpellingLemmas.{help_is, asked_is, notes_are, refused_is}
use Rattle.command_line.proofs.requests.read_arguments.Goals as goal

pub returns-clause-parsed : goal.returns-clause-parsed
returns-clause-parsed c = IfOk-weaker c.command_line_by.result _ _ (λ line found. asked_for _ c.option_names.ensures _ _ found) c.command_line_by.ensures.found

pub returns-clause-asked : goal.returns-clause-asked
returns-clause-asked c = λ asked asks. IfOk-weaker c.command_line_by.result _ _ (λ line found. asked_is _ c.option_names.ensures _ asked _ asks found) c.command_line_by.ensures.found

pub returns-clause-helped : goal.returns-clause-helped
returns-clause-helped c = λ asks. IfOk-weaker c.command_line_by.result _ _ (λ line found. help_is _ _ _ asks found) c.command_line_by.ensures.found

pub returns-clause-refused : goal.returns-clause-refused
returns-clause-refused c = λ refuses. IfOk-weaker c.command_line_by.result _ _ (λ line found. refused_is _ c.option_names.ensures _ _ refuses found) c.command_line_by.ensures.found

pub returns-clause-notes : goal.returns-clause-notes
returns-clause-notes c = λ notes asks. IfOk-weaker c.command_line_by.result _ _ (λ line found. notes_are _ c.option_names.ensures _ notes _ asks found) c.command_line_by.ensures.notes
