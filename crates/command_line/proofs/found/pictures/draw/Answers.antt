use Rattle.std.proofs.Common.{◌∙◌, None, Some, sym}
use Rattle.std.proofs.lemmas.Result.{IfOk-weaker}
use Rattle.clap.specs.Words.{found_of, rows_of}
use Rattle.command_line.proofs.FoundLemmas.{draw_asked}
use Rattle.command_line.proofs.found.pictures.draw.Goals as goal

pub returns-in-Some : goal.returns-in-Some
returns-in-Some c = c.present.ensures ∙ draw_asked (rows_of (found_of c.args.matches.now)) (Some c.in-Some.presentation) (sym c.in-Some.is ∙ c.chosen_form.ensures)

pub returns-in-None : goal.returns-in-None
returns-in-None c =
    IfOk-weaker c.refuse.result _ _ (λ request is. is ∙ draw_asked (rows_of (found_of c.args.matches.now)) None (sym c.in-None.is ∙ c.chosen_form.ensures)) c.refuse.ensures
