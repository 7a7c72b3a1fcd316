use Rattle.std.proofs.Common.{◌∙◌, None, Some, refl, sym}
use Rattle.std.proofs.lemmas.Result.{IfOk-weaker}
use Rattle.clap.specs.Words.{found_of, rows_of}
use Rattle.command_line.proofs.FoundLemmas.{run_found}
use Rattle.command_line.proofs.found.runs.run.Goals as goal

pub returns-in-Some : goal.returns-in-Some
returns-in-Some c =
    IfOk-weaker c.run_with.result _ _ (λ request is. is ∙ run_found (rows_of (found_of c.args.matches.now)) (Some c.in-Some.options) (sym c.in-Some.is ∙ c.run_options.ensures) _ _ _ _ refl refl refl refl)
    c.run_with.ensures

pub returns-in-None : goal.returns-in-None
returns-in-None c =
    IfOk-weaker c.refuse.result _ _ (λ request is. is ∙ run_found (rows_of (found_of c.args.matches.now)) None (sym c.in-None.is ∙ c.run_options.ensures) _ _ _ _ refl refl refl refl) c.refuse.ensures
