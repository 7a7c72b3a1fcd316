use Rattle.std.proofs.Common.{◌∙◌, None, Some, false, refl, sym}
use Rattle.std.proofs.lemmas.Result.{IfOk-weaker}
use Rattle.clap.specs.Words.{found_of, rows_of}
use Rattle.command_line.specs.Options.{is_true}
use Rattle.command_line.proofs.FoundLemmas.{log_found}
use Rattle.command_line.proofs.found.logs.log.Goals as goal

pub returns-in-Some : goal.returns-in-Some
returns-in-Some c =
    IfOk-weaker c.on_log.result _ _ (λ request is. is ∙
    log_found (rows_of (found_of c.args.matches.now)) (Some c.in-Some.options) (sym c.in-Some.is ∙ c.log_options.ensures) _ c.file.ensures _ c.is_used.ensures) c.on_log.ensures

pub returns-in-None : goal.returns-in-None
returns-in-None c =
    IfOk-weaker c.refuse.result _ _ (λ request is. is ∙
    log_found (rows_of (found_of c.args.matches.now)) None (sym c.in-None.is ∙ c.log_options.ensures) _ refl _ refl) c.refuse.ensures
