use Rattle.std.proofs.Common.{◌∙◌, None, Some, ap, option_map, refl, sym}
use Rattle.std.proofs.lemmas.Result.{IfOk-weaker}
use Rattle.clap.specs.Words.{found_of, one_of, rows_of}
use Rattle.std.specs.Prelude.{codes}
use Rattle.command_line.specs.Requests.{files_of}
use Rattle.command_line.specs.Options.{given_number, is_true}
use Rattle.command_line.proofs.FoundLemmas.{verify_asked}
use Rattle.command_line.proofs.found.evidence.verify.Goals as goal

pub returns-in-Some : goal.returns-in-Some
returns-in-Some c =
    let rows = rows_of (found_of c.args.matches.now) in
    IfOk-weaker c.on_texts.result _ _ (λ request is. is ∙ verify_asked rows (Some (files_of c.in-Some.texts)) (sym (ap (option_map files_of) c.in-Some.is) ∙ c.text_pair.ensures) _ c.is_used.ensures _ c.nth.ensures) c.on_texts.ensures

pub returns-in-None : goal.returns-in-None
returns-in-None c =
    let rows = rows_of (found_of c.args.matches.now) in
    IfOk-weaker c.refuse.result _ _ (λ request is. is ∙ verify_asked rows None (sym (ap (option_map files_of) c.in-None.is) ∙ c.text_pair.ensures)
    (is_true (one_of (codes "log") rows)) refl (given_number (one_of (codes "nth") rows)) refl) c.refuse.ensures
