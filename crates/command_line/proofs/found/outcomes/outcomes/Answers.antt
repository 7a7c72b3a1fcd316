use Rattle.std.proofs.Common.{◌∙◌, None, Some, ap, option_map, sym}
use Rattle.std.specs.Prelude.{codes}
use Rattle.std.proofs.lemmas.Result.{IfOk-weaker}
use Rattle.clap.specs.Words.{found_of, rows_of}
use Rattle.clap.proofs.WalkLemmas.{first_value-rows}
use Rattle.command_line.proofs.FoundLemmas.{outcomes_found}
use Rattle.command_line.proofs.found.outcomes.outcomes.Goals as goal

pub returns-in-Some : goal.returns-in-Some
returns-in-Some c =
    let rows = rows_of (found_of c.args.matches.now) in
    IfOk-weaker c.seen.result _ _ (λ request is. is ∙ outcomes_found rows _ _ _ _ c.form_of-form.ensures c.is_used.ensures c.number-limit.ensures c.file-program.ensures (Some c.in-Some.name.now)
    (ap (option_map (λ s. s.now)) (sym c.in-Some.is) ∙ c.get_str.ensures ∙ first_value-rows (found_of c.args.matches.now) (codes "seen"))) c.seen.ensures

pub returns-in-None : goal.returns-in-None
returns-in-None c =
    let rows = rows_of (found_of c.args.matches.now) in
    outcomes_found rows _ _ _ _ c.form_of-form.ensures c.is_used.ensures c.number-limit.ensures c.file-program.ensures None
    (ap (option_map (λ s. s.now)) (sym c.in-None.is) ∙ c.get_str.ensures ∙ first_value-rows (found_of c.args.matches.now) (codes "seen"))
