use Rattle.std.proofs.Common.{◌∙◌, List, [], ap, map, option_map, refl, sym, unwrap_or}
use Rattle.std.specs.Borrow.{Bor}
use Rattle.std.specs.Prelude.{Option}
use Rattle.std.specs.Global.{Vec}
use Rattle.std.proofs.lemmas.Result.{IfOk-weaker}
use Rattle.clap.specs.Words.{found_of, rows_of}
use Rattle.clap.proofs.WalkLemmas.{raw_values-rows}
use Rattle.command_line.specs.Requests.{Text}
use Rattle.command_line.proofs.FoundLemmas.{batch_asked}
use Rattle.command_line.proofs.found.batch.Goals as goal

-- the texts behind references
abbrev named_in : Option (Vec (Option (Bor Text))) → Option (List (Option Text))
named_in = option_map (λ texts. map (option_map (λ file. file.now)) texts.items)

pub returns-in-Some : goal.returns-in-Some
returns-in-Some c =
    batch_asked (rows_of (found_of c.args.matches.now)) _ _ (ap (λ o. unwrap_or o []) (c.get_strs.ensures ∙ raw_values-rows (found_of c.args.matches.now) _))
    (sym (ap named_in c.in-Some.is) ∙ c.in_ok-named.ensures) _ _ c.workers.ensures c.batch_printing.ensures

pub returns-in-None : goal.returns-in-None
returns-in-None c =
    IfOk-weaker c.refuse.result _ _ (λ request is. is ∙ batch_asked (rows_of (found_of c.args.matches.now)) _ _ (ap (λ o. unwrap_or o []) (c.get_strs.ensures ∙ raw_values-rows (found_of c.args.matches.now) _))
    (sym (ap named_in c.in-None.is) ∙ c.in_ok-named.ensures) _ _ refl refl) c.refuse.ensures
