use Rattle.std.proofs.Common.{◌∙◌, None, Some}
use Rattle.std.proofs.lemmas.Result.{IfOk-weaker}
use Rattle.command_line.specs.Commands.{asked_in}
use Rattle.command_line.specs.Requests.{judging}
use Rattle.command_line.specs.declared.options.Presentation.TheVariants.{Report}
use Rattle.command_line.proofs.RequestLemmas.{first_named, none_named}
use Rattle.command_line.proofs.subcommands.request.Goals as goal
use Rattle.command_line.proofs.subcommands.request.Goals.{in-Some+in_default-subcommand_named, in_default}

pub returns-in-Some-subcommand_named-clause-asked : goal.returns-in-Some-subcommand_named-clause-asked
returns-in-Some-subcommand_named-clause-asked c =
    let s = c.in-Some-subcommand_named in
    IfOk-weaker c.request.result _ _ (λ request is. is ∙ first_named asked_in (judging Report None 1 None) c.args.matches.now _ _ (Some s.subcommand) c.in-Some.ensures.name c.in-Some.ensures.rows s.ensures) c.request.ensures.asked

pub returns-clause-asked : goal.returns-clause-asked
returns-clause-asked c =
    elim c.match-subcommand.branch [
      | in-Some+in_default-subcommand_named w ↦ first_named asked_in (judging Report None 1 None) c.args.matches.now _ _ None w.in-Some.ensures.name w.in-Some.ensures.rows w.in_default-subcommand_named.ensures
      | in_default w ↦ none_named asked_in (judging Report None 1 None) c.args.matches.now w.in_default.ensures.name
    ]
