use Rattle.std.proofs.Common.{◌≡◌, map, rules}
use Rattle.command_line.specs.Requests.{texts_in}
use Rattle.command_line.specs.Internal.Computed.{parsed_as}
use Rattle.command_line.proofs.ParseLemmas.{fails_by, subcommand_found}
use Rattle.command_line.proofs.requests.matches.Goals as goal

pub returns-in-Some-clause-found : goal.returns-in-Some-clause-found
returns-in-Some-clause-found c =
    let given : map (λ s. s.now) c.in-Some.option.now ≡ parsed_as (texts_in c.args.arguments.now) = search rules in
    subcommand_found _ _ _ _ _ c.in_ok-command.ensures.app given c.try_get_matches_from.ensures.matches

pub returns-in-Some-clause-kinds : goal.returns-in-Some-clause-kinds
returns-in-Some-clause-kinds c =
    let given : map (λ s. s.now) c.in-Some.option.now ≡ parsed_as (texts_in c.args.arguments.now) = search rules in
    fails_by _ _ _ _ _ c.in_ok-command.ensures.app given c.try_get_matches_from.ensures.kinds

pub returns-in-None-clause-found : goal.returns-in-None-clause-found
returns-in-None-clause-found c =
    let given : texts_in c.args.arguments.now ≡ parsed_as (texts_in c.args.arguments.now) = search rules in
    subcommand_found _ _ _ _ _ c.in_ok-command.ensures.app given c.try_get_matches_from-in-None.ensures.matches

pub returns-in-None-clause-kinds : goal.returns-in-None-clause-kinds
returns-in-None-clause-kinds c =
    let given : texts_in c.args.arguments.now ≡ parsed_as (texts_in c.args.arguments.now) = search rules in
    fails_by _ _ _ _ _ c.in_ok-command.ensures.app given c.try_get_matches_from-in-None.ensures.kinds
