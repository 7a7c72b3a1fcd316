use Rattle.std.proofs.Common.{rules, ap, ◌≡◌, ◌∙◌, option_and_then, option_map, unwrap_or}
use Rattle.clap.specs.Words.{found_of}
use Rattle.clap.proofs.WalkLemmas.{first_value-rows}
use Rattle.command_line.specs.Given.{value_named}
use Rattle.command_line.specs.Names.{run_formats}
use Rattle.request_options.specs.declared.following.RunFormat.TheVariants.{Words}
use Rattle.command_line.proofs.values.run_format.Goals as goal

pub returns : goal.returns
returns c =
    let named : c.and_then-named.result ≡ option_and_then (λ name. value_named name run_formats) (option_map (λ s. s.now) c.get_str.result) = search rules in
    let format_is = named ∙ ap (option_and_then (λ name. value_named name run_formats)) (c.get_str.ensures ∙ first_value-rows (found_of c.args.matches.now) _) in
    c.unwrap_or.ensures ∙ ap (λ o. unwrap_or o Words) format_is
