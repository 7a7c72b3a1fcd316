use Rattle.std.proofs.Common.{rules, ap, refl, ◌≡◌, ◌∙◌, option_and_then, option_map, unwrap_or}
use Rattle.clap.specs.Words.{found_of}
use Rattle.clap.proofs.WalkLemmas.{first_value-rows}
use Rattle.command_line.specs.declared.options.UnitKind.TheVariants.{Serial}
use Rattle.command_line.specs.Given.{value_named}
use Rattle.command_line.specs.Names.{units}
use Rattle.command_line.proofs.found.unit_options.Goals as goal

pub returns : goal.returns
returns c =
    let named : c.and_then-kind.result ≡ option_and_then (λ name. value_named name units) (option_map (λ s. s.now) c.get_str.result) = search rules in
    let kind_is = named ∙ ap (option_and_then (λ name. value_named name units)) (c.get_str.ensures ∙ first_value-rows (found_of c.args.matches.now) _) in
    rw (c.unwrap_or.ensures ∙ ap (λ o. unwrap_or o Serial) kind_is, c.number_within.ensures.value, c.number_within-2.ensures.value) refl
