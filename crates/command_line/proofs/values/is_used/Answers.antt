use Rattle.std.proofs.Common.{◌∙◌}
use Rattle.clap.specs.Words.{found_of}
use Rattle.command_line.proofs.FoundLemmas.{flag_found}
use Rattle.command_line.proofs.values.is_used.Goals as goal

pub returns : goal.returns
returns c = c.unwrap_or.ensures ∙ flag_found _ (found_of c.args.matches.now) c.args.name.now c.get_one.result c.get_one.ensures.none c.get_one.ensures.value
