use Rattle.std.proofs.Common.{◌∙◌}
use Rattle.clap.specs.Words.{found_of}
use Rattle.command_line.proofs.FoundLemmas.{file_found, no_file_found}
use Rattle.command_line.proofs.values.file.Goals as goal

pub returns-in_err-named : goal.returns-in_err-named
returns-in_err-named c = rw c.from_residual.ensures (no_file_found (found_of c.args.matches.now) _ c.get_str.result c.get_str.ensures c.in_err-named.was)

pub returns : goal.returns
returns c = c.named_file.ensures ∙ file_found (found_of c.args.matches.now) _ c.get_str.result c.get_str.ensures c.in_ok-named.named c.in_ok-named.was
