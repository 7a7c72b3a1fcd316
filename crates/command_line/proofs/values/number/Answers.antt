use Rattle.std.proofs.Common.{◌∙◌}
use Rattle.std.specs.Str.Parse.{ExplainsUnsignedError, HasUnsignedDigitsIfOk, ParsesUnsigned}
use Rattle.clap.specs.Words.{found_of}
use Rattle.command_line.proofs.FoundLemmas.{number_found}
use Rattle.command_line.proofs.values.number.Goals as goal

pub returns : goal.returns
returns c =
    c.unwrap_or.ensures ∙ number_found (λ text r. ParsesUnsigned 64 10 text r × ExplainsUnsignedError 10 text r × HasUnsignedDigitsIfOk text r)
    (found_of c.args.matches.now) c.args.name.now c.get_one-named.result (λ text r read. read.0) c.get_one-named.ensures.none c.get_one-named.ensures.value c.args.default
