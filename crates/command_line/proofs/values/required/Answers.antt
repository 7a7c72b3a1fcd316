use Rattle.std.specs.Str.Parse.{ExplainsUnsignedError, HasUnsignedDigitsIfOk, ParsesUnsigned}
use Rattle.std.specs.Prelude.{codes}
use Rattle.clap.specs.Words.{found_of}
use Rattle.command_line.proofs.FoundLemmas.{number_read}
use Rattle.command_line.proofs.values.required.Goals as goal

pub returns : goal.returns
returns c =
    number_read (λ text r. ParsesUnsigned 64 10 text r × ExplainsUnsignedError 10 text r × HasUnsignedDigitsIfOk text r)
    (found_of c.args.matches.now) (codes "require") c.get_one.result (λ text r read. read.0) c.get_one.ensures.none c.get_one.ensures.value
