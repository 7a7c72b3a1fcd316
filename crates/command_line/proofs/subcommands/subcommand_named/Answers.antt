use Rattle.std.proofs.Common.{◌∙◌, ap, find, map}
use Rattle.std.specs.Str.{bytes_eq}
use Rattle.command_line.specs.Internal.Computed.{member_of}
use Rattle.command_line.proofs.subcommands.subcommand_named.Goals as goal

pub returns : goal.returns
returns c = c.first_named.ensures ∙ ap (λ list. find (λ s. bytes_eq s.name c.args.name.now) (map member_of list)) c.as_slice.ensures
