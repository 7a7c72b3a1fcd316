use Rattle.std.proofs.Common.{◌≡◌, drop, find, map}
use Rattle.std.specs.Str.{bytes_eq}
use Rattle.command_line.specs.Internal.Computed.{member_of}
use Rattle.command_line.proofs.subcommands.first_named.Given as goal

-- those before have other names
abbrev pub invariant-loop-subcommand : goal.invariant-loop-subcommand
invariant-loop-subcommand l =
    find (λ c. bytes_eq c.name l.name) (map member_of (drop l.subcommand-index l.list)) ≡ find (λ c. bytes_eq c.name l.name) (map member_of l.list)
