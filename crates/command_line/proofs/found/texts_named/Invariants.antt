use Rattle.std.proofs.Common.{◌≡◌, Some, map, option_map, take}
use Rattle.command_line.specs.Subcommands.{file_of}
use Rattle.command_line.proofs.found.texts_named.Given as goal

abbrev pub invariant-loop-name : goal.invariant-loop-name
invariant-loop-name l = map (option_map (λ file. file.now)) l.texts.items ≡ map (λ name. file_of (Some name.now)) (take l.name-index l.names)
