use Rattle.std.proofs.Common.{◌≡◌, ◌++◌, take}
use Rattle.trace_pictures.specs.Paths.{path_numbers}
use Rattle.trace_pictures.proofs.paths.push_path_numbers.Given as goal

abbrev pub invariant-loop-link : goal.invariant-loop-link
invariant-loop-link l = l.numbers.items ≡ l.fn.numbers.items ++ path_numbers l.numbered (take l.link-index l.links)
