use Rattle.std.proofs.Common.{◌≡◌, ◌+◌, ◌++◌, drop, string_bytes}
use Rattle.run_following.specs.JsonLines.{refusals_objects}
use Rattle.run_following.proofs.json_lines.push_refusals.Given as goal

abbrev pub invariant-loop-k : goal.invariant-loop-k
invariant-loop-k l =
    string_bytes l.text ++ refusals_objects l.is_explained (l.k + 1) (drop l.k l.told) ≡ string_bytes l.fn.text ++ refusals_objects l.is_explained 1 l.fn.told
