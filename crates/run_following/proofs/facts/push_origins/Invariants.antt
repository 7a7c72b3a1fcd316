use Rattle.std.proofs.Common.{◌≡◌, ◌++◌, drop, map}
use Rattle.run_following.specs.Facts.{fact_value, origin_fact}
use Rattle.run_following.specs.KeptLines.{kept_text}
use Rattle.run_following.proofs.facts.push_origins.Given as goal

abbrev pub invariant-loop-origin : goal.invariant-loop-origin
invariant-loop-origin l =
    map fact_value l.facts.items ++ map (origin_fact (kept_text l.kept)) (drop l.origin-index l.origins)
    ≡ map fact_value l.fn.facts.items ++ map (origin_fact (kept_text l.kept)) l.fn.origins
