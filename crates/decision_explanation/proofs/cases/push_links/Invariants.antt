use Rattle.std.proofs.Common.{◌≡◌, ◌++◌, take, string_bytes}
use Rattle.std.specs.List.{flat_map}
use Rattle.decision_explanation.specs.Cases.{link_of_pairs_text}
use Rattle.decision_explanation.specs.Internal.Standings.{standing_of}
use Rattle.decision_explanation.proofs.cases.push_links.Given as goal

abbrev pub invariant-loop-link : goal.invariant-loop-link
invariant-loop-link l = string_bytes l.text ≡ string_bytes l.fn.text ++ flat_map (link_of_pairs_text l.named (standing_of l.state).pairs) (take l.link-index l.links)
