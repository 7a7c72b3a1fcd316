use Rattle.std.proofs.Common.{◌≡◌, ◌++◌, take, string_bytes}
use Rattle.std.specs.List.{flat_map}
use Rattle.trace_explanation.specs.Explanations.{link_text}
use Rattle.trace_explanation.proofs.cycles.push_links.Given as goal

abbrev pub invariant-loop-link : goal.invariant-loop-link
invariant-loop-link l = string_bytes l.text ≡ string_bytes l.fn.text ++ flat_map (link_text l.named.names.now l.named.trace.now l.numbered) (take l.link-index l.links)
