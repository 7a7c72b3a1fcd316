use Rattle.std.proofs.Common.{◌≡◌, ◌++◌, string_bytes, take}
use Rattle.std.specs.List.{flat_map}
use Rattle.log_reports.specs.ValueTexts.{sources_sentence}
use Rattle.log_reports.proofs.value_rendering.push_sentences.Given as goal

abbrev pub invariant-loop-sources : goal.invariant-loop-sources
invariant-loop-sources l = string_bytes l.text ≡ string_bytes l.fn.text ++ flat_map (sources_sentence l.fn.tags) (take l.sources-index l.loads)
