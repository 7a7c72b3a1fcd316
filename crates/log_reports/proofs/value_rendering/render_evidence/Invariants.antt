use Rattle.std.proofs.Common.{◌≡◌, string_bytes, take}
use Rattle.std.specs.List.{flat_map}
use Rattle.log_text.specs.LogValues.{log_value}
use Rattle.log_thinning.specs.IdleSwaps.{with_idle_swaps_read}
use Rattle.value_texts.specs.Names.{event_names}
use Rattle.log_reports.specs.LogTexts.{violation_evidence_text}
use Rattle.log_reports.proofs.value_rendering.render_evidence.Given as goal

abbrev pub invariant-loop-violation : goal.invariant-loop-violation
invariant-loop-violation l = record {
  text : string_bytes l.text ≡ flat_map (violation_evidence_text l.names.items) (take l.violation-index l.violations);
  names : l.names.items ≡ event_names (with_idle_swaps_read (log_value l.fn.log));
}
