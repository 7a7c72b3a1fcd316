-- Lemmas on pictures with the names of the field.
use Rattle.std.proofs.Common.{◌≡◌, ℕ, refl}
use Rattle.std.specs.Prelude.{None, Some}
use Rattle.tso_ops.specs.Values.{TraceValue}
use Rattle.tso_cert.specs.declared.steps.Certificate.TheVariants.{Unwritten}
use Rattle.trace_explanation.specs.DiagnosedCycles.{named_cycle}
use Rattle.trace_explanation.specs.UnfoldedCycles.{unfolded_cycle, walk_by}
use Rattle.trace_pictures.specs.Arrows.{arrows_of}
use Rattle.trace_pictures.specs.Pictures.{field_graph, field_picture, nodes_text, picture_of, picture_text, rule_graph}

pub silent_same : (t : TraceValue) → field_picture t None ≡ picture_text t None
unfolding arrows_of field_graph named_cycle nodes_text picture_of rule_graph unfolded_cycle walk_by
silent_same t = refl

pub unwritten_same : (t : TraceValue) (n : ℕ) → field_picture t (Some (Unwritten n)) ≡ picture_text t (Some (Unwritten n))
unfolding arrows_of field_graph named_cycle nodes_text picture_of rule_graph unfolded_cycle walk_by
unwritten_same t n = refl
