-- The picture of a trace as a rendering of what is found of it.
use Rattle.std.specs.Prelude.{ℕ, List}
use Rattle.tso_ops.specs.Values.{TraceValue}
use Rattle.trace_reports.specs.declared.findings.Finding.{Finding}
use Rattle.trace_pictures.specs.Pictures.{field_picture, picture_text}

-- the picture of a trace
abbrev pub pictured : TraceValue → Finding → List ℕ
pictured t finding = picture_text t finding.certificate

-- its picture with the names of the field
abbrev pub field_pictured : TraceValue → Finding → List ℕ
field_pictured t finding = field_picture t finding.certificate
