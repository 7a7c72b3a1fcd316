-- The units, the memory models, the formats of a batch and of a run and the pictures by the names of edges, each with the name by which an option takes it.
use Rattle.std.specs.Prelude.{List, [], ◌∷◌, codes, map}
use Rattle.tso_ops.specs.declared.settings.Order.{Order}
use Rattle.tso_ops.specs.declared.settings.Order.TheVariants.{Tso, Pso}
use Rattle.request_options.specs.declared.batches.BatchFormat.{BatchFormat}
use Rattle.request_options.specs.declared.batches.BatchFormat.TheVariants.{Words, Json, Junit}
use Rattle.request_options.specs.declared.following.RunFormat.{RunFormat}
use Rattle.request_options.specs.declared.following.RunFormat.TheVariants as in_run
use Rattle.command_line.specs.declared.options.Presentation.{Presentation}
use Rattle.command_line.specs.declared.options.Presentation.TheVariants.{Picture, FieldPicture}
use Rattle.command_line.specs.declared.options.UnitKind.{UnitKind}
use Rattle.command_line.specs.declared.options.UnitKind.TheVariants.{Serial, Buffer, Partial, Faulty}
use Rattle.command_line.specs.declared.parameters.NameList.{NameList}
use Rattle.command_line.specs.declared.parameters.NameList.TheVariants.{Units, Models, Formats, RunFormats, Edges}
use Rattle.command_line.specs.Requests.{Text}
use Rattle.request_options.specs.FaultNames.{fault_name}
use Rattle.request_options.specs.declared.faults.FaultKind.TheVariants.{NewestFirst, NoForward, StaleLoad, TornSwap, IdleMembar, LostDrain}

-- the units, each with its name and its kind
abbrev pub units : List (Text × UnitKind)
units =
    (codes "serial", Serial) ∷ (codes "buffer", Buffer) ∷ (codes "partial", Partial)
    ∷ map (λ kind. (fault_name kind, Faulty kind)) (NewestFirst ∷ NoForward ∷ StaleLoad ∷ TornSwap ∷ IdleMembar ∷ LostDrain ∷ [])

-- the memory models, each with its name
abbrev pub models : List (Text × Order)
models = (codes "tso", Tso) ∷ (codes "pso", Pso) ∷ []

-- the formats of a batch, each with its name
abbrev pub formats : List (Text × BatchFormat)
formats = (codes "words", Words) ∷ (codes "json", Json) ∷ (codes "junit", Junit) ∷ []

-- the formats of what is told of a run, each with its name
abbrev pub run_formats : List (Text × RunFormat)
run_formats = (codes "words", in_run.Words) ∷ (codes "json", in_run.Json) ∷ []

-- the forms of a picture, each with the name of the names that its edges have
abbrev pub pictures : List (Text × Presentation)
pictures = (codes "rules", Picture) ∷ (codes "field", FieldPicture) ∷ []

-- the names that an option takes
abbrev pub known_names : NameList → List Text
known_names Units = map (λ unit. unit.0) units
known_names Models = map (λ model. model.0) models
known_names Formats = map (λ format. format.0) formats
known_names RunFormats = map (λ format. format.0) run_formats
known_names Edges = map (λ picture. picture.0) pictures
