-- What the explanation of a violation calls its events: by line, address and value of the log.
use Rattle.std.specs.Prelude.{ℕ, ◌==◌, List, [], ◌∷◌, ◌++◌, map, filter, codes}
use Rattle.std.specs.List.{flat_map, range_with_len}
use Rattle.std.specs.Fmt.{decimal}
use Rattle.log_text.specs.declared.logs.LogOperation.{LogOperation}
use Rattle.log_text.specs.declared.logs.LogOperation.TheVariants.{Ld, St, Sw, Mb, Sb}
use Rattle.tso_ops.specs.declared.operations.Part.{Part}
use Rattle.tso_ops.specs.declared.operations.Part.TheVariants.{Whole, SwapLoad, SwapStore}
use Rattle.log_selections.specs.declared.shown.Shown.{Shown}
use Rattle.trace_explanation.specs.Namings.{NamingValue}
use Rattle.trace_explanation.specs.declared.subjects.Subject.TheVariants.{Log}
use Rattle.log_text.specs.declared.tags.LineTags.{LineTags}
use Rattle.log_reports.specs.Lines.{line_shown, operation_text}

-- an event: its name, its processor, its line, and its address
pub record EventName : Type 0 where
  pub name : List ℕ
  pub processor : ℕ
  pub line : ℕ
  pub address : ℕ

-- the event of an operation at an address, which is this part of it
abbrev pub event_of : LineTags → Shown → ℕ → List ℕ → EventName
event_of tags s a part = record {
  name = codes "P" ++ decimal s.processor ++ codes " '" ++ operation_text s.logged.operation ++ codes "'" ++ part ++ codes " (line " ++ decimal (line_shown tags s) ++ codes ")";
  processor = s.processor;
  line = line_shown tags s;
  address = a;
}

-- the events of a swap of which this counts
abbrev pub swap_events : LineTags → Shown → ℕ → Part → List EventName
swap_events tags s a Whole = event_of tags s a (codes " load") ∷ event_of tags s a (codes " store") ∷ []
swap_events tags s a SwapLoad = event_of tags s a (codes " load") ∷ []
swap_events tags s a SwapStore = event_of tags s a (codes " store") ∷ []

-- the events of an operation
abbrev pub events_by : LineTags → Shown → LogOperation → List EventName
events_by tags s (Ld a r) = event_of tags s a [] ∷ []
events_by tags s (St a v) = event_of tags s a [] ∷ []
events_by tags s (Sw a r v) = swap_events tags s a s.part
events_by tags s Mb = []
events_by tags s Sb = []

-- those of processor p, in program order
abbrev pub event_names_of : LineTags → List Shown → ℕ → List EventName
event_names_of tags shown p = flat_map (λ s. events_by tags s s.logged.operation) (filter (λ s. s.processor == p) shown)

-- those of each of so many processors, in the order that they have in a trace
abbrev pub named_events : LineTags → ℕ → List Shown → List EventName
named_events tags processors shown = flat_map (event_names_of tags shown) (range_with_len 0 processors)

abbrev pub naming_of_shown : LineTags → ℕ → List Shown → NamingValue
naming_of_shown tags processors shown =
    let events = named_events tags processors shown in
    record { subject = Log; names = map (λ e. e.name) events; processors = map (λ e. e.processor) events; lines = map (λ e. e.line) events; addresses = map (λ e. e.address) events }
