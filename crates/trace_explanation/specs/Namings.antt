-- What an explanation calls the events of a trace: their names, their processors, the lines where they stand, and their addresses. They are those of the trace, or those
-- of the log that the trace was selected from.
use Rattle.std.specs.Prelude.{ℕ, zero, suc, List, [], map, get_or, codes}
use Rattle.std.specs.Option.{option_map_or}
use Rattle.tso_ops.specs.Values.{TraceValue}
use Rattle.tso_ops.specs.Operations.{operation_at}
use Rattle.trace_explanation.specs.declared.subjects.Subject.{Subject}
use Rattle.trace_explanation.specs.declared.subjects.Subject.TheVariants.{Trace, Log}
use Rattle.trace_explanation.specs.Names.{address_at, event_name, event_numbers, processor_at}

-- what the explanation is of, and for each event, in the order of the events' numbers, its name, its processor, its line and its address
pub record NamingValue : Type 0 where
  pub subject : Subject
  pub names : List (List ℕ)
  pub processors : List ℕ
  pub lines : List ℕ
  pub addresses : List ℕ

-- the noun of what the explanation is of
abbrev pub noun : Subject → List ℕ
noun Trace = codes "trace"
noun Log = codes "log"

-- the name of a number: an event, or number 0, which wrote the first values
abbrev pub name_text : NamingValue → ℕ → List ℕ
name_text naming zero = codes "the first values"
name_text naming (suc k) = get_or naming.names k []

-- the processor of event n, or 0 where there is none
abbrev pub processor_named : NamingValue → ℕ → ℕ
processor_named naming zero = 0
processor_named naming (suc k) = get_or naming.processors k 0

-- the line of event n, or 0 where there is none
abbrev pub line_named : NamingValue → ℕ → ℕ
line_named naming zero = 0
line_named naming (suc k) = get_or naming.lines k 0

-- the address of event n, or 0 where there is none
abbrev pub address_named : NamingValue → ℕ → ℕ
address_named naming zero = 0
address_named naming (suc k) = get_or naming.addresses k 0

-- ---- a trace's own

-- the name of event n of a trace
unfoldable pub own_name : TraceValue → ℕ → List ℕ
own_name t n = option_map_or (event_name n) (operation_at t n) []

-- the line of event n in the trace's text
abbrev pub line_at : TraceValue → ℕ → ℕ
line_at t n = option_map_or (λ o. o.line) (operation_at t n) 0

-- what a trace calls its events
abbrev pub naming_of : TraceValue → NamingValue
naming_of t = record {
  subject = Trace;
  names = map (own_name t) (event_numbers t);
  processors = map (processor_at t) (event_numbers t);
  lines = map (line_at t) (event_numbers t);
  addresses = map (address_at t) (event_numbers t);
}
