-- The text of an explanation: what follows the verdict on a trace.
use Rattle.std.specs.Prelude.{ℕ, ◌-◌, ◌==◌, nat_lt, List, [], ◌∷◌, ◌++◌, length, take, reverse, Option, None, Some, cond, codes}
use Rattle.std.specs.Option.{option_map_or}
use Rattle.std.specs.List.{enumerate_from, filter, find, flat_map}
use Rattle.std.specs.Fmt.{decimal}
use Rattle.tso_ops.specs.declared.events.Event.{Event}
use Rattle.tso_ops.specs.declared.settings.Order.{Order}
use Rattle.tso_ops.specs.declared.settings.Order.TheVariants.{Tso, Pso}
use Rattle.tso_ops.specs.Settings.{first_value}
use Rattle.tso_ops.specs.Values.{TraceValue}
use Rattle.tso_ops.specs.Events.{event_at}
use Rattle.tso_cert.specs.declared.steps.CertStep.{CertStep}
use Rattle.tso_cert.specs.declared.steps.Certificate.{Certificate}
use Rattle.tso_cert.specs.declared.steps.Certificate.TheVariants.{Unwritten, Cycle}
use Rattle.trace_explanation.specs.Diagnoses.{diagnosis_text}
use Rattle.trace_explanation.specs.JoinedTexts.{joined}
use Rattle.trace_explanation.specs.declared.subjects.Subject.{Subject}
use Rattle.trace_explanation.specs.Names.{event_numbers, is_store_where}
use Rattle.trace_explanation.specs.Namings.{address_named, line_named, name_text, naming_of, noun, NamingValue}
use Rattle.trace_explanation.specs.Places.{place_text}
use Rattle.trace_explanation.specs.Steps.{is_edge, is_named, links_of, step_number, step_numbers}
use Rattle.trace_explanation.specs.Words.{reason_short, reason_long}

-- the name of the memory model
abbrev pub model_name : Order → List ℕ
model_name Tso = codes "TSO"
model_name Pso = codes "PSO"

-- what follows a model's name: that it asks for an order, and what loads read by it
abbrev pub order_sentences : List ℕ
order_sentences =
    codes " asks for one order of all loads and stores, the memory order.\nA load sees the stores to its address that come before it in that order or earlier on its own processor.\nIt reads the last of these in that order, or the first value of its address where there is none.\n"

-- ---- no violation

unfoldable pub silence_text : Order → Subject → List ℕ
silence_text order subject = joined (
    codes "\nThe rules found no contradiction in this " ∷ noun subject ∷ codes ".\nThat does not show that it has a memory order that " ∷ model_name order ∷ codes " allows.\n" ∷ [])

-- ---- a cycle

-- what the memory model asks for, and that there is no such order
unfoldable pub cycle_head : Order → Subject → List ℕ
cycle_head order subject = joined (
    codes "\n" ∷ model_name order ∷ order_sentences ∷ codes "No memory order explains this " ∷ noun subject ∷ codes ": it would have to put each of these before the next, and the last is the first again.\n\n" ∷ [])

-- the line of an edge of the cycle: the number that it leads to, and the least step that has it
unfoldable pub link_text : NamingValue → TraceValue → List CertStep → ℕ × ℕ → List ℕ
link_text naming t steps link = joined (
    codes "    before " ∷ name_text naming link.1 ∷ codes ": " ∷ option_map_or (λ s. reason_short naming t s.from s.to s.reason) (find (is_edge link) steps) [] ∷ codes " (step " ∷ decimal (step_number steps link) ∷ codes ")\n" ∷ [])

-- the cycle as a chain: its first number, and the line of each edge, of which the last leads back to the first number
unfoldable pub chain_text : NamingValue → TraceValue → List CertStep → List ℕ → List ℕ
chain_text naming t steps [] = []
chain_text naming t steps (x ∷ rest) = (codes "  " ++ name_text naming x ++ codes "\n") ++ flat_map (link_text naming t steps) (links_of (x ∷ rest))

-- why the step of this number holds, in full
unfoldable pub step_text : NamingValue → TraceValue → List CertStep → ℕ → CertStep → List ℕ
step_text naming t steps number s = joined (
    decimal number ∷ codes ". " ∷ name_text naming s.from ∷ codes " before " ∷ name_text naming s.to ∷ codes ": " ∷ reason_long naming t steps s.from s.to s.reason ∷ codes "\n" ∷ [])

-- what the lines of the events that the steps name follow
abbrev pub places_head : Subject → List ℕ
places_head subject = joined (codes "\nThe events named above, by their lines in the " ∷ noun subject ∷ codes ":\n\n" ∷ [])

unfoldable pub cycle_text : NamingValue → TraceValue → List CertStep → List ℕ → List ℕ
cycle_text naming t steps cycle =
    diagnosis_text naming t steps cycle ++ cycle_head t.setting.order naming.subject ++ chain_text naming t steps cycle
    ++ codes "\nWhy each step holds, the last step first. A step rests only on steps of smaller numbers.\n\n" ++ flat_map (λ numbered. step_text naming t steps numbered.0 numbered.1) (reverse (enumerate_from 1 steps))
    ++ places_head naming.subject ++ flat_map (place_text naming t) (filter (is_named (step_numbers t) steps) (event_numbers t))

-- ---- an unwritten load

-- the stores to the address
abbrev pub store_numbers : TraceValue → ℕ → List ℕ
store_numbers t a = filter (is_store_where t (λ e. e.a == a)) (event_numbers t)

-- where the value was stored instead: by store m
abbrev pub elsewhere_text : NamingValue → TraceValue → ℕ → ℕ → List ℕ
elsewhere_text naming t value m =
    joined (codes "The value " ∷ decimal value ∷ codes " was stored to address " ∷ decimal (address_named naming m) ∷ codes " instead:\n\n" ∷ []) ++ place_text naming t m ++ codes "\n"

-- how many more than 16 there are
abbrev pub more_text : ℕ → List ℕ
more_text count = cond (nat_lt 16 count) (codes "  and " ++ decimal (count - 16) ++ codes " more\n") []

-- the stores to the address, of which the first 16 are named
unfoldable pub stores_text : NamingValue → TraceValue → ℕ → List ℕ → List ℕ
stores_text naming t a [] = codes "No operation stores to address " ++ decimal a ++ codes ".\n"
stores_text naming t a (m ∷ others) =
    joined (codes "The stores to address " ∷ decimal a ∷ codes ", " ∷ decimal (length (m ∷ others)) ∷ codes " in all:\n\n" ∷ []) ++ flat_map (place_text naming t) (take 16 (m ∷ others)) ++ more_text (length (m ∷ others))

-- what load n read
unfoldable pub unwritten_load_text : NamingValue → TraceValue → ℕ → Event → List ℕ
unwritten_load_text naming t n e = joined (
    codes "\nA load read a value that nothing wrote to its address:\n\n  line " ∷ decimal (line_named naming n) ∷ codes ": " ∷ name_text naming n ∷ codes " read " ∷ decimal e.value ∷ codes "\n\nThe first value of address " ∷ decimal (address_named naming n) ∷ codes " is " ∷ decimal (first_value t.setting.first e.a) ∷ codes ".\n" ∷ [])

-- the explanation of load n, by its event
abbrev pub unwritten_by : NamingValue → TraceValue → ℕ → Event → List ℕ
unwritten_by naming t n e =
    unwritten_load_text naming t n e ++ option_map_or (elsewhere_text naming t e.value) (find (is_store_where t (λ s. s.value == e.value)) (event_numbers t)) [] ++ stores_text naming t (address_named naming n) (store_numbers t e.a)

-- ---- the explanation

-- the explanation by the certificate, or of a trace that has none, with this naming of the trace's events
abbrev pub explanation_by : NamingValue → TraceValue → Option Certificate → List ℕ
explanation_by naming t None = silence_text t.setting.order naming.subject
explanation_by naming t (Some (Unwritten n)) = option_map_or (unwritten_by naming t n) (event_at t n) []
explanation_by naming t (Some (Cycle steps cycle)) = cycle_text naming t steps cycle

-- the explanation with the trace's own naming
abbrev pub explanation_text : TraceValue → Option Certificate → List ℕ
explanation_text t certificate = explanation_by (naming_of t) t certificate
