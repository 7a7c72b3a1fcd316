-- Names of events: the lines of a log.
use Rattle.std.specs.Prelude.{◌≡◌, ℕ, ◌-◌, ◌<◌, ◌≤◌, ◌^◌, ◌&&◌, not, Bool, true, false, List, [], ◌∷◌, ◌++◌, length, get_or, All, codes, if◌then◌else◌}
use Rattle.std.specs.List.{flat_map}
use Rattle.std.specs.Fmt.{decimal}
use Rattle.tso_ops.specs.declared.events.Event.{Event}
use Rattle.log_text.specs.declared.logs.LogOperation.{LogOperation}
use Rattle.log_text.specs.declared.logs.LogOperation.TheVariants.{Ld, St, Sw, Mb, Sb}
use Rattle.log_text.specs.declared.logs.LoggedOperation.{LoggedOperation}
use Rattle.log_text.specs.LogValues.{NumberedLog}
use Rattle.value_texts.specs.declared.names.EventName.{EventName}

-- the names of the events that an operation on this line gives: a swap gives its load and then its store, a barrier none
abbrev pub names_on : ℕ → LogOperation → List EventName
names_on line (Ld a r) = record { line = line; is_swap_store = false } ∷ []
names_on line (St a v) = record { line = line; is_swap_store = false } ∷ []
names_on line (Sw a r v) = record { line = line; is_swap_store = false } ∷ record { line = line; is_swap_store = true } ∷ []
names_on line Mb = []
names_on line Sb = []

abbrev pub names_in : LoggedOperation → List EventName
names_in logged = names_on logged.line logged.operation

-- the names of a log's events, in the order of their numbers: processor after processor, in program order
abbrev pub event_names : NumberedLog → List EventName
event_names log = flat_map (flat_map names_in) log.lists

-- the event is the store of a swap
abbrev pub is_store_of_swap : Event → Bool
is_store_of_swap e = e.swap && not e.load

-- ---- names as texts

-- `N`, or `N'` of the store of a swap
abbrev pub event_name_text : EventName → List ℕ
event_name_text name = decimal name.line ++ (if name.is_swap_store then codes "'" else [])

-- the name of the event of this number, from 1
abbrev pub name_of_event : List EventName → ℕ → EventName
name_of_event names n = get_or names (n - 1) (record { line = 0; is_swap_store = false })

-- there is an event of this number
abbrev pub IsNumbered : List EventName → ℕ → Type 0
IsNumbered names n = (0 < n) × (n ≤ length names)

-- no two events have one name
abbrev pub AreNamesDistinct : List EventName → Type 0
AreNamesDistinct names = (m n : ℕ) → IsNumbered names m → IsNumbered names n → name_of_event names m ≡ name_of_event names n → m ≡ n

-- 64 bits hold the number of each line
abbrev pub NamesFit : List EventName → Type 0
NamesFit names = All (λ name. name.line < 2 ^ 64) names
