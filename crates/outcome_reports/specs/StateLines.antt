-- The lines of final states: which value each load read, and the last values of memory.
use Rattle.std.specs.Prelude.{ℕ, suc, List, [], ◌∷◌, ◌++◌, codes, length, map}
use Rattle.std.specs.Fmt.{decimal}
use Rattle.std.specs.List.{filter_map, flat_map}
use Rattle.tso_ops.specs.declared.ops.Outcome.{Outcome}
use Rattle.tso_ops.specs.Values.{TraceValue}
use Rattle.final_states.specs.FinalStates.{FinalStateValue, value_read}

-- `PROCESSOR:NUMBER=VALUE;`: what the load of this number read, from 0, of the loads and swaps of its processor
abbrev pub read_part : ℕ → ℕ → ℕ → List ℕ
read_part p number value = decimal p ++ codes ":" ++ decimal number ++ codes "=" ++ decimal value ++ codes ";"

-- the parts of the values that processor p read, the first of which has this number
abbrev pub value_parts : ℕ → ℕ → List ℕ → List (List ℕ)
value_parts p number [] = []
value_parts p number (value ∷ values) = read_part p number value ∷ value_parts p (suc number) values

-- the parts of what processors read, of which p is the first
abbrev pub parts_of_reads : ℕ → List (List Outcome) → List (List ℕ)
parts_of_reads p [] = []
parts_of_reads p (outcomes ∷ lists) = value_parts p 0 (filter_map value_read outcomes) ++ parts_of_reads (suc p) lists

-- `[ADDRESS]=VALUE;`
abbrev pub last_part : ℕ × ℕ → List ℕ
last_part entry = codes "[" ++ decimal entry.0 ++ codes "]=" ++ decimal entry.1 ++ codes ";"

-- the parts, with a space between each two
abbrev pub with_spaces : List (List ℕ) → List ℕ
with_spaces [] = []
with_spaces (part ∷ []) = part
with_spaces (part ∷ parts) = part ++ 32 ∷ with_spaces parts

-- the line of what was read
abbrev pub reads_line : TraceValue → List ℕ
reads_line t = with_spaces (parts_of_reads 0 t.lists) ++ 10 ∷ []

-- the line of a final state
abbrev pub state_line : FinalStateValue → List ℕ
state_line state = with_spaces (parts_of_reads 0 state.trace.lists ++ map last_part state.last) ++ 10 ∷ []

-- how many there are, and the line of each
abbrev pub states_text : List FinalStateValue → List ℕ
states_text states = codes "States " ++ decimal (length states) ++ 10 ∷ flat_map state_line states
