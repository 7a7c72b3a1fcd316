-- The sentence that explains why a line of a run is no step of the machine.
use Rattle.std.specs.Prelude.{ℕ, List, ◌++◌, codes}
use Rattle.std.specs.List.{flat_map}
use Rattle.std.specs.Fmt.{decimal}
use Rattle.run_following.specs.declared.facts.Fact.{Fact}
use Rattle.run_following.specs.declared.facts.Fact.TheVariants.{Has, First, Store}
use Rattle.run_following.specs.declared.facts.NamedLine.{NamedLine}
use Rattle.run_following.specs.declared.facts.RefusalKind.{RefusalKind}
use Rattle.run_following.specs.declared.facts.RefusalKind.TheVariants as kind
use Rattle.run_following.specs.declared.facts.Standing.{Standing}
use Rattle.run_following.specs.declared.facts.Standing.TheVariants as standing
use Rattle.run_following.specs.declared.facts.ToldRefusal.{ToldRefusal}

-- what is said of the line of this number
abbrev pub reason_words : ℕ → RefusalKind → List ℕ
reason_words n kind.Value = codes "At line " ++ decimal n ++ codes " the machine has"
reason_words n kind.Waiting = codes "Line " ++ decimal n ++ codes " comes too early: memory must have, before it,"
reason_words n kind.Order = codes "At line " ++ decimal n ++ codes " a store passes one that it must not pass:"
reason_words n kind.NothingWaits = codes "At line " ++ decimal n ++ codes " no such store of its processor waits"
reason_words n kind.Reservation = codes "Line " ++ decimal n ++ codes " stores on a reservation that its processor has lost"
reason_words n kind.NoReservation = codes "Line " ++ decimal n ++ codes " stores on a reservation, and its processor has none of this place"

-- what is said of a store
abbrev pub store_phrase : NamedLine → Standing → List ℕ
store_phrase line standing.Named = codes " the store of line " ++ decimal line.number
store_phrase line standing.Waiting = codes "; the store of line " ++ decimal line.number ++ codes " waits"
store_phrase line (standing.Reached n) = codes "; the store of line " ++ decimal line.number ++ codes " reached memory at line " ++ decimal n
store_phrase line standing.Before = codes " must reach memory after that of line " ++ decimal line.number

abbrev pub fact_phrase : Fact → List ℕ
fact_phrase (Has v) = codes " " ++ decimal v ++ codes ", where the line says another value"
fact_phrase First = codes "; a first value is still there"
fact_phrase (Store line at) = store_phrase line at

-- the sentence, which names the line and those that show why it is no step
abbrev pub sentence_words : ToldRefusal → List ℕ
sentence_words t = reason_words t.line.number t.kind ++ flat_map fact_phrase t.facts.items ++ codes "."
