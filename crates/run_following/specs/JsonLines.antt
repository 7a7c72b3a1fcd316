-- The report on a run, in one line of JSON.
use Rattle.std.specs.Prelude.{ℕ, ◌+◌, ◌==◌, Bool, List, [], ◌∷◌, ◌++◌, codes, nat_lt, string_bytes, if◌then◌else◌}
use Rattle.std.specs.Fmt.{decimal}
use Rattle.json_texts.specs.Characters.{json_text}
use Rattle.tso_text.specs.declared.faults.Why.{Why}
use Rattle.tso_text.specs.RefusalNames.{refusal_name}
use Rattle.run_following.specs.declared.counts.RunCounts.{RunCounts}
use Rattle.run_following.specs.declared.facts.Fact.{Fact}
use Rattle.run_following.specs.declared.facts.Fact.TheVariants.{Has, First, Store}
use Rattle.run_following.specs.declared.facts.NamedLine.{NamedLine}
use Rattle.run_following.specs.declared.facts.RefusalKind.{RefusalKind}
use Rattle.run_following.specs.declared.facts.RefusalKind.TheVariants as kind
use Rattle.run_following.specs.declared.facts.Standing.{Standing}
use Rattle.run_following.specs.declared.facts.Standing.TheVariants as standing
use Rattle.run_following.specs.declared.facts.ToldRefusal.{ToldRefusal}
use Rattle.run_following.specs.declared.found.RunFound.{RunFound}
use Rattle.run_following.specs.Sentences.{sentence_words}
use Rattle.run_following.specs.Words.{kind_word, number_words}

-- ---- refusals

-- a line of the text, within an object
abbrev pub line_members : NamedLine → List ℕ
line_members line = codes "\"line\":" ++ decimal line.number ++ codes ",\"text\":\"" ++ json_text (string_bytes line.text) ++ codes "\""

-- The facts of a refusal are a value and its origins, or a store and what it must not pass: a comma stands before each origin but the first, which is fact 1.
abbrev pub separator : ℕ → List ℕ
separator k = if nat_lt 1 k then codes "," else []

-- a store, as the fact of this place among those of its refusal, from 0
abbrev pub store_object : ℕ → NamedLine → Standing → List ℕ
store_object k line standing.Named = codes "{" ++ line_members line ++ codes "}"
store_object k line standing.Waiting = separator k ++ codes "{" ++ line_members line ++ codes ",\"waiting\":true}"
store_object k line (standing.Reached n) = separator k ++ codes "{" ++ line_members line ++ codes ",\"reached\":" ++ decimal n ++ codes "}"
store_object k line standing.Before = codes ",\"after\":{" ++ line_members line ++ codes "}"

abbrev pub fact_members : ℕ → Fact → List ℕ
fact_members k (Has v) = codes "\"has\":" ++ decimal v ++ codes ",\"origins\":["
fact_members k First = separator k ++ codes "{\"first\":true}"
fact_members k (Store line at) = store_object k line at

-- those from this place on
abbrev pub facts_members : ℕ → List Fact → List ℕ
facts_members k [] = []
facts_members k (fact ∷ facts) = fact_members k fact ++ facts_members (k + 1) facts

-- what stands before the facts, and after them
abbrev pub before_facts : RefusalKind → List ℕ
before_facts kind.Value = codes ","
before_facts kind.Waiting = codes ",\"store\":"
before_facts kind.Order = codes ",\"store\":"
before_facts kind.NothingWaits = []
before_facts kind.Reservation = codes ",\"store\":"
before_facts kind.NoReservation = []

abbrev pub after_facts : RefusalKind → List ℕ
after_facts kind.Value = codes "]"
after_facts kind.Waiting = []
after_facts kind.Order = []
after_facts kind.NothingWaits = []
after_facts kind.Reservation = []
after_facts kind.NoReservation = []

-- the sentence that explains it, where sentences are asked for
abbrev pub explanation_member : Bool → ToldRefusal → List ℕ
explanation_member explained t = if explained then codes ",\"explanation\":\"" ++ sentence_words t ++ codes "\"" else []

-- a line that is no step, and the facts that show it
abbrev pub told_members : Bool → ToldRefusal → List ℕ
told_members explained t =
    line_members t.line ++ (before_facts t.kind ++ facts_members 0 t.facts.items ++ after_facts t.kind) ++ explanation_member explained t

abbrev pub kind_member : RefusalKind → List ℕ
kind_member refused = codes ",\"kind\":\"" ++ kind_word refused ++ codes "\","

-- the beginning of the object of the refusal of this number
unfoldable pub refusal_opening : ℕ → RefusalKind → List ℕ
refusal_opening number refused = separator number ++ number_words (codes "{\"refusal\":") number ++ kind_member refused

unfoldable pub refusal_object : Bool → ℕ → ToldRefusal → List ℕ
refusal_object explained number t = refusal_opening number t.kind ++ told_members explained t ++ codes "}"

-- those of refusals from this number on
abbrev pub refusals_objects : Bool → ℕ → List ToldRefusal → List ℕ
refusals_objects explained number [] = []
refusals_objects explained number (t ∷ told) = refusal_object explained number t ++ refusals_objects explained (number + 1) told

-- ---- the report

-- how many operations there are
abbrev pub operations_members : RunCounts → List ℕ
operations_members counts =
    number_words (codes ",\"processors\":") counts.processors ++ number_words (codes ",\"operations\":") counts.operations
    ++ number_words (codes ",\"loads\":") counts.loads

-- how many stores and swaps there are, and of what nothing is known
abbrev pub others_members : RunCounts → ℕ → List ℕ
others_members counts waiting =
    number_words (codes ",\"stores\":") counts.stores ++ number_words (codes ",\"swaps\":") counts.swaps ++ number_words (codes ",\"unknown\":") counts.unknown
    ++ number_words (codes ",\"waiting\":") waiting

-- whether all lines are steps, and whether a value was compared
abbrev pub verdict_members : ℕ → Bool → List ℕ
verdict_members refusals compared =
    (if refusals == 0 then codes ",\"verdict\":\"RUN HOLDS\"" else codes ",\"verdict\":\"RUN REFUSED\"")
    ++ (if compared then codes ",\"compared\":true" else codes ",\"compared\":false")

-- how many operations of each kind there are, and the verdict
unfoldable pub counted_members : RunFound → List ℕ
counted_members found = operations_members found.counts ++ others_members found.counts found.waiting ++ verdict_members found.refusals found.is_compared

-- what stands after the refusals that are shown
unfoldable pub refusals_ending : ℕ → List ℕ
refusals_ending refusals = codes "],\"refusals\":" ++ decimal refusals ++ codes "}\n"

-- the refusals that are shown, and how many there are
unfoldable pub shown_members : Bool → RunFound → List ℕ
shown_members explained found =
    codes ",\"shown\":[" ++ refusals_objects explained 1 found.told.items ++ refusals_ending found.refusals

-- the report on a run, where each refusal is explained or none is
abbrev pub run_json : Bool → RunFound → List ℕ
run_json explained found = codes "{\"report\":\"TSO RUN 1\"" ++ counted_members found ++ shown_members explained found

-- a text that is refused
abbrev pub refused_json : ℕ → Why → List ℕ
refused_json line why = codes "{\"report\":\"TSO RUN 1\",\"refused\":\"" ++ refusal_name why ++ codes "\",\"line\":" ++ decimal line ++ codes "}\n"
