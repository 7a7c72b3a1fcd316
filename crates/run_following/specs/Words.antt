-- The report on a run, in words.
use Rattle.std.specs.Prelude.{ℕ, ◌+◌, ◌==◌, Bool, List, [], ◌∷◌, ◌++◌, codes, string_bytes, if◌then◌else◌}
use Rattle.std.specs.List.{flat_map}
use Rattle.std.specs.Fmt.{decimal}
use Rattle.run_following.specs.declared.counts.RunCounts.{RunCounts}
use Rattle.run_following.specs.declared.facts.Fact.{Fact}
use Rattle.run_following.specs.declared.facts.Fact.TheVariants.{Has, First, Store}
use Rattle.run_following.specs.declared.facts.NamedLine.{NamedLine}
use Rattle.run_following.specs.declared.facts.RefusalKind.{RefusalKind}
use Rattle.run_following.specs.declared.facts.RefusalKind.TheVariants as kind
use Rattle.run_following.specs.declared.facts.Standing.{Standing}
use Rattle.run_following.specs.declared.facts.Standing.TheVariants as standing
use Rattle.run_following.specs.declared.facts.ToldRefusal.{ToldRefusal}
use Rattle.run_following.specs.declared.found.RunFound.{RunFound}
use Rattle.run_following.specs.Sentences.{sentence_words}
use Rattle.tso_text.specs.declared.faults.Why.{Why}
use Rattle.trace_reports.specs.RefusalLines.{refusal_text}

-- ---- refusals

abbrev pub kind_word : RefusalKind → List ℕ
kind_word kind.Value = codes "Value"
kind_word kind.Waiting = codes "Waiting"
kind_word kind.Order = codes "Order"
kind_word kind.NothingWaits = codes "NothingWaits"
kind_word kind.Reservation = codes "Reservation"
kind_word kind.NoReservation = codes "NoReservation"

-- a line of the text, as it stands there, after its number
abbrev pub line_words : NamedLine → List ℕ
line_words line = codes "line " ++ decimal line.number ++ codes " " ++ string_bytes line.text ++ codes "\n"

abbrev pub standing_words : NamedLine → Standing → List ℕ
standing_words line standing.Named = line_words line
standing_words line standing.Waiting = line_words line ++ codes "waiting\n"
standing_words line (standing.Reached n) = line_words line ++ codes "reached " ++ decimal n ++ codes "\n"
standing_words line standing.Before = codes "after\n" ++ line_words line

abbrev pub fact_words : Fact → List ℕ
fact_words (Has v) = codes "has " ++ decimal v ++ codes "\n"
fact_words First = codes "first\n"
fact_words (Store line at) = standing_words line at

-- the line that is refused, and the facts that show it
abbrev pub told_words : ToldRefusal → List ℕ
told_words t = line_words t.line ++ flat_map fact_words t.facts.items

-- the sentence that explains it, where sentences are asked for
abbrev pub explanation_words : Bool → ToldRefusal → List ℕ
explanation_words explained t = if explained then sentence_words t ++ codes "\n" else []

-- refusals, each after a line with its number, from this number on, and its kind
abbrev pub refusals_words : Bool → ℕ → List ToldRefusal → List ℕ
refusals_words explained number [] = []
refusals_words explained number (t ∷ told) =
    (codes "refusal " ++ decimal number ++ codes " " ++ kind_word t.kind ++ codes "\n" ++ told_words t ++ explanation_words explained t)
    ++ refusals_words explained (number + 1) told

-- ---- the report

-- a number after a word
abbrev pub number_words : List ℕ → ℕ → List ℕ
number_words word number = word ++ decimal number

-- how many operations there are
abbrev pub operations_words : RunCounts → List ℕ
operations_words counts =
    number_words (codes "processors ") counts.processors ++ number_words (codes " operations ") counts.operations ++ number_words (codes " loads ") counts.loads

-- how many stores and swaps there are, and of what nothing is known
abbrev pub others_words : RunCounts → ℕ → List ℕ
others_words counts waiting =
    number_words (codes " stores ") counts.stores ++ number_words (codes " swaps ") counts.swaps ++ number_words (codes " unknown ") counts.unknown
    ++ number_words (codes " waiting ") waiting ++ codes "\n"

abbrev pub counts_words : RunCounts → ℕ → List ℕ
counts_words counts waiting = codes "TSO RUN 1\n" ++ operations_words counts ++ others_words counts waiting

-- what is said of a run that holds, where values were compared or none was
abbrev pub holds_words : Bool → List ℕ
holds_words compared = if compared then codes "RUN HOLDS\n" else codes "RUN HOLDS\nNOTHING COMPARED\n"

abbrev pub run_verdict_words : Bool → RunFound → List ℕ
run_verdict_words explained found =
    if found.refusals == 0 then holds_words found.is_compared
    else codes "RUN REFUSED\n" ++ refusals_words explained 1 found.told.items ++ codes "refusals " ++ decimal found.refusals ++ codes "\n"

-- the report on a run, where each refusal is explained or none is
abbrev pub run_words : Bool → RunFound → List ℕ
run_words explained found = counts_words found.counts found.waiting ++ run_verdict_words explained found

-- a text that is refused
abbrev pub refused_words : ℕ → Why → List ℕ
refused_words line why = codes "TSO RUN 1\n" ++ refusal_text line why
