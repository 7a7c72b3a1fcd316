-- Files that are opened by their names, as far as they are known.
use Rattle.std.specs.Prelude.{◌≡◌, ◌⊎◌, ℕ, Bool, false, ◌≤◌, List, ◌++◌, filter_map, is_some, length, not, take, option_map, Option, Some, None, IfSome}
use Rattle.std.specs.List.{list_all}
use Rattle.std.specs.Borrow.{Bor}
use Rattle.std.specs.Io.KnownBytes.{Consumes}
use Rattle.command_line.specs.Requests.{Asked, batching, checking, counting, deciding, deciding_log, following, judging, logging, needs, reducing, replaying, verifying, verifying_log}
use Rattle.log_text.specs.LogTexts.{IsLogRefusal}
use Rattle.request_texts.specs.NthTraces.{IsRefusedNth, TakesTrace}
use Rattle.trace_judging.specs.Limits.{certificate_read_limit}
use Rattle.trace_streams.specs.Limits.{trace_read_limit}
use Rattle.text_streams.specs.Streams.{LosesPrefix}
use Rattle.tso_text.specs.Refusals.{IsRefusedProgram}
use Rattle.tso_text.specs.declared.faults.Why.{Why}

-- an opened file has the bytes that are known of its name
abbrev pub HasKnown : Option (List ℕ) → Option (List ℕ) → Type 0
HasKnown known remaining = IfSome known (λ all. remaining ≡ Some all)

-- the bytes of a text: those of the file that is named, else those of standard input
abbrev pub text_bytes : Option (List ℕ) → Option (List ℕ) → (List ℕ → Option (List ℕ)) → Option (List ℕ)
text_bytes None input files = input
text_bytes (Some name) input files = files name

-- the same of a text that was opened: those of its file, else those of standard input
abbrev pub opened_bytes : Option (Option (List ℕ)) → Option (List ℕ) → Option (List ℕ)
opened_bytes None input = input
opened_bytes (Some remaining) input = remaining

-- standard input is read
abbrev pub reads_input : Asked → Bool
reads_input asked = not (list_all is_some (needs asked).texts)

-- What is taken of standard input where it is read: of a run some of the first bytes; of traces that stand one after the other and of a log all bytes, or of the traces some of the first
-- where one alone is asked for; of another text so many that one of too many bytes is seen; or nothing of a certificate, of evidence, of a schedule or of a stream
-- of traces, where the trace, the log or the program before it was refused.
abbrev pub TakesInput : Asked → Option (List ℕ) → Option (List ℕ) → Type 0
TakesInput (batching texts workers printing) old new = IfSome old (λ all. Consumes old new all)
TakesInput (logging file options) old new = IfSome old (λ all. Consumes old new all)
TakesInput (deciding_log file effort needs_end) old new = IfSome old (λ all. Consumes old new all)
TakesInput (following file options) old new = (bytes : List ℕ) × Consumes old new bytes
TakesInput (judging presentation file workers nth) old new = TakesTrace nth old new
TakesInput (deciding presentation file workers nth effort) old new = TakesTrace nth old new
TakesInput (reducing file nth) old new = TakesTrace nth old new
TakesInput (checking None certificate nth) old new = TakesTrace nth old new
TakesInput (checking (Some trace) certificate nth) old new = (new ≡ old) ⊎ LosesPrefix certificate_read_limit old new
TakesInput (verifying None evidence nth) old new = TakesTrace nth old new
TakesInput (verifying (Some trace) evidence nth) old new = (new ≡ old) ⊎ LosesPrefix certificate_read_limit old new
TakesInput (verifying_log None evidence) old new = IfSome old (λ all. Consumes old new all)
TakesInput (verifying_log (Some log) evidence) old new = (new ≡ old) ⊎ LosesPrefix certificate_read_limit old new
TakesInput (counting (Some program) stream limit) old new = (new ≡ old) ⊎ IfSome old (λ all. Consumes old new all)
TakesInput (replaying options (Some program) schedule) old new = (new ≡ old) ⊎ LosesPrefix trace_read_limit old new
TakesInput asked old new = LosesPrefix trace_read_limit old new

-- The first of two texts is in a file that is known, and is refused: it is no trace, or has none of the number, or is no log or no program. Then the second isn't
-- read.
abbrev pub HasRefusedFirstText : Asked → (List ℕ → Option (List ℕ)) → Type 0
HasRefusedFirstText (checking (Some trace) certificate nth) files = (text : List ℕ) × (files trace ≡ Some text) × IsRefusedNth nth text
HasRefusedFirstText (verifying (Some trace) evidence nth) files = (text : List ℕ) × (files trace ≡ Some text) × IsRefusedNth nth text
HasRefusedFirstText (verifying_log (Some log) evidence) files =
    (text : List ℕ) × (files log ≡ Some text) × (line : ℕ) × (why : Why) × IsLogRefusal false text line why
HasRefusedFirstText (counting (Some program) stream limit) files = (text : List ℕ) × (files program ≡ Some text) × IsRefusedProgram text
HasRefusedFirstText (replaying options (Some program) schedule) files = (text : List ℕ) × (files program ≡ Some text) × IsRefusedProgram text
HasRefusedFirstText asked files = ⊥

-- the known names of the files opened so far grow by these
abbrev pub OpensNext : Option (List (List ℕ)) → Option (List (List ℕ)) → List (List ℕ) → Type 0
OpensNext old new names = IfSome old (λ before. new ≡ Some (before ++ names))

-- the text of the name, where there is one
abbrev pub name_in : Option (Bor (List ℕ)) → Option (List ℕ)
name_in file = option_map (λ f. f.now) file

-- the files that are named, in their order
abbrev pub files_named : Asked → List (List ℕ)
files_named asked = filter_map (λ text. text) (needs asked).texts

-- the known names of the files opened so far grow by some of the first of these
abbrev pub OpensFirst : Option (List (List ℕ)) → Option (List (List ℕ)) → List (List ℕ) → Type 0
OpensFirst old new names = (n : ℕ) × (n ≤ length names) × OpensNext old new (take n names)
