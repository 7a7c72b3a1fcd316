-- Lemmas on what was read of a log and of evidence, and on the report on it.
use Rattle.std.proofs.Common.{◌≡◌, ◌<◌, ◌≤◌, ◌∙◌, ◌^◌, ℕ, false, List, length, take, None, Some, Ok, Err, IfSome, IfOk, sym, subst, arith, inl, inr, ⊎_elim}
use Rattle.std.specs.Prelude.{Option, Result}
use Rattle.std.specs.Io.KnownBytes.{Consumes}
use Rattle.std.proofs.lemmas.Bool.{cases_lt}
use Rattle.std.proofs.lemmas.List.{length-take-le, take_all}
use Rattle.tso_model.specs.Axioms.{IsConsistent}
use Rattle.tso_text.specs.declared.faults.Why.{Why}
use Rattle.text_streams.specs.declared.faults.Fault.{Fault}
use Rattle.text_streams.proofs.ReadingFacts.{reads_any, reads_as, reads_more, reads_whole}
use Rattle.log_text.specs.LogTexts.{IsLogRefusal, SpellsLog}
use Rattle.log_text.specs.LogValues.{NumberedLog, log_operations}
use Rattle.log_thinning.specs.IdleSwaps.{with_idle_swaps_read}
use Rattle.value_texts.specs.declared.names.EventName.{EventName}
use Rattle.value_texts.specs.Names.{event_names}
use Rattle.value_texts.specs.Printed.{LogEvidenceValue}
use Rattle.value_texts.specs.Spelling.{SpellsLogEvidence}
use Rattle.trace_judging.specs.Limits.{certificate_byte_limit, certificate_read_limit}
use Rattle.trace_reports.specs.declared.answers.Answer.{Answer}
use Rattle.trace_reports.specs.declared.answers.Answer.TheVariants.{Clear, Violation, Refused}
use Rattle.trace_reports.specs.Reports.{rendered_refusal}
use Rattle.log_evidence.specs.LogChecks.{IsLogCheckOfReader, IsLogCheckOfReaders, IsRefusedLog, IsValueLine, IsValueReport}
use Rattle.log_evidence.proofs.CheckFacts.{check_consistent, check_violation, never_refused, ordered_consistent, refuted_no_order}

-- ---- what is read

-- fewer first elements than were asked for are all
all_taken : (n : ℕ) (all : List ℕ) → length (take n all) < n → take n all ≡ all
all_taken n all fewer =
    ⊎_elim
    (λ (more : n < length all). let count = length-take-le n all (omega (arith, more)) in absurd (omega (arith, count, fewer)))
    (λ (fits : length all ≤ n). take_all n all fits)
    (cases_lt n (length all))

-- what was read without passing a limit that no list in memory passes is all there was
pub all_read : (old : Option (List ℕ)) (bytes : List ℕ) → IfSome old (λ all. bytes ≡ take (2 ^ 64) all) → length bytes < 2 ^ 64 → IfSome old (λ all. bytes ≡ all)
all_read None bytes is fewer = tt
all_read (Some all) bytes is fewer = is ∙ all_taken (2 ^ 64) all (subst (λ (l : List ℕ). length l < 2 ^ 64) is fewer)

-- and all of it was taken
pub all_consumed : (old new : Option (List ℕ)) (bytes : List ℕ) → IfSome old (λ all. bytes ≡ all) → Consumes old new bytes → IfSome old (λ all. Consumes old new all)
all_consumed None new bytes is taken = tt
all_consumed (Some all) new bytes is taken = subst (Consumes (Some all) new) is taken

pub on_ok : {X : Type 0} (outcome : Result X Fault) {P : Type 0} → P → IfOk outcome (λ _. P)
on_ok (Ok x) holds = holds
on_ok (Err fault) holds = tt

-- ---- what is said

-- what spells a log isn't refused
pub not_refused_log : (X : Type 0) (text : List ℕ) (log : NumberedLog) → SpellsLog text log → IsRefusedLog text → X
not_refused_log X text log spells refused = absurd (never_refused text log refused.0 refused.1 spells refused.2)

-- the report about a log, with its idle swaps read, on evidence that was read by the names of its events
pub report_of_values : (log read : NumberedLog) (names seen : List EventName) (input told : List ℕ) (e : LogEvidenceValue) (answer : Answer) → read ≡ log → names ≡ event_names read → seen ≡ names →
    SpellsLogEvidence seen input e → IsValueLine (log_operations read) seen e told answer → IsValueReport log input told answer
report_of_values log read names seen input told e answer is named same spells line =
    let all : seen ≡ event_names read = same ∙ named in
    subst (λ (l : NumberedLog). IsValueReport l input told answer) is
    (inl (e, subst (λ (some : List EventName). SpellsLogEvidence some input e) all spells, subst (λ (some : List EventName). IsValueLine (log_operations read) some e told answer) all line))

-- the report about a log on the evidence that a reader has, by what was read of it
pub check_of_spelled : (text : List ℕ) (log : NumberedLog) → SpellsLog text log → (remaining : Option (List ℕ)) (bytes seen told : List ℕ) (answer : Answer) →
    IfSome remaining (λ all. bytes ≡ take certificate_read_limit all) → seen ≡ bytes → length bytes ≤ certificate_byte_limit → IsValueReport (with_idle_swaps_read log) seen told answer →
    IsLogCheckOfReader remaining text told answer
check_of_spelled text log spells remaining bytes seen told answer prefix same few report =
    let Is : List ℕ → Type 0 = λ input. (length input ≤ certificate_byte_limit) × IsValueReport (with_idle_swaps_read log) input told answer in
    reads_more (λ input is. inl (log, spells, is.0, is.1)) remaining
    (reads_as Is certificate_read_limit (λ all is. subst Is (all_taken certificate_read_limit all (let short = is.0 in omega (arith, short))) is) remaining bytes seen prefix same (subst (λ (b : List ℕ). length b ≤ certificate_byte_limit) (sym same) few, report))

-- that of a refusal, whatever the evidence is
pub check_of_refused : (text told : List ℕ) (answer : Answer) (line : ℕ) (why : Why) → IsLogRefusal false text line why → told ≡ rendered_refusal text line why → answer ≡ Refused → (remaining : Option (List ℕ)) →
    IsLogCheckOfReader remaining text told answer
check_of_refused text told answer line why refused says gives remaining = reads_any (λ input. inr (line, why, refused, says, gives)) remaining

-- the report on all that was read of a log is that on the reader's bytes
pub check_of_readers : (logs evidence : Option (List ℕ)) (bytes seen told : List ℕ) (answer : Answer) → IfSome logs (λ all. bytes ≡ all) → seen ≡ bytes → IsLogCheckOfReader evidence seen told answer →
    IsLogCheckOfReaders logs evidence told answer
check_of_readers logs evidence bytes seen told answer all same is =
    reads_whole (λ log. IsLogCheckOfReader evidence log told answer) logs bytes all (subst (λ log. IsLogCheckOfReader evidence log told answer) same is)

-- a text that is refused is what was read
pub refused_by_read : {P : Type 0} (logs : Option (List ℕ)) (bytes seen : List ℕ) → IfSome logs (λ all. bytes ≡ all) → seen ≡ bytes → (IsRefusedLog seen → P) → IfSome logs (λ all. IsRefusedLog all → P)
refused_by_read None bytes seen all same holds = tt
refused_by_read (Some whole) bytes seen all same holds = λ refused. holds (subst IsRefusedLog (sym (same ∙ all)) refused)

-- a log on which the answer is Clear has an order
pub reader_order : (logs evidence : Option (List ℕ)) (told : List ℕ) (answer : Answer) → IsLogCheckOfReaders logs evidence told answer → answer ≡ Clear →
    IfSome logs (λ all. (log : NumberedLog) → SpellsLog all log → IsConsistent (log_operations log))
reader_order None evidence told answer is gives = tt
reader_order (Some all) evidence told answer is gives = ordered_consistent all is.of_all.bytes ((check_consistent all is.of_all.bytes told answer is.of_all.of_read).0 gives)

-- one on which it is Violation has none
pub reader_no_order : (logs evidence : Option (List ℕ)) (told : List ℕ) (answer : Answer) → IsLogCheckOfReaders logs evidence told answer → answer ≡ Violation →
    IfSome logs (λ all. (log : NumberedLog) → SpellsLog all log → IsConsistent (log_operations log) → ⊥)
reader_no_order None evidence told answer is gives = tt
reader_no_order (Some all) evidence told answer is gives = refuted_no_order all is.of_all.bytes ((check_violation all is.of_all.bytes told answer is.of_all.of_read).0 gives)
