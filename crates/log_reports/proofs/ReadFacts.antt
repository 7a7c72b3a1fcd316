-- Lemmas on what is read of a log, and what is said of it.
use Rattle.std.proofs.Common.{◌≡◌, ◌<◌, ◌≤◌, ◌∙◌, ℕ, ◌^◌, List, Err, None, Ok, Some, IfSome, arith, inl, inr, length, subst, take, string_bytes, ⊎_elim}
use Rattle.std.specs.Prelude.{IfOk, Option, Result}
use Rattle.std.specs.Io.KnownBytes.{Consumes}
use Rattle.std.proofs.lemmas.Bool.{cases_lt}
use Rattle.std.proofs.lemmas.List.{length-take-le, take_all}
use Rattle.tso_model.specs.Axioms.{IsConsistent}
use Rattle.tso_ops.specs.Events.{IsUnwritten}
use Rattle.tso_text.specs.declared.faults.Why.{Why}
use Rattle.text_streams.specs.declared.faults.Fault.{Fault}
use Rattle.text_streams.specs.Readings.{ReadsAs}
use Rattle.log_text.specs.LogTexts.{IsEndedAsNeeded, IsLogRefusal, SpellsLog}
use Rattle.log_text.specs.LogValues.{NumberedLog, log_operations}
use Rattle.log_text.specs.Tags.{AreTagsOf}
use Rattle.log_text.specs.declared.tags.LineTags.{LineTags}
use Rattle.request_options.specs.declared.logs.LogOptions.{LogOptions}
use Rattle.log_reports.specs.declared.reports.LogReport.{LogReport}
use Rattle.trace_reports.specs.declared.answers.Answer.{Answer}
use Rattle.trace_reports.specs.declared.answers.Answer.TheVariants.{Clear, Refused, Violation}
use Rattle.trace_reports.specs.Renderings.{RendersRefusal}
use Rattle.log_reports.specs.LogReports.{IsLogReport, IsLogReportOfReader, IsReportOf, RendersLog}
use Rattle.log_reports.proofs.ViolationFacts.{report_violation, report_written}

-- ---- what is read

-- fewer first elements than were asked for are all
all_taken : (n : ℕ) (all : List ℕ) → length (take n all) < n → take n all ≡ all
all_taken n all fewer =
    ⊎_elim
    (λ (more : n < length all). let count = length-take-le n all (omega (arith, more)) in absurd (omega (arith, count, fewer)))
    (λ (fits : length all ≤ n). take_all n all fits)
    (cases_lt n (length all))

-- what was read without passing a limit that no list in memory passes is all there was
pub all_read : (old : Option (List ℕ)) (bytes : List ℕ) → IfSome old (λ all. bytes ≡ take (2 ^ 64) all) → length bytes < 2 ^ 64 → IfSome old (λ all. bytes ≡ all)
all_read None bytes is fewer = tt
all_read (Some all) bytes is fewer = is ∙ all_taken (2 ^ 64) all (subst (λ (l : List ℕ). length l < 2 ^ 64) is fewer)

-- and all of it was taken
pub all_consumed : (old new : Option (List ℕ)) (bytes : List ℕ) → IfSome old (λ all. bytes ≡ all) → Consumes old new bytes → IfSome old (λ all. Consumes old new all)
all_consumed None new bytes is taken = tt
all_consumed (Some all) new bytes is taken = subst (Consumes (Some all) new) is taken

pub on_ok : {X : Type 0} (outcome : Result X Fault) {P : Type 0} → P → IfOk outcome (λ _. P)
on_ok (Ok x) holds = holds
on_ok (Err fault) holds = tt

-- ---- what is said

-- what holds of the bytes that were read is so of the reader's
of_reader : (Is : List ℕ → Type 0) (remaining : Option (List ℕ)) (bytes : List ℕ) → IfSome remaining (λ all. bytes ≡ all) → Is bytes → ReadsAs remaining Is
of_reader Is None bytes all holds = record { bytes = bytes; of_read = holds; of_all = tt }
of_reader Is (Some whole) bytes all holds = record { bytes = bytes; of_read = holds; of_all = subst Is all holds }

module _ (said : RendersLog) (refused : RendersRefusal) (options : LogOptions) (remaining : Option (List ℕ)) (text bytes : List ℕ) (all : IfSome remaining (λ l. bytes ≡ l)) (same : text ≡ bytes) where
  -- the report on a log that was read
  pub log_said : (log : NumberedLog) (tags : LineTags) (outcome : Result LogReport Fault) → SpellsLog text log → IsEndedAsNeeded options.needs_end text → AreTagsOf text tags →
      IfOk outcome (λ r. (bytes : List ℕ) → AreTagsOf bytes tags → IsReportOf said log bytes options (string_bytes r.text) r.verdict) →
      IfOk outcome (λ r. IsLogReportOfReader said refused options remaining (string_bytes r.text) r.verdict)
  log_said log tags (Ok r) spelled ended tagged is = of_reader (λ bytes. IsLogReport said refused options bytes (string_bytes r.text) r.verdict) remaining bytes all (inl (log, subst (λ (l : List ℕ). SpellsLog l log) same spelled, subst (IsEndedAsNeeded options.needs_end) same ended, is bytes (subst (λ (l : List ℕ). AreTagsOf l tags) same tagged)))
  log_said log tags (Err fault) spelled ended tagged is = tt

  -- the refusal of a text
  pub refusal_said : (line : ℕ) (why : Why) (told : List ℕ) (verdict : Answer) → IsLogRefusal options.needs_end text line why → told ≡ refused text line why → verdict ≡ Refused → IsLogReportOfReader said refused options remaining told verdict
  refusal_said line why told verdict is says gives =
      of_reader (λ bytes. IsLogReport said refused options bytes told verdict) remaining bytes all (inr (record {
        line = line;
        why = why;
        refused = subst (λ (l : List ℕ). IsLogRefusal options.needs_end l line why) same is;
        says = subst (λ (l : List ℕ). told ≡ refused l line why) same says;
        gives = gives;
      }))

module _ (said : RendersLog) (refused : RendersRefusal) (options : LogOptions) where
  -- a log on which the report is a violation has no order
  pub reader_violation : (remaining : Option (List ℕ)) (text : List ℕ) (verdict : Answer) → IsLogReportOfReader said refused options remaining text verdict → verdict ≡ Violation →
      IfSome remaining (λ all. (log : NumberedLog) → SpellsLog all log → IsConsistent (log_operations log) → ⊥)
  reader_violation None text verdict is gives = tt
  reader_violation (Some all) text verdict is gives = λ log spelled. report_violation said refused options all text (subst (IsLogReport said refused options all text) gives is.of_all) log spelled

  -- and of one on which it is Clear each load read what something wrote
  pub reader_written : (remaining : Option (List ℕ)) (text : List ℕ) (verdict : Answer) → IsLogReportOfReader said refused options remaining text verdict → verdict ≡ Clear →
      IfSome remaining (λ all. (log : NumberedLog) → SpellsLog all log → (l : ℕ) → IsUnwritten (log_operations log) l → ⊥)
  reader_written None text verdict is gives = tt
  reader_written (Some all) text verdict is gives = λ log spelled. report_written said refused options all text (subst (IsLogReport said refused options all text) gives is.of_all) log spelled
