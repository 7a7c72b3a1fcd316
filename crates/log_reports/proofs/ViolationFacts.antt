-- A log of which a violation is listed has no order of its model.
use Rattle.std.proofs.Common.{◌≡◌, ◌&&◌, ◌||◌, ⊎_elim, ℕ, Bool, List, not, refl, true, false, [], ◌∷◌, arith, cond, sym, subst}
use Rattle.std.specs.List.{All}
use Rattle.line_text.specs.Lines.{is_empty}
use Rattle.tso_ops.specs.Values.{TraceValue}
use Rattle.tso_ops.specs.Events.{IsUnwritten}
use Rattle.tso_model.specs.Axioms.{IsConsistent}
use Rattle.trace_reports.specs.Violations.{IsViolation}
use Rattle.trace_judging.proofs.ViolationFacts.{violation_no_order}
use Rattle.log_text.specs.LogTexts.{SpellsLog}
use Rattle.log_text.specs.LogValues.{NumberedLog, log_operations}
use Rattle.log_text.proofs.TextFacts.{one_log}
use Rattle.log_selections.specs.declared.shown.Shown.{Shown}
use Rattle.log_selections.specs.Shown.{IsSelected, log_of_shown}
use Rattle.log_selections.proofs.SelectionOrders.{selection_violation}
use Rattle.log_selections.proofs.UnwrittenFacts.{unwritten_no_order}
use Rattle.log_thinning.proofs.IdleLogs.{idle_swaps_forward}
use Rattle.log_thinning.specs.IdleSwaps.{with_idle_swaps_read}
use Rattle.value_evidence.proofs.Soundness as soundness
use Rattle.log_reports.specs.declared.findings.LogViolation.{LogViolation}
use Rattle.log_reports.specs.declared.findings.LogViolation.TheVariants.{Selection, Unwritten, ByValues}
use Rattle.log_reports.specs.declared.forms.LogFound.{LogFound}
use Rattle.request_options.specs.declared.logs.LogOptions.{LogOptions}
use Rattle.trace_reports.specs.declared.answers.Answer.TheVariants.{Clear, Undecided, Violation, Refused}
use Rattle.log_reports.specs.Findings.{AreFindings, AreWrittenIn, IsListed}
use Rattle.trace_reports.specs.Renderings.{RendersRefusal}
use Rattle.log_reports.specs.LogCounts.{is_nothing_judged, is_too_unknown}
use Rattle.log_reports.specs.LogReports.{IsLogReport, RendersLog, found_in, is_all_judged, verdict_of}

module _ (log : NumberedLog) (shown : List Shown) (t : TraceValue) (selected : IsSelected log shown t) (violation : IsViolation t) where
  no_order : IsConsistent t → ⊥
  no_order = violation_no_order t selected.kept violation

  pub lines_violation : IsConsistent (log_operations (log_of_shown log shown)) → ⊥
  lines_violation = selection_violation (log_operations (log_of_shown log shown)) t selected.of_lines no_order

  pub selected_violation : IsConsistent (log_operations log) → ⊥
  selected_violation = selection_violation (log_operations log) t selected.of_log no_order

pub log_violation : (log : NumberedLog) (violation : LogViolation) → IsListed log violation → IsConsistent (log_operations log) → ⊥
log_violation log (Selection selected finding) (is, violation, found) = selected_violation log selected.shown.items selected.trace is violation
log_violation log (Unwritten load) is = unwritten_no_order log load.shown.logged is.unwritten
log_violation log (ByValues shown) (lines, holds) = λ consistent.
    soundness.no_order (log_operations (with_idle_swaps_read log)) shown.evidence holds (idle_swaps_forward log consistent)

-- where the verdict is Violation, one is listed
listed : (log : NumberedLog) (violations : List LogViolation) (all_judged : _) → cond (is_empty violations) (cond all_judged Clear Undecided) Violation ≡ Violation → All (IsListed log) violations → IsConsistent (log_operations log) → ⊥
listed log [] true is all = absurd cc
listed log [] false is all = absurd cc
listed log (violation ∷ violations) all_judged is all = log_violation log violation (all 0 violation (omega arith))

pub found_violation : (log : NumberedLog) (found : LogFound) → AreFindings log found.findings → verdict_of found ≡ Violation → IsConsistent (log_operations log) → ⊥
found_violation log found are is = listed log found.findings.violations.items (is_all_judged found) is are.listed

-- where the verdict is Clear, nothing is listed, and all was judged
none_listed : (violations : List LogViolation) (all_judged : Bool) → cond (is_empty violations) (cond all_judged Clear Undecided) Violation ≡ Clear → (violations ≡ []) × (all_judged ≡ true)
none_listed [] true is = (refl, refl)
none_listed [] false is = absurd cc
none_listed (violation ∷ violations) all_judged is = absurd cc

-- so no load read what nothing wrote
all_judged_written : (early unjudged unlisted refused nothing many : Bool) → (not early && not (unjudged || unlisted || refused) && not nothing && not many) ≡ true → unlisted ≡ false
all_judged_written early unjudged false refused nothing many is = refl
all_judged_written true unjudged true refused nothing many is = absurd cc
all_judged_written false true true refused nothing many is = absurd cc
all_judged_written false false true refused nothing many is = absurd cc

found_none : (log : NumberedLog) (found : LogFound) → AreWrittenIn log found.findings → verdict_of found ≡ Clear → (l : ℕ) → IsUnwritten (log_operations log) l → ⊥
found_none log found written is =
    let findings = found.findings in
    let (none, all_judged) = none_listed findings.violations.items (is_all_judged found) is in
    written none (all_judged_written findings.is_early (not (is_empty findings.unjudged.items)) findings.has_unlisted findings.has_refused (is_nothing_judged found.counts) (is_too_unknown found.options.max_unknown found.counts) all_judged)

pub report_written : (said : RendersLog) (refused : RendersRefusal) (options : LogOptions) (bytes text : List ℕ) → IsLogReport said refused options bytes text Clear → (log : NumberedLog) → SpellsLog bytes log → (l : ℕ) → IsUnwritten (log_operations log) l → ⊥
report_written said refused options bytes text is log spelled =
    ⊎_elim
    (λ of_log. subst (λ (other : NumberedLog). (l : ℕ) → IsUnwritten (log_operations other) l → ⊥) (one_log bytes of_log.0 log of_log.1 spelled) (found_none of_log.0 (found_in of_log.0 options of_log.3.tags of_log.3.findings) of_log.3.written (sym of_log.3.gives)))
    (λ refusal. absurd (differ refusal.gives))
    is
  where
    differ : Clear ≡ Refused → ⊥
    differ same = cc

pub report_violation : (said : RendersLog) (refused : RendersRefusal) (options : LogOptions) (bytes text : List ℕ) → IsLogReport said refused options bytes text Violation → (log : NumberedLog) → SpellsLog bytes log → IsConsistent (log_operations log) → ⊥
report_violation said refused options bytes text is log spelled =
    ⊎_elim
    (λ of_log. subst (λ (other : NumberedLog). IsConsistent (log_operations other) → ⊥) (one_log bytes of_log.0 log of_log.1 spelled) (found_violation of_log.0 (found_in of_log.0 options of_log.3.tags of_log.3.findings) of_log.3.found (sym of_log.3.gives)))
    (λ refusal. absurd (differ refusal.gives))
    is
  where
    differ : Violation ≡ Refused → ⊥
    differ same = cc
