-- What reports on the text of a run say of its log: it has an order where nothing was refused, and no report on the log is a violation.
use Rattle.std.proofs.Common.{◌≡◌, ◌≢◌, ◌∙◌, inl, inr, sym, refl, ℕ, Bool, true, false, nat_lt, if◌then◌else◌, length, arith, List, [], ◌∷◌}
use Rattle.std.proofs.lemmas.Bool.Decides.{nat_tests}
use Rattle.tso_model.specs.Axioms.{IsConsistent}
use Rattle.request_options.specs.declared.logs.LogOptions.{LogOptions}
use Rattle.request_options.specs.declared.following.FollowOptions.{FollowOptions}
use Rattle.trace_reports.specs.Renderings.{RendersRefusal}
use Rattle.trace_reports.specs.declared.answers.Answer.{Answer}
use Rattle.trace_reports.specs.declared.answers.Answer.TheVariants.{Clear, Refused, Undecided, Violation}
use Rattle.run_following.specs.Reports.{IsRunReport, RendersRun}
use Rattle.log_reports.specs.LogReports.{IsLogReport, RendersLog}
use Rattle.log_reports.proofs.ViolationFacts.{report_violation}
use Rattle.log_text.specs.LogTexts.{SpellsLog}
use Rattle.log_text.specs.LogValues.{NumberedLog, log_operations}
use Rattle.run_text_orders.specs.UnknownBytes.{HasNoUnknownBytes}
use Rattle.run_text_orders.proofs.TextOrders.{text_order}

none_of_length : {X : Type 0} (xs : List X) → length xs ≡ 0 → xs ≡ []
none_of_length [] e = refl
none_of_length (x ∷ xs) e = absurd (omega (arith, e))

-- an answer that is no violation is of no refusals
clear_of : (some compared : Bool) (answer : Answer) → answer ≡ (if some then Violation else if compared then Clear else Undecided) → answer ≢ Violation → some ≡ false
clear_of true compared answer is other = absurd (other is)
clear_of false compared answer is other = refl

none_counted : (n : ℕ) → nat_lt 0 n ≡ false → n ≡ 0
none_counted n e = grind (arith, nat_tests)

pub report_order : (renders : RendersRun) (refused : RendersRefusal) (options : FollowOptions) (bytes text : List ℕ) (answer : Answer) (log : NumberedLog) →
    IsRunReport renders refused options bytes text answer → answer ≢ Violation → answer ≢ Refused → SpellsLog bytes log → HasNoUnknownBytes bytes →
    IsConsistent (log_operations log)
report_order renders refused options bytes text answer log (inl (account, followed, report)) no_violation no_refusal spells known =
    let count : report.found.refusals ≡ 0 =
    none_counted report.found.refusals (clear_of (nat_lt 0 report.found.refusals) report.found.is_compared answer report.gives no_violation) in
    let none : account.refusals ≡ [] = none_of_length account.refusals (sym report.is.refusals ∙ count) in
    elim followed [
      | inl whole ↦ text_order options.needs_end bytes account log whole.0 none spells known
      | inr part ↦ absurd (part.1.refused none)
    ]
report_order renders refused options bytes text answer log (inr refusal) no_violation no_refusal spells known = absurd (no_refusal refusal.gives)

-- a report on the log that is a violation is of a log without an order
pub no_violation : (renders : RendersRun) (refused : RendersRefusal) (options : FollowOptions) (bytes text : List ℕ) (answer : Answer) (log_renders : RendersLog)
    (log_refused : RendersRefusal) (log_options : LogOptions) (log_report : List ℕ) → IsRunReport renders refused options bytes text answer → answer ≢ Violation →
    answer ≢ Refused → HasNoUnknownBytes bytes → IsLogReport log_renders log_refused log_options bytes log_report Violation → ⊥
no_violation renders refused options bytes text answer log_renders log_refused log_options log_report run other_one other_two known (inl (log, spells, ended, report)) =
    report_violation log_renders log_refused log_options bytes log_report (inl (log, spells, ended, report)) log spells
    (report_order renders refused options bytes text answer log run other_one other_two spells known)
no_violation renders refused options bytes text answer log_renders log_refused log_options log_report run other_one other_two known (inr refusal) =
    let is : Violation ≡ Refused = refusal.gives in absurd cc
