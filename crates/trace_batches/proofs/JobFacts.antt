-- Lemmas on what is said and printed of trace texts, one trace text more.
use Rattle.std.proofs.Common.{◌≡◌, Ok, Result, IfOk, IfErr, ℕ, suc, ◌+◌, ◌<◌, List, [], ◌∷◌, ◌++◌, Bool, true, false, cond, length, map, take, drop, get_or, refl, ap, ap₂, sym, subst, ◌∙◌, arith, append_assoc, Err}
use Rattle.std.specs.Prelude.{Option}
use Rattle.std.specs.Io.KnownBytes.{Appends}
use Rattle.std.proofs.KnownBytes.{Appends-nil, Appends-trans}
use Rattle.std.specs.Global.{Vec}
use Rattle.tso_ops.specs.Values.{rows}
use Rattle.std.proofs.Math.Seq.{take-append_seam}
use Rattle.std.proofs.lemmas.List.{append-nil, get_or-map, length-map, length_push, take_more}
use Rattle.std.proofs.lemmas.List.Sums.{sum_by-append, sum_by-cons}
use Rattle.text_streams.specs.declared.faults.Fault.{Fault}
use Rattle.text_streams.specs.declared.faults.Fault.TheVariants.{NoThread}
use Rattle.text_streams.specs.Streams.{AppendsPrefix}
use Rattle.trace_batches.specs.declared.jobs.Job.{Job}
use Rattle.trace_batches.specs.declared.judgments.Judgment.{Judgment}
use Rattle.trace_batches.specs.declared.judgments.Judgment.TheVariants.{NoViolation, Violation, Consistent, Undecided, Refused}
use Rattle.trace_batches.specs.declared.questions.BatchQuestion.{BatchQuestion}
use Rattle.trace_batches.specs.declared.tallies.Tally.{Tally}
use Rattle.trace_batches.specs.Batches.{asked, Counts, IsBatchFault, TextPrinting, count_violations, kept_with, trace_note, trace_result_text, trace_notes, trace_results_text}
use Rattle.trace_batches.specs.Judgments.{AreJudgments, IsJudgment, says_violation}
use Rattle.trace_batches.specs.Internal.Progress.{AreJudged, IsJobOf, IsOutcome, WroteAll, WroteSome}
use Rattle.trace_batches.proofs.JudgmentFacts.{firsts, kept_violation}
use Rattle.trace_streams.specs.Limits.{trace_read_limit}
use Rattle.text_streams.proofs.StreamFacts.{prefix_after, whole_written}

-- ---- judgments

pub AreJudgments-append : (question : BatchQuestion) (ps qs : List (List ℕ)) (rs ss : List Judgment) → AreJudgments question ps rs → AreJudgments question qs ss → AreJudgments question (ps ++ qs) (rs ++ ss)
AreJudgments-append question [] qs [] ss first second = second
AreJudgments-append question (p ∷ ps) qs (r ∷ rs) ss first second = (first.0, AreJudgments-append question ps qs rs ss first.1 second)
AreJudgments-append question ps qs rs ss first second = absurd first

pub AreJudgments-push : (question : BatchQuestion) (ps : List (List ℕ)) (rs : List Judgment) (p : List ℕ) (r : Judgment) → AreJudgments question ps rs → IsJudgment question p r →
    AreJudgments question (ps ++ p ∷ []) (rs ++ r ∷ [])
AreJudgments-push question ps rs p r first last = AreJudgments-append question ps (p ∷ []) rs (r ∷ []) first (last, tt)

-- the trace texts of new jobs
trace_texts_of : (pieces : List (Vec ℕ)) → map (λ (job : Job). job.piece.items) (map (λ piece. record { piece = piece; outcome = Err NoThread }) pieces) ≡ rows pieces
trace_texts_of [] = refl
trace_texts_of (piece ∷ pieces) = ap (λ rest. piece.items ∷ rest) (trace_texts_of pieces)

-- all of them, which were new, were done
pub judged_all : (question : BatchQuestion) (pieces : List (Vec ℕ)) (jobs done : List Job) (n : ℕ) → n ≡ length jobs → jobs ≡ map (λ piece. record { piece = piece; outcome = Err NoThread }) pieces →
    AreJudged question (map (λ (job : Job). job.piece.items) jobs) done → AreJudged question (rows pieces) (take n (done ++ drop (length done) jobs))
judged_all question pieces jobs done n count new judged =
    let given : map (λ (job : Job). job.piece.items) jobs ≡ rows pieces = ap (map (λ (job : Job). job.piece.items)) new ∙ trace_texts_of pieces in
    let all : n ≡ length done = count ∙ sym (length-map jobs (λ (job : Job). job.piece.items)) ∙ sym judged.one_each in
    let whole : take n (done ++ drop (length done) jobs) ≡ done = ap (λ m. take m (done ++ drop (length done) jobs)) all ∙ take-append_seam done (drop (length done) jobs) in
    subst (AreJudged question (rows pieces)) (sym whole) (subst (λ ps. AreJudged question ps done) given judged)

-- ---- what is printed

pub trace_results_text-append : (way : TextPrinting) (number : ℕ) (ps qs : List (List ℕ)) (rs ss : List Judgment) → AreJudgments (asked way.printing) ps rs →
    trace_results_text way number (ps ++ qs) (rs ++ ss) ≡ trace_results_text way number ps rs ++ trace_results_text way (number + length rs) qs ss
trace_results_text-append way number [] qs [] ss are = ap (λ n. trace_results_text way n qs ss) (omega arith)
trace_results_text-append way number (p ∷ ps) qs (r ∷ rs) ss are =
    ap (λ t. trace_result_text way number p r ++ t) (trace_results_text-append way (suc number) ps qs rs ss are.1)
    ∙ sym (append_assoc (trace_result_text way number p r) (trace_results_text way (suc number) ps rs) (trace_results_text way (suc number + length rs) qs ss))
    ∙ ap (λ n. (trace_result_text way number p r ++ trace_results_text way (suc number) ps rs) ++ trace_results_text way n qs ss) (omega arith)
trace_results_text-append way number ps qs rs ss are = absurd are

trace_results_text-push : (way : TextPrinting) (number : ℕ) (ps : List (List ℕ)) (rs : List Judgment) (p : List ℕ) (r : Judgment) → AreJudgments (asked way.printing) ps rs →
    trace_results_text way number (ps ++ p ∷ []) (rs ++ r ∷ []) ≡ trace_results_text way number ps rs ++ trace_result_text way (number + length rs) p r
trace_results_text-push way number ps rs p r are =
    trace_results_text-append way number ps (p ∷ []) rs (r ∷ []) are ∙ ap (λ t. trace_results_text way number ps rs ++ t) (append-nil (trace_result_text way (number + length rs) p r))

-- ---- the notes

-- how many violations there are, with one judgment more, and of both
pub violations_with : (kept : ℕ) (r : Judgment) → kept_with kept r ≡ kept + cond (says_violation r) 1 0
violations_with kept r = go (says_violation r)
  where
    go : (b : Bool) → ◌≡◌ {A = ℕ} (cond b (kept + 1) kept) (kept + cond b 1 0)
    go true = refl
    go false = omega arith

violations-cons : (r : Judgment) (rs : List Judgment) → count_violations (r ∷ rs) ≡ cond (says_violation r) 1 0 + count_violations rs
violations-cons r rs = sum_by-cons (λ j. cond (says_violation j) 1 0) r rs

pub violations-append : (rs ss : List Judgment) → count_violations (rs ++ ss) ≡ count_violations rs + count_violations ss
violations-append rs ss = sum_by-append (λ j. cond (says_violation j) 1 0) rs ss

violations-push : (rs : List Judgment) (r : Judgment) → count_violations (rs ++ r ∷ []) ≡ kept_with (count_violations rs) r
violations-push rs r =
    let both = violations-append rs (r ∷ []) in
    let one = violations-cons r [] in
    let none : count_violations [] ≡ 0 = refl in
    let this = violations_with (count_violations rs) r in
    omega (arith, both, one, none, this)

pub trace_notes-append : (way : TextPrinting) (kept number : ℕ) (rs ss : List Judgment) →
    trace_notes way kept number (rs ++ ss) ≡ trace_notes way kept number rs ++ trace_notes way (kept + count_violations rs) (number + length rs) ss
trace_notes-append way kept number [] ss =
    let none : count_violations [] ≡ 0 = refl in
    ap₂ (λ k n. trace_notes way k n ss) (omega (arith, none)) (omega arith)
trace_notes-append way kept number (r ∷ rs) ss =
    let next = kept_with kept r in
    let this = violations_with kept r in
    let more = violations-cons r rs in
    let count : next + count_violations rs ≡ kept + count_violations (r ∷ rs) = omega (arith, this, more) in
    ap (λ t. trace_note way next number r ++ t) (trace_notes-append way next (suc number) rs ss)
    ∙ sym (append_assoc (trace_note way next number r) (trace_notes way next (suc number) rs) (trace_notes way (next + count_violations rs) (suc number + length rs) ss))
    ∙ ap₂ (λ k n. (trace_note way next number r ++ trace_notes way next (suc number) rs) ++ trace_notes way k n ss) count (omega arith)

trace_notes-push : (way : TextPrinting) (kept number : ℕ) (rs : List Judgment) (r : Judgment) →
    trace_notes way kept number (rs ++ r ∷ []) ≡ trace_notes way kept number rs ++ trace_note way (kept_with (kept + count_violations rs) r) (number + length rs) r
trace_notes-push way kept number rs r =
    let so_far = kept + count_violations rs in
    trace_notes-append way kept number rs (r ∷ []) ∙ ap (λ t. trace_notes way kept number rs ++ t) (append-nil (trace_note way (kept_with so_far r) (number + length rs) r))

-- the number of the text that is printed next
next_kept : (kept before mid n : ℕ) (r : Judgment) → mid ≡ before + n → kept_with ((kept + before) + n) r ≡ kept + kept_with mid r
next_kept kept before mid n r so_far =
    let first = violations_with ((kept + before) + n) r in
    let second = violations_with mid r in
    omega (arith, so_far, first, second)

-- ---- what was kept of trace texts

-- of the first bytes of a trace text the same is printed as of the trace text: all of a violation is kept
kept_text : (way : TextPrinting) (number : ℕ) (p : List ℕ) (r : Judgment) → IsJudgment (asked way.printing) p r → trace_result_text way number (take trace_read_limit p) r ≡ trace_result_text way number p r
kept_text way number p NoViolation is = refl
kept_text way number p Consistent is = refl
kept_text way number p (Undecided steps) is = refl
kept_text way number p (Violation body) is = ap (λ bytes. trace_result_text way number bytes (Violation body)) (kept_violation (asked way.printing) p body is)
kept_text way number p (Refused fault) is = refl

pub kept_texts : (way : TextPrinting) (number : ℕ) (ps : List (List ℕ)) (rs : List Judgment) → AreJudgments (asked way.printing) ps rs → trace_results_text way number (firsts ps) rs ≡ trace_results_text way number ps rs
kept_texts way number [] [] are = refl
kept_texts way number (p ∷ ps) (r ∷ rs) are =
    ap (λ t. t ++ trace_results_text way (suc number) (firsts ps) rs) (kept_text way number p r are.0) ∙ ap (λ t. trace_result_text way number p r ++ t) (kept_texts way (suc number) ps rs are.1)
kept_texts way number ps rs are = absurd are

-- the number of the next line
next_number : (before mid : Tally) (n : ℕ) → mid.traces ≡ before.traces + n → suc before.traces + n ≡ mid.traces + 1
next_number before mid n traces = omega (arith, traces)

-- ---- trace texts, one after the other

-- nothing of them
pub wrote_none : (way : TextPrinting) (kept : ℕ) (tally : Tally) (a e : Option (List ℕ)) → WroteAll way kept tally tally [] a a e e
wrote_none way kept tally a e = record {
  judgments = [];
  are_judgments = tt;
  counts = λ earlier counts. subst (Counts tally) (sym (append-nil earlier)) counts;
  traces = omega arith;
  violations = (let none : count_violations [] ≡ 0 = refl in omega (arith, none));
  written = Appends-nil a;
  noted = Appends-nil e;
}

-- one more
pub wrote_more : (way : TextPrinting) (kept : ℕ) (before mid after : Tally) (pieces : List (List ℕ)) (piece : List ℕ) (judgment : Judgment) (a b c e f g : Option (List ℕ)) →
    WroteAll way kept before mid pieces a b e f → IsJudgment (asked way.printing) piece judgment → ((judgments : List Judgment) → Counts mid judgments → Counts after (judgments ++ judgment ∷ [])) →
    after.traces ≡ mid.traces + 1 → after.violations ≡ kept_with mid.violations judgment → Appends b c (trace_result_text way (mid.traces + 1) piece judgment) →
    Appends f g (trace_note way (kept + kept_with mid.violations judgment) (mid.traces + 1) judgment) → WroteAll way kept before after (pieces ++ piece ∷ []) a c e g
wrote_more way kept before mid after pieces piece judgment a b c e f g so_far is counted more also text note =
    let others = so_far.judgments in
    let some = so_far.violations in
    let push = violations-push others judgment in
    let here = violations_with mid.violations judgment in
    let there = violations_with (count_violations others) judgment in
    let number = next_number before mid (length so_far.judgments) so_far.traces in
    let count = length_push so_far.judgments judgment in
    let one = so_far.traces in
    record {
      judgments = so_far.judgments ++ judgment ∷ [];
      are_judgments = AreJudgments-push (asked way.printing) pieces so_far.judgments piece judgment so_far.are_judgments is;
      counts = λ earlier counts. subst (Counts after) (append_assoc earlier so_far.judgments (judgment ∷ [])) (counted (earlier ++ so_far.judgments) (so_far.counts earlier counts));
      traces = omega (arith, more, count, one);
      violations = omega (arith, also, some, push, here, there);
      noted =
          subst (Appends e g)
          (ap₂ (λ k n. trace_notes way (kept + before.violations) (suc before.traces) others ++ trace_note way k n judgment)
          (sym (next_kept kept before.violations mid.violations (count_violations others) judgment some)) (sym number)
          ∙ sym (trace_notes-push way (kept + before.violations) (suc before.traces) others judgment))
          (Appends-trans e f g (trace_notes way (kept + before.violations) (suc before.traces) others) (trace_note way (kept + kept_with mid.violations judgment) (mid.traces + 1) judgment) so_far.noted note);
      written =
          subst (Appends a c)
          (ap (λ n. trace_results_text way (suc before.traces) pieces so_far.judgments ++ trace_result_text way n piece judgment) (sym number)
          ∙ sym (trace_results_text-push way (suc before.traces) pieces so_far.judgments piece judgment so_far.are_judgments))
          (Appends-trans a b c (trace_results_text way (suc before.traces) pieces so_far.judgments) (trace_result_text way (mid.traces + 1) piece judgment) so_far.written text);
    }

-- a fault before the next
pub wrote_before : (way : TextPrinting) (kept : ℕ) (before mid : Tally) (pieces : List (List ℕ)) (i : ℕ) (a b e f : Option (List ℕ)) → WroteAll way kept before mid (take i pieces) a b e f →
    WroteSome way kept before pieces a b e f
wrote_before way kept before mid pieces i a b e f so_far = record {
  count = i;
  judgments = so_far.judgments;
  are_judgments = so_far.are_judgments;
  written = whole_written a b (trace_results_text way (suc before.traces) (take i pieces) so_far.judgments) so_far.written;
  noted = whole_written e f (trace_notes way (kept + before.violations) (suc before.traces) so_far.judgments) so_far.noted;
}

-- a fault in what is printed of it
pub wrote_some : (way : TextPrinting) (kept : ℕ) (before mid : Tally) (pieces : List (List ℕ)) (i : ℕ) (judgment : Judgment) (a b c e f g : Option (List ℕ)) → i < length pieces →
    WroteAll way kept before mid (take i pieces) a b e f → IsJudgment (asked way.printing) (get_or pieces i []) judgment → AppendsPrefix b c (trace_result_text way (mid.traces + 1) (get_or pieces i []) judgment) →
    AppendsPrefix f g (trace_note way (kept + kept_with mid.violations judgment) (mid.traces + 1) judgment) → WroteSome way kept before pieces a c e g
wrote_some way kept before mid pieces i judgment a b c e f g inside so_far is text note =
    let others = so_far.judgments in
    let number = next_number before mid (length so_far.judgments) so_far.traces in
    let piece = get_or pieces i [] in
    let judgments = so_far.judgments ++ judgment ∷ [] in
    let same : take i pieces ++ piece ∷ [] ≡ take (i + 1) pieces = sym (take_more pieces i [] inside) in
    record {
      count = i + 1;
      judgments = judgments;
      are_judgments = subst (λ ps. AreJudgments (asked way.printing) ps judgments) same (AreJudgments-push (asked way.printing) (take i pieces) so_far.judgments piece judgment so_far.are_judgments is);
      written =
          subst (AppendsPrefix a c)
          (ap (λ n. trace_results_text way (suc before.traces) (take i pieces) so_far.judgments ++ trace_result_text way n piece judgment) (sym number)
          ∙ sym (trace_results_text-push way (suc before.traces) (take i pieces) so_far.judgments piece judgment so_far.are_judgments)
          ∙ ap (λ ps. trace_results_text way (suc before.traces) ps judgments) same)
          (prefix_after a b c (trace_results_text way (suc before.traces) (take i pieces) so_far.judgments) (trace_result_text way (mid.traces + 1) piece judgment) so_far.written text);
      noted =
          subst (AppendsPrefix e g)
          (ap₂ (λ k n. trace_notes way (kept + before.violations) (suc before.traces) others ++ trace_note way k n judgment)
          (sym (next_kept kept before.violations mid.violations (count_violations others) judgment so_far.violations)) (sym number)
          ∙ sym (trace_notes-push way (kept + before.violations) (suc before.traces) others judgment))
          (prefix_after e f g (trace_notes way (kept + before.violations) (suc before.traces) others) (trace_note way (kept + kept_with mid.violations judgment) (mid.traces + 1) judgment) so_far.noted note);
    }

-- ---- the jobs

-- what judging a trace text gave is its outcome
pub outcome_of : (question : BatchQuestion) (piece : List ℕ) (outcome : Result Judgment Fault) → IfOk outcome (IsJudgment question piece) → IfErr outcome IsBatchFault → IsOutcome question piece outcome
outcome_of question piece (Ok judgment) said fault = said
outcome_of question piece (Err why) said fault = fault

-- each judged its trace text
pub judged_each : (question : BatchQuestion) (old new : List Job) → length new ≡ length old → ((i : ℕ) (d : Job) → i < length old → IsJobOf question (get_or old i d).piece.items (get_or new i d)) →
    AreJudged question (map (λ (job : Job). job.piece.items) old) new
judged_each question old new same each =
    let trace_text_in : Job → List ℕ = λ job. job.piece.items in
    record {
      one_each = same ∙ sym (length-map old trace_text_in);
      each = λ i d below.
          let within = subst (λ n. i < n) (length-map old trace_text_in) below in
          subst (λ piece. IsJobOf question piece (get_or new i d)) (sym (get_or-map trace_text_in old i d [] within)) (each i d within);
    }
