-- Lemmas on batches of several texts: one text more, the end, and what is left of a fault.
use Rattle.std.proofs.Common.{◌≡◌, ℕ, ◌+◌, true, false, List, [], ◌∷◌, ◌++◌, Err, Ok, Result, refl, ap, ap₂, sym, subst, ◌∙◌, append_assoc}
use Rattle.std.specs.Prelude.{OnErr, Option}
use Rattle.std.specs.Io.KnownBytes.{Appends}
use Rattle.std.proofs.KnownBytes.{Appends-nil, Appends-trans}
use Rattle.std.proofs.lemmas.List.{append-nil}
use Rattle.text_streams.specs.Readings.{ReadsAs}
use Rattle.text_streams.specs.Streams.{AppendsPrefix}
use Rattle.text_streams.proofs.StreamFacts.{none_written, prefix_after, prefix_of_more, whole_written}
use Rattle.request_options.specs.declared.batches.BatchFormat.{BatchFormat}
use Rattle.request_options.specs.declared.batches.BatchMethod.TheVariants.{Judge}
use Rattle.request_options.specs.declared.batches.BatchPrinting.{BatchPrinting}
use Rattle.trace_batches.specs.declared.batches.TextJudging.{TextJudging}
use Rattle.trace_batches.specs.declared.begun.Batch.{Batch}
use Rattle.trace_batches.specs.declared.judgments.Judgment.{Judgment}
use Rattle.trace_reports.specs.declared.answers.Answer.{Answer}
use Rattle.trace_batches.specs.Judgments.{asking}
use Rattle.trace_batches.specs.declared.tallies.Tally.{Tally}
use Rattle.trace_batches.specs.BatchLines.{batch_total_text, few_text, read_fault_text}
use Rattle.trace_batches.specs.BatchNames.{text_label}
use Rattle.trace_batches.specs.Batches.{AreResults, AreResultsOf, AreResultsOfAll, asked, BatchText, Counts, EndsBatch, HasJudged, HasWritten, IsBatch, Judges, LeavesBatch, LeavesEnd, LeavesText, TextPrinting, TextResults, WritesBatch, all_judgments, count_judged, count_violations, end_notes, batch_head_text, known_texts, last_format, last_line, last_text, next_notes, note_text, notes_text, trace_notes, trace_results_text, readable_text, results_notes_of_all, results_text, results_texts, under_name, unreadable_text, unread_text_line, verdict_of_all, verdict_with}
use Rattle.trace_batches.specs.Internal.Progress.{HasWrittenAll, LeavesTraceTexts, printing_by}
use Rattle.trace_batches.proofs.BatchFacts.{told_results}
use Rattle.trace_batches.proofs.ResultFacts.{any_more, any_read, judgments-push, notes_later, notes_push, one_results_of_all, results-append, some_results, some_results_of_all, texts-append}
use Rattle.trace_batches.proofs.TallyFacts.{total_by_counts}

-- what holds whatever is answered is left at an error
pub whatever : {T E P : Type 0} (result : Result T E) → P → OnErr result P
whatever (Ok x) holds = tt
whatever (Err e) holds = holds

-- ---- one batch

-- what is printed of these results
abbrev last_of : BatchPrinting → List TextResults → List ℕ
last_of printing all = last_text printing (last_line printing (all_judgments all))

abbrev text_of : BatchPrinting → List TextResults → List ℕ
text_of printing all = batch_head_text printing ++ (results_texts printing all ++ last_of printing all)

abbrev verdict_of : BatchPrinting → List TextResults → Answer
verdict_of printing all = verdict_of_all printing.required all

batch_of : (printing : BatchPrinting) (texts : List BatchText) (all : List TextResults) → AreResultsOfAll (asked printing) texts all →
    IsBatch printing texts (text_of printing all) (notes_text printing all) (verdict_of printing all)
batch_of printing texts all are = record { all = all; are_results = are; whole = refl; noted = refl; says = refl }

pub some_batch : (printing : BatchPrinting) (texts : List BatchText) → (text : List ℕ) × (notes : List ℕ) × (verdict : Answer) × IsBatch printing texts text notes verdict
some_batch printing texts =
    let some = some_results_of_all (asked printing) texts in
    (text_of printing some.0, notes_text printing some.0, verdict_of printing some.0, batch_of printing texts some.0 some.1)

pub one_batch : (printing : BatchPrinting) (streams : List (Option (List ℕ) × List ℕ)) (text other notes others : List ℕ) (v w : Answer) → printing.method ≡ Judge →
    IsBatch printing (known_texts streams) text notes v → IsBatch printing (known_texts streams) other others w → (text ≡ other) × (notes ≡ others) × (v ≡ w)
one_batch printing streams text other notes others v w rules p q =
    let explains = (asked printing).explains in
    let by_rules : (all : List TextResults) → AreResultsOfAll (asked printing) (known_texts streams) all → AreResultsOfAll (asking Judge explains) (known_texts streams) all =
    λ all are. subst (λ method. AreResultsOfAll (asking method explains) (known_texts streams) all) rules are in
    let same = one_results_of_all explains streams p.all q.all (by_rules p.all p.are_results) (by_rules q.all q.are_results) in (
      p.whole ∙ ap (text_of printing) same ∙ sym q.whole,
      p.noted ∙ ap (notes_text printing) same ∙ sym q.noted,
      p.says ∙ ap (verdict_of printing) same ∙ sym q.says,
    )

-- ---- a batch that has begun

-- what is left of it, where this was written of what is printed, and these notes
left_of : (printing : BatchPrinting) (texts : List BatchText) (all : List TextResults) (old new before after : Option (List ℕ)) (first more notes others : List ℕ) →
    AreResultsOfAll (asked printing) texts all → first ++ more ≡ text_of printing all → notes ++ others ≡ notes_text printing all → AppendsPrefix old new first → AppendsPrefix before after notes →
    LeavesBatch printing texts old new before after
left_of printing texts all old new before after first more notes others are same also written noted = (
  verdict_of printing all,
  text_of printing all,
  notes_text printing all,
  batch_of printing texts all are,
  subst (AppendsPrefix old new) same (prefix_of_more old new first more written),
  subst (AppendsPrefix before after) also (prefix_of_more before after notes others noted),
)

-- the head was written, or a prefix of it
pub begun : (batch : Batch) (printing : BatchPrinting) (old new before : Option (List ℕ)) → HasJudged batch printing [] → Appends old new (batch_head_text printing) → HasWritten batch printing [] old new before before
begun batch printing old new before has written = record {
  all = [];
  are_results = tt;
  judged = has;
  written = subst (Appends old new) (sym (append-nil (batch_head_text printing))) written;
  noted = Appends-nil before;
}

pub head_left : (printing : BatchPrinting) (texts : List BatchText) (old new before : Option (List ℕ)) → AppendsPrefix old new (batch_head_text printing) → LeavesBatch printing texts old new before before
head_left printing texts old new before written =
    let some = some_results_of_all (asked printing) texts in
    left_of printing texts some.0 old new before before (batch_head_text printing) (results_texts printing some.0 ++ last_of printing some.0) [] (notes_text printing some.0) some.1 refl refl written
    (none_written before [])

module _ (batch : Batch) (printing : BatchPrinting) (texts : List BatchText) (old mid before between : Option (List ℕ)) (w : HasWritten batch printing texts old mid before between) where
  abbrev told : List ℕ
  told = results_texts printing w.all

  abbrev so_far : List ℕ
  so_far = batch_head_text printing ++ told

  abbrev notes_so_far : List ℕ
  notes_so_far = results_notes_of_all printing 0 w.all

  -- one text more was judged
  pub judged_more : (after : Batch) (text : BatchText) (new errors : Option (List ℕ)) → Judges text batch after mid new between errors → HasWritten after printing (texts ++ text ∷ []) old new before errors
  judged_more after text new errors judges =
      let one = judges printing w.all w.judged in
      let this = results_text printing one.0 in
      let same : so_far ++ this ≡ batch_head_text printing ++ results_texts printing (w.all ++ one.0 ∷ []) =
      append_assoc (batch_head_text printing) told this ∙ ap (λ t. batch_head_text printing ++ t) (sym (texts-append printing w.all (one.0 ∷ []) ∙ ap (λ t. told ++ t) (append-nil this))) in
      record {
        all = w.all ++ one.0 ∷ [];
        are_results = results-append (asked printing) texts (text ∷ []) w.all (one.0 ∷ []) w.are_results (one.1, tt);
        judged = one.2;
        written = subst (Appends old new) same (Appends-trans old mid new so_far this w.written one.3);
        noted = subst (Appends before errors) (sym (notes_push printing w.all one.0)) (Appends-trans before between errors notes_so_far (next_notes printing w.all one.0) w.noted one.4);
      }

  -- a prefix of what is printed of the next was written
  pub judged_left : (text : BatchText) (later : List BatchText) (new errors : Option (List ℕ)) → LeavesText text batch mid new between errors → LeavesBatch printing (texts ++ text ∷ later) old new before errors
  judged_left text later new errors left =
      let one = left printing w.all w.judged in
      let rest = some_results_of_all (asked printing) later in
      let this = results_text printing one.0 in
      let all = w.all ++ one.0 ∷ rest.0 in
      let others = results_texts printing rest.0 in
      let last = last_of printing all in
      let same : (so_far ++ this) ++ (others ++ last) ≡ text_of printing all =
      append_assoc so_far this (others ++ last) ∙ append_assoc (batch_head_text printing) told (this ++ (others ++ last)) ∙ ap (λ t. batch_head_text printing ++ (told ++ t)) (sym (append_assoc this others last))
      ∙ ap (λ t. batch_head_text printing ++ t) (sym (append_assoc told (this ++ others) last)) ∙ ap (λ t. batch_head_text printing ++ (t ++ last)) (sym (texts-append printing w.all (one.0 ∷ rest.0))) in
      let next = next_notes printing w.all one.0 in
      let more = results_notes_of_all printing (count_violations (all_judgments w.all) + count_violations one.0.judgments) rest.0 in
      let end = end_notes printing all in
      let also : (notes_so_far ++ next) ++ (more ++ end) ≡ notes_text printing all =
      append_assoc notes_so_far next (more ++ end) ∙ ap (λ t. notes_so_far ++ t) (sym (append_assoc next more end)) ∙ sym (append_assoc notes_so_far (next ++ more) end)
      ∙ ap (λ t. t ++ end) (sym (notes_later printing w.all (one.0 ∷ rest.0))) in
      left_of printing (texts ++ text ∷ later) all old new before errors (so_far ++ this) (others ++ last) (notes_so_far ++ next) (more ++ end)
      (results-append (asked printing) texts (text ∷ later) w.all (one.0 ∷ rest.0) w.are_results (one.1, rest.1)) same also (prefix_after old mid new so_far this w.written one.2)
      (prefix_after before between errors notes_so_far next w.noted one.3)

  -- the last line was written, or a prefix of it
  all_of : so_far ++ last_of printing w.all ≡ text_of printing w.all
  all_of = append_assoc (batch_head_text printing) told (last_of printing w.all)

  pub ended : (new after : Option (List ℕ)) (verdict : Answer) → EndsBatch batch mid new between after verdict → WritesBatch printing texts old new before after verdict
  ended new after verdict ends = (
    text_of printing w.all,
    notes_text printing w.all,
    subst (IsBatch printing texts (text_of printing w.all) (notes_text printing w.all)) (sym (ends.says printing w.all w.judged)) (batch_of printing texts w.all w.are_results),
    subst (Appends old new) all_of (Appends-trans old mid new so_far (last_of printing w.all) w.written (ends.written printing w.all w.judged)),
    Appends-trans before between after notes_so_far (end_notes printing w.all) w.noted (ends.noted printing w.all w.judged),
  )

  pub end_left : (new after : Option (List ℕ)) → LeavesEnd batch mid new between after → LeavesBatch printing texts old new before after
  end_left new after left = (
    verdict_of printing w.all,
    text_of printing w.all,
    notes_text printing w.all,
    batch_of printing texts w.all w.are_results,
    subst (AppendsPrefix old new) all_of (prefix_after old mid new so_far (last_of printing w.all) w.written (left.written printing w.all w.judged)),
    prefix_after before between after notes_so_far (end_notes printing w.all) w.noted (left.noted printing w.all w.judged),
  )

-- ---- one text of a batch

same_way : (p q : BatchPrinting) (l m : List ℕ) → p ≡ q → l ≡ m → ◌≡◌ {A = TextPrinting} (record { printing = p; label = l }) (record { printing = q; label = m })
same_way p q l m printings labels = rw (printings, labels) refl

module _ (name bytes : Option (List ℕ)) (batch : Batch) (judging : TextJudging) (printings : judging.options.printing ≡ batch.options.printing)
    (labels : judging.label.now ≡ text_label (last_format batch.options.printing) name) (counted : judging.kept ≡ batch.tally.violations) where
  way_is : (printing : BatchPrinting) → batch.options.printing ≡ printing → printing_by judging ≡ under_name printing name
  way_is printing prints = same_way _ _ _ _ (printings ∙ prints) (labels ∙ ap (λ (p : BatchPrinting). text_label (last_format p) name) prints)

  kept_is : (printing : BatchPrinting) (all : List TextResults) → HasJudged batch printing all → judging.kept ≡ count_violations (all_judgments all)
  kept_is printing all has = counted ∙ has.counts.violations

  -- these are results of it
  abbrev results_by : List (List ℕ) → List Judgment → TextResults
  results_by pieces judgments = record { name = name; is_unread = false; pieces = pieces; judgments = judgments }

  of_method : (printing : BatchPrinting) (pieces : List (List ℕ)) (judgments : List Judgment) → batch.options.printing ≡ printing →
      ReadsAs bytes (λ stream. AreResults (asked judging.options.printing) stream pieces judgments) → AreResultsOf (asked printing) (readable_text name bytes) (results_by pieces judgments)
  of_method printing pieces judgments prints are =
      (refl, refl, subst (λ (p : BatchPrinting). ReadsAs bytes (λ stream. AreResults (asked p) stream pieces judgments)) (printings ∙ prints) are)

  -- what is printed of it, and the notes on it
  text_is : (printing : BatchPrinting) (pieces : List (List ℕ)) (judgments : List Judgment) → batch.options.printing ≡ printing →
      trace_results_text (printing_by judging) 1 pieces judgments ≡ results_text printing (results_by pieces judgments)
  text_is printing pieces judgments prints = ap (λ (way : TextPrinting). trace_results_text way 1 pieces judgments) (way_is printing prints)

  notes_are : (printing : BatchPrinting) (all : List TextResults) (pieces : List (List ℕ)) (judgments : List Judgment) → HasJudged batch printing all →
      trace_notes (printing_by judging) judging.kept 1 judgments ≡ next_notes printing all (results_by pieces judgments)
  notes_are printing all pieces judgments has = ap₂ (λ (way : TextPrinting) k. trace_notes way k 1 judgments) (way_is printing has.prints) (kept_is printing all has)

  -- it was judged
  pub text_judged : (after : Batch) (tally : Tally) (old new e f : Option (List ℕ)) → HasWrittenAll (printing_by judging) judging.kept bytes old new e f tally → after.options.printing ≡ batch.options.printing →
      after.is_unread ≡ batch.is_unread → ((judgments others : List Judgment) → Counts batch.tally judgments → Counts tally others → Counts after.tally (judgments ++ others)) →
      Judges (readable_text name bytes) batch after old new e f
  text_judged after tally old new e f t same unread added printing all has =
      let results = results_by t.pieces t.judgments in (
        results,
        of_method printing t.pieces t.judgments has.prints (told_results (printing_by judging) judging.kept bytes old new e f tally t),
        record {
          prints = same ∙ has.prints;
          counts = subst (Counts after.tally) (sym (judgments-push all results)) (added (all_judgments all) t.judgments has.counts t.counts);
          unread = unread ∙ has.unread ∙ sym (any_read all results refl);
        },
        subst (Appends old new) (text_is printing t.pieces t.judgments has.prints) t.written,
        subst (Appends e f) (notes_are printing all t.pieces t.judgments has) t.noted,
      )

  -- it was told, and a fault came then
  pub text_told : (tally : Tally) (old new e f : Option (List ℕ)) → HasWrittenAll (printing_by judging) judging.kept bytes old new e f tally → LeavesText (readable_text name bytes) batch old new e f
  text_told tally old new e f t printing all has = (
    results_by t.pieces t.judgments,
    of_method printing t.pieces t.judgments has.prints (told_results (printing_by judging) judging.kept bytes old new e f tally t),
    subst (AppendsPrefix old new) (text_is printing t.pieces t.judgments has.prints) (whole_written old new (trace_results_text (printing_by judging) 1 t.pieces t.judgments) t.written),
    subst (AppendsPrefix e f) (notes_are printing all t.pieces t.judgments has) (whole_written e f (trace_notes (printing_by judging) judging.kept 1 t.judgments) t.noted),
  )

  -- a fault came while it was told
  pub text_left : (old new e f : Option (List ℕ)) → LeavesTraceTexts (printing_by judging) judging.kept bytes old new e f → LeavesText (readable_text name bytes) batch old new e f
  text_left old new e f left printing all has = (
    results_by left.0 left.1,
    of_method printing left.0 left.1 has.prints left.2,
    subst (AppendsPrefix old new) (text_is printing left.0 left.1 has.prints) left.3,
    subst (AppendsPrefix e f) (notes_are printing all left.0 left.1 has) left.4,
  )

-- or before
pub none_of_text : (text : BatchText) (batch : Batch) (old before : Option (List ℕ)) → LeavesText text batch old old before before
none_of_text text batch old before printing all has =
    let one = some_results (asked printing) text in
    (one.0, one.1, none_written old (results_text printing one.0), none_written before (next_notes printing all one.0))

-- ---- a text that can't be read

module _ (name : Option (List ℕ)) (batch : Batch) (line : List ℕ) (lines : line ≡ unread_text_line batch.options.printing name) where
  abbrev unread_results : TextResults
  unread_results = record { name = name; is_unread = true; pieces = []; judgments = [] }

  unread_is : (printing : BatchPrinting) → batch.options.printing ≡ printing → line ≡ unread_text_line printing name
  unread_is printing prints = lines ∙ ap (λ (p : BatchPrinting). unread_text_line p name) prints

  pub left_out : (after : Batch) (old new e f : Option (List ℕ)) → Appends old new (last_text batch.options.printing line) → Appends e f (note_text batch.options.printing line) →
      after.options.printing ≡ batch.options.printing → after.tally ≡ batch.tally → after.is_unread ≡ true → Judges (unreadable_text name) batch after old new e f
  left_out after old new e f written noted same tallies unread printing all has = (
    unread_results,
    (refl, refl, (refl, refl)),
    record {
      prints = same ∙ has.prints;
      counts = subst (Counts after.tally) (sym (judgments-push all unread_results ∙ append-nil (all_judgments all))) (subst (λ (t : Tally). Counts t (all_judgments all)) (sym tallies) has.counts);
      unread = unread ∙ sym (any_more all unread_results refl);
    },
    subst (Appends old new) (ap₂ last_text has.prints (unread_is printing has.prints)) written,
    subst (Appends e f) (ap₂ note_text has.prints (unread_is printing has.prints)) noted,
  )

  -- a prefix of its line was written
  pub left_out_some : (old new e f : Option (List ℕ)) → AppendsPrefix old new (last_text batch.options.printing line) → AppendsPrefix e f (note_text batch.options.printing line) →
      LeavesText (unreadable_text name) batch old new e f
  left_out_some old new e f written noted printing all has = (
    unread_results,
    (refl, refl, (refl, refl)),
    subst (AppendsPrefix old new) (ap₂ last_text has.prints (unread_is printing has.prints)) written,
    subst (AppendsPrefix e f) (ap₂ note_text has.prints (unread_is printing has.prints)) noted,
  )

-- ---- the last line, and the notes

module _ (batch : Batch) (line : List ℕ) (count : ℕ) (old new before mid between after : Option (List ℕ)) (format : BatchFormat) (formats : format ≡ last_format batch.options.printing)
    (lines : line ≡ batch_total_text format batch.options.printing.method batch.tally) (judged : (judgments : List Judgment) → Counts batch.tally judgments → count ≡ count_judged judgments) where
  line_is : (printing : BatchPrinting) (all : List TextResults) → HasJudged batch printing all → line ≡ last_line printing (all_judgments all)
  line_is printing all has =
      lines ∙ ap (λ f. batch_total_text f batch.options.printing.method batch.tally) (formats ∙ ap last_format has.prints)
      ∙ ap (λ (p : BatchPrinting). batch_total_text (last_format printing) p.method batch.tally) has.prints ∙ total_by_counts (last_format printing) printing.method batch.tally (all_judgments all) has.counts

  -- the notes: the last line where it is one, that too few were judged, and that a text can't be read
  abbrev note : List ℕ
  note = note_text batch.options.printing line

  abbrev few : List ℕ
  few = few_text batch.options.printing.required count

  abbrev fault : List ℕ
  fault = read_fault_text batch.is_unread

  end_notes_are : (printing : BatchPrinting) (all : List TextResults) → HasJudged batch printing all → note ++ (few ++ fault) ≡ end_notes printing all
  end_notes_are printing all has =
      ap₂ (λ (a b : List ℕ). a ++ b) (ap₂ note_text has.prints (line_is printing all has))
      (ap₂ (λ (a b : List ℕ). a ++ b) (ap (λ (p : BatchPrinting). few_text p.required count) has.prints ∙ ap (few_text printing.required) (judged (all_judgments all) has.counts)) (ap read_fault_text has.unread))

  pub end_whole : (verdict : Answer) → Appends old new (last_text batch.options.printing line) → Appends before mid note → Appends mid between few → Appends between after fault →
      ((judgments : List Judgment) → Counts batch.tally judgments → verdict ≡ verdict_with batch.is_unread batch.options.printing.required judgments) → EndsBatch batch old new before after verdict
  end_whole verdict written noted told faulty says = record {
    written = λ printing all has. subst (Appends old new) (ap₂ last_text has.prints (line_is printing all has)) written;
    noted = λ printing all has. subst (Appends before after) (end_notes_are printing all has) (Appends-trans before mid after note (few ++ fault) noted (Appends-trans mid between after few fault told faulty));
    says = λ printing all has. says (all_judgments all) has.counts ∙ ap₂ (λ b (p : BatchPrinting). verdict_with b p.required (all_judgments all)) has.unread has.prints;
  }

  end_so_far : (now : Option (List ℕ)) → AppendsPrefix old new (last_text batch.options.printing line) → AppendsPrefix before now (note ++ (few ++ fault)) → LeavesEnd batch old new before now
  end_so_far now written noted = record {
    written = λ printing all has. subst (AppendsPrefix old new) (ap₂ last_text has.prints (line_is printing all has)) written;
    noted = λ printing all has. subst (AppendsPrefix before now) (end_notes_are printing all has) noted;
  }

  -- a fault came while the last line was written, or a note after it
  pub end_some : AppendsPrefix old new (last_text batch.options.printing line) → AppendsPrefix before mid note → LeavesEnd batch old new before mid
  end_some written noted = end_so_far mid written (prefix_of_more before mid note (few ++ fault) noted)

  pub end_noted : Appends old new (last_text batch.options.printing line) → Appends before mid note → AppendsPrefix mid between few → LeavesEnd batch old new before between
  end_noted written noted told =
      end_so_far between (whole_written old new (last_text batch.options.printing line) written) (prefix_after before mid between note (few ++ fault) noted (prefix_of_more mid between few fault told))

  pub end_told : Appends old new (last_text batch.options.printing line) → Appends before mid note → Appends mid between few → AppendsPrefix between after fault → LeavesEnd batch old new before after
  end_told written noted told faulty =
      end_so_far after (whole_written old new (last_text batch.options.printing line) written) (prefix_after before mid after note (few ++ fault) noted (prefix_after mid between after few fault told faulty))

pub end_none : (batch : Batch) (old before : Option (List ℕ)) → LeavesEnd batch old old before before
end_none batch old before = record {
  written = λ printing all has. none_written old (last_text printing (last_line printing (all_judgments all)));
  noted = λ printing all has. none_written before (end_notes printing all);
}
