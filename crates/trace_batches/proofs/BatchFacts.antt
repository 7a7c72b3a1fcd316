-- Lemmas on the way of a text of a batch: while it is read, at its end, and what is left of a fault.
use Rattle.std.proofs.Common.{◌≡◌, ℕ, suc, ◌+◌, List, [], ◌++◌, length, take, drop, map, None, Some, IfSome, refl, ap, ap₂, sym, subst, ◌∙◌, arith, append_assoc}
use Rattle.std.specs.Prelude.{Option}
use Rattle.std.specs.Global.{Vec}
use Rattle.std.specs.Io.KnownBytes.{Appends, Consumes, IsAtEnd, prepend_known}
use Rattle.tso_ops.specs.Values.{rows}
use Rattle.std.proofs.KnownBytes.{Appends-nil, Appends-trans, Consumes-nil, Consumes-trans, Consumes-whole}
use Rattle.std.proofs.lemmas.List.{append-nil, take-append-drop, take-map}
use Rattle.trace_streams.specs.StreamSplitters.{StreamSplitterValue, Cuts, IsAt}
use Rattle.trace_streams.specs.TraceTexts.{AreTraceTexts, IsSplit, last_trace_text}
use Rattle.trace_streams.proofs.TraceTextFacts.{cut_at_start, cut_joined, some_cut}
use Rattle.text_streams.specs.Readings.{ReadsAs}
use Rattle.trace_streams.specs.Limits.{trace_read_limit}
use Rattle.text_streams.specs.Streams.{AppendsPrefix}
use Rattle.text_streams.proofs.ReadingFacts.{reads_whole}
use Rattle.trace_batches.specs.declared.judgments.Judgment.{Judgment}
use Rattle.trace_batches.specs.declared.questions.BatchQuestion.{BatchQuestion}
use Rattle.trace_batches.specs.declared.tallies.Tally.{Tally}
use Rattle.trace_batches.specs.Batches.{AreResults, asked, Counts, TextPrinting, count_violations, trace_notes, trace_results_text}
use Rattle.trace_batches.specs.Judgments.{AreJudgments}
use Rattle.trace_batches.specs.Internal.Progress.{HasWrittenAll, HasWrittenSoFar, LeavesTraceTexts, WroteAll, WroteSome}
use Rattle.trace_batches.proofs.JobFacts.{AreJudgments-append, kept_texts, trace_notes-append, trace_results_text-append}
use Rattle.trace_batches.proofs.JudgmentFacts.{firsts, judgments_of_firsts, some_judgments}
use Rattle.text_streams.proofs.StreamFacts.{prefix_after, prefix_of_more, whole_written}

-- ---- what is left of a text

-- a prefix of what is printed of the first trace texts
of_reader : (way : TextPrinting) (kept : ℕ) (remaining old new before errors : Option (List ℕ)) (stream : List ℕ) (told untold : List (List ℕ)) (judgments : List Judgment) →
    IfSome remaining (λ bytes. stream ≡ bytes) → AreTraceTexts stream (told ++ untold) → AreJudgments (asked way.printing) told judgments → AppendsPrefix old new (trace_results_text way 1 told judgments) →
    AppendsPrefix before errors (trace_notes way kept 1 judgments) → LeavesTraceTexts way kept remaining old new before errors
of_reader way kept remaining old new before errors stream told untold judgments all are_trace_texts are_judgments written noted =
    let more = some_judgments (asked way.printing) untold in
    let pieces = told ++ untold in
    let whole = judgments ++ more.0 in
    let first = trace_results_text way 1 told judgments in
    let others = trace_results_text way (1 + length judgments) untold more.0 in
    let notes = trace_notes way (kept + count_violations judgments) (1 + length judgments) more.0 in
    let are : AreResults (asked way.printing) stream pieces whole = record { are_trace_texts = are_trace_texts; are_judgments = AreJudgments-append (asked way.printing) told untold judgments more.0 are_judgments more.1 } in (
      pieces,
      whole,
      reads_whole (λ s. AreResults (asked way.printing) s pieces whole) remaining stream all are,
      subst (AppendsPrefix old new) (sym (trace_results_text-append way 1 told untold judgments more.0 are_judgments)) (prefix_of_more old new first others written),
      subst (AppendsPrefix before errors) (sym (trace_notes-append way kept 1 judgments more.0)) (prefix_of_more before errors (trace_notes way kept 1 judgments) notes noted),
    )

-- what was not read yet
later_of : (remaining now : Option (List ℕ)) (bytes : List ℕ) → Consumes remaining now bytes → (later : List ℕ) × IfSome remaining (λ all. bytes ++ later ≡ all)
later_of None now bytes taken = ([], tt)
later_of (Some all) None bytes taken = absurd taken
later_of (Some all) (Some rest) bytes taken = (rest, sym taken)

left_of_reader : (way : TextPrinting) (kept : ℕ) (remaining now old new before errors : Option (List ℕ)) (bytes rest : List ℕ) (told untold : List (List ℕ)) (judgments : List Judgment) →
    Consumes remaining now bytes → IsSplit bytes (told ++ untold) rest → AreJudgments (asked way.printing) told judgments → AppendsPrefix old new (trace_results_text way 1 told judgments) →
    AppendsPrefix before errors (trace_notes way kept 1 judgments) → LeavesTraceTexts way kept remaining old new before errors
left_of_reader way kept remaining now old new before errors bytes rest told untold judgments taken cut are_judgments written noted =
    let later = later_of remaining now bytes taken in
    let more = some_cut later.0 rest cut.no_end.0 cut.no_end.1 in
    let joined = cut_joined bytes later.0 rest more.1 (told ++ untold) more.0 cut more.2 in
    let others = untold ++ (more.0 ++ last_trace_text more.1) in
    let same : ((told ++ untold) ++ more.0) ++ last_trace_text more.1 ≡ told ++ others =
    append_assoc (told ++ untold) more.0 (last_trace_text more.1) ∙ append_assoc told untold (more.0 ++ last_trace_text more.1) in
    of_reader way kept remaining old new before errors (bytes ++ later.0) told others judgments later.1
    (record { ended = (told ++ untold) ++ more.0; rest = more.1; cut = joined; trace_texts_are = sym same }) are_judgments written noted

-- ---- while the stream is read

pub stands_at_start : (way : TextPrinting) (kept : ℕ) (remaining old before : Option (List ℕ)) (splitter : StreamSplitterValue) (tally : Tally) → splitter.limit ≡ trace_read_limit → IsAt splitter [] → Counts tally [] →
    HasWrittenSoFar way kept remaining remaining old old before before splitter tally
stands_at_start way kept remaining old before splitter tally limit at counts = record {
  bytes = [];
  taken = Consumes-nil remaining;
  ended = [];
  rest = [];
  cut = cut_at_start;
  limit = limit;
  at = at;
  judgments = [];
  are_judgments = tt;
  counts = counts;
  written = Appends-nil old;
  noted = Appends-nil before;
}

-- a fault before more is written
pub stands_left : (way : TextPrinting) (kept : ℕ) (remaining now old new before errors : Option (List ℕ)) (splitter : StreamSplitterValue) (tally : Tally) →
    HasWrittenSoFar way kept remaining now old new before errors splitter tally → LeavesTraceTexts way kept remaining old new before errors
stands_left way kept remaining now old new before errors splitter tally s =
    left_of_reader way kept remaining now old new before errors s.bytes s.rest s.ended [] s.judgments s.taken (subst (λ es. IsSplit s.bytes es s.rest) (sym (append-nil s.ended)) s.cut) s.are_judgments
    (whole_written old new (trace_results_text way 1 s.ended s.judgments) s.written) (whole_written before errors (trace_notes way kept 1 s.judgments) s.noted)

-- the number of the next trace text
next_trace_text : (tally : Tally) (judgments : List Judgment) → Counts tally judgments → suc tally.traces ≡ 1 + length judgments
next_trace_text tally judgments counts = let traces = counts.traces in omega (arith, traces)

-- what is printed of more trace texts
texts_after : (way : TextPrinting) (tally : Tally) (pieces others : List (List ℕ)) (judgments more : List Judgment) → Counts tally judgments → AreJudgments (asked way.printing) pieces judgments →
    trace_results_text way 1 pieces judgments ++ trace_results_text way (suc tally.traces) others more ≡ trace_results_text way 1 (pieces ++ others) (judgments ++ more)
texts_after way tally pieces others judgments more counts are =
    ap (λ n. trace_results_text way 1 pieces judgments ++ trace_results_text way n others more) (next_trace_text tally judgments counts) ∙ sym (trace_results_text-append way 1 pieces others judgments more are)

-- the notes on more trace texts
notes_after : (way : TextPrinting) (kept : ℕ) (tally : Tally) (judgments more : List Judgment) → Counts tally judgments →
    trace_notes way kept 1 judgments ++ trace_notes way (kept + tally.violations) (suc tally.traces) more ≡ trace_notes way kept 1 (judgments ++ more)
notes_after way kept tally judgments more counts =
    ap₂ (λ k n. trace_notes way kept 1 judgments ++ trace_notes way k n more) (ap (λ n. kept + n) counts.violations) (next_trace_text tally judgments counts)
    ∙ sym (trace_notes-append way kept 1 judgments more)

noted_more : (way : TextPrinting) (kept : ℕ) (tally : Tally) (judgments more : List Judgment) (before mid after : Option (List ℕ)) → Counts tally judgments →
    Appends before mid (trace_notes way kept 1 judgments) → Appends mid after (trace_notes way (kept + tally.violations) (suc tally.traces) more) →
    Appends before after (trace_notes way kept 1 (judgments ++ more))
noted_more way kept tally judgments more before mid after counts first second =
    subst (Appends before after) (notes_after way kept tally judgments more counts)
    (Appends-trans before mid after (trace_notes way kept 1 judgments) (trace_notes way (kept + tally.violations) (suc tally.traces) more) first second)

some_noted_more : (way : TextPrinting) (kept : ℕ) (tally : Tally) (judgments more : List Judgment) (before mid after : Option (List ℕ)) → Counts tally judgments →
    Appends before mid (trace_notes way kept 1 judgments) → AppendsPrefix mid after (trace_notes way (kept + tally.violations) (suc tally.traces) more) →
    AppendsPrefix before after (trace_notes way kept 1 (judgments ++ more))
some_noted_more way kept tally judgments more before mid after counts first second =
    subst (AppendsPrefix before after) (notes_after way kept tally judgments more counts)
    (prefix_after before mid after (trace_notes way kept 1 judgments) (trace_notes way (kept + tally.violations) (suc tally.traces) more) first second)

-- what was kept of these trace texts, and of the first of them
firsts_are : (limit : ℕ) (pieces : List (Vec ℕ)) (ended : List (List ℕ)) → limit ≡ trace_read_limit → rows pieces ≡ map (λ piece. take limit piece) ended → rows pieces ≡ firsts ended
firsts_are limit pieces ended limit_is are_rows = are_rows ∙ ap (λ n. map (λ (piece : List ℕ). take n piece) ended) limit_is

some_firsts_are : (limit count : ℕ) (pieces : List (Vec ℕ)) (ended : List (List ℕ)) → limit ≡ trace_read_limit → rows pieces ≡ map (λ piece. take limit piece) ended → take count (rows pieces) ≡ firsts (take count ended)
some_firsts_are limit count pieces ended limit_is are_rows = ap (take count) (firsts_are limit pieces ended limit_is are_rows) ∙ take-map (λ piece. take trace_read_limit piece) count ended

-- what is said and printed of what was kept of trace texts is said and printed of them
said_of_kept : (question : BatchQuestion) (kept pieces : List (List ℕ)) (judgments : List Judgment) → kept ≡ firsts pieces → AreJudgments question kept judgments → AreJudgments question pieces judgments
said_of_kept question kept pieces judgments same are = judgments_of_firsts question pieces judgments (subst (λ ps. AreJudgments question ps judgments) same are)

printed_of_kept : (way : TextPrinting) (number : ℕ) (kept pieces : List (List ℕ)) (judgments : List Judgment) → kept ≡ firsts pieces → AreJudgments (asked way.printing) kept judgments →
    trace_results_text way number kept judgments ≡ trace_results_text way number pieces judgments
printed_of_kept way number kept pieces judgments same are =
    ap (λ ps. trace_results_text way number ps judgments) same ∙ kept_texts way number pieces judgments (said_of_kept (asked way.printing) kept pieces judgments same are)

-- more trace texts were printed, or a prefix of this, of which this was kept
written_more : (way : TextPrinting) (tally : Tally) (pieces kept others : List (List ℕ)) (judgments more : List Judgment) (old mid new : Option (List ℕ)) → Counts tally judgments → AreJudgments (asked way.printing) pieces judgments →
    kept ≡ firsts others → AreJudgments (asked way.printing) kept more → Appends old mid (trace_results_text way 1 pieces judgments) → Appends mid new (trace_results_text way (suc tally.traces) kept more) →
    Appends old new (trace_results_text way 1 (pieces ++ others) (judgments ++ more))
written_more way tally pieces kept others judgments more old mid new counts are same also first second =
    subst (Appends old new) (texts_after way tally pieces others judgments more counts are)
    (Appends-trans old mid new (trace_results_text way 1 pieces judgments) (trace_results_text way (suc tally.traces) others more) first
    (subst (Appends mid new) (printed_of_kept way (suc tally.traces) kept others more same also) second))

prefix_more : (way : TextPrinting) (tally : Tally) (pieces kept others : List (List ℕ)) (judgments more : List Judgment) (old mid new : Option (List ℕ)) → Counts tally judgments → AreJudgments (asked way.printing) pieces judgments →
    kept ≡ firsts others → AreJudgments (asked way.printing) kept more → Appends old mid (trace_results_text way 1 pieces judgments) → AppendsPrefix mid new (trace_results_text way (suc tally.traces) kept more) →
    AppendsPrefix old new (trace_results_text way 1 (pieces ++ others) (judgments ++ more))
prefix_more way tally pieces kept others judgments more old mid new counts are same also first second =
    subst (AppendsPrefix old new) (texts_after way tally pieces others judgments more counts are)
    (prefix_after old mid new (trace_results_text way 1 pieces judgments) (trace_results_text way (suc tally.traces) others more) first
    (subst (AppendsPrefix mid new) (printed_of_kept way (suc tally.traces) kept others more same also) second))

-- a chunk was read, cut and told
pub chunk_told : (way : TextPrinting) (kept : ℕ) (remaining before now old mid new e f g : Option (List ℕ)) (splitter after : StreamSplitterValue) (tally counted : Tally) (chunk : List ℕ) (pieces : List (Vec ℕ)) →
    HasWrittenSoFar way kept remaining before old mid e f splitter tally → Consumes before now chunk → ((bytes : List ℕ) → IsAt splitter bytes → Cuts splitter after bytes chunk pieces) →
    WroteAll way kept tally counted (rows pieces) mid new f g → HasWrittenSoFar way kept remaining now old new e g after counted
chunk_told way number remaining before now old mid new e f g splitter after tally counted chunk pieces s taken cuts wrote =
    let c = cuts s.rest s.at in
    let kept = firsts_are splitter.limit pieces c.ended s.limit c.kept in
    let are = wrote.are_judgments in
    record {
      bytes = s.bytes ++ chunk;
      taken = Consumes-trans remaining before now s.bytes chunk s.taken taken;
      ended = s.ended ++ c.ended;
      rest = c.rest;
      cut = cut_joined s.bytes chunk s.rest c.rest s.ended c.ended s.cut c.cut;
      limit = c.limit ∙ s.limit;
      at = c.now;
      judgments = s.judgments ++ wrote.judgments;
      are_judgments = AreJudgments-append (asked way.printing) s.ended c.ended s.judgments wrote.judgments s.are_judgments (said_of_kept (asked way.printing) (rows pieces) c.ended wrote.judgments kept are);
      counts = wrote.counts s.judgments s.counts;
      written = written_more way tally s.ended (rows pieces) c.ended s.judgments wrote.judgments old mid new s.counts s.are_judgments kept are s.written wrote.written;
      noted = noted_more way number tally s.judgments wrote.judgments e f g s.counts s.noted wrote.noted;
    }

-- a fault while it was told
pub chunk_left : (way : TextPrinting) (kept : ℕ) (remaining before now old mid new e f g : Option (List ℕ)) (splitter after : StreamSplitterValue) (tally : Tally) (chunk : List ℕ) (pieces : List (Vec ℕ)) →
    HasWrittenSoFar way kept remaining before old mid e f splitter tally → Consumes before now chunk → ((bytes : List ℕ) → IsAt splitter bytes → Cuts splitter after bytes chunk pieces) →
    WroteSome way kept tally (rows pieces) mid new f g → LeavesTraceTexts way kept remaining old new e g
chunk_left way number remaining before now old mid new e f g splitter after tally chunk pieces s taken cuts wrote =
    let c = cuts s.rest s.at in
    let told = take wrote.count c.ended in
    let untold = drop wrote.count c.ended in
    let kept = some_firsts_are splitter.limit wrote.count pieces c.ended s.limit c.kept in
    let are = wrote.are_judgments in
    let same : s.ended ++ c.ended ≡ (s.ended ++ told) ++ untold = ap (λ es. s.ended ++ es) (sym (take-append-drop wrote.count c.ended)) ∙ sym (append_assoc s.ended told untold) in
    left_of_reader way number remaining now old new e g (s.bytes ++ chunk) c.rest (s.ended ++ told) untold (s.judgments ++ wrote.judgments) (Consumes-trans remaining before now s.bytes chunk s.taken taken)
    (subst (λ es. IsSplit (s.bytes ++ chunk) es c.rest) same (cut_joined s.bytes chunk s.rest c.rest s.ended c.ended s.cut c.cut))
    (AreJudgments-append (asked way.printing) s.ended told s.judgments wrote.judgments s.are_judgments (said_of_kept (asked way.printing) (take wrote.count (rows pieces)) told wrote.judgments kept are))
    (prefix_more way tally s.ended (take wrote.count (rows pieces)) told s.judgments wrote.judgments old mid new s.counts s.are_judgments kept are s.written wrote.written)
    (some_noted_more way number tally s.judgments wrote.judgments e f g s.counts s.noted wrote.noted)

-- the first of these bytes
pub front_taken : (bytes : List ℕ) (n : ℕ) (now : Option (List ℕ)) → Consumes (prepend_known bytes now) (prepend_known (drop n bytes) now) (take n bytes)
front_taken bytes n None = tt
front_taken bytes n (Some rest) = ap (λ t. t ++ rest) (sym (take-append-drop n bytes)) ∙ append_assoc (take n bytes) (drop n bytes) rest

-- the same of a reader that has other bytes left
stands_taken : (way : TextPrinting) (kept : ℕ) (remaining before now old new e f : Option (List ℕ)) (splitter : StreamSplitterValue) (tally : Tally) (s : HasWrittenSoFar way kept remaining before old new e f splitter tally) →
    Consumes remaining now s.bytes → HasWrittenSoFar way kept remaining now old new e f splitter tally
stands_taken way kept remaining before now old new e f splitter tally s taken = record {
  bytes = s.bytes;
  taken = taken;
  ended = s.ended;
  rest = s.rest;
  cut = s.cut;
  limit = s.limit;
  at = s.at;
  judgments = s.judgments;
  are_judgments = s.are_judgments;
  counts = s.counts;
  written = s.written;
  noted = s.noted;
}

-- a chunk was read, of which nothing is cut yet
pub stands_given : (way : TextPrinting) (kept : ℕ) (remaining before now old new e f : Option (List ℕ)) (splitter : StreamSplitterValue) (tally : Tally) (chunk : List ℕ) →
    HasWrittenSoFar way kept remaining before old new e f splitter tally → Consumes before now chunk → HasWrittenSoFar way kept remaining (prepend_known chunk now) old new e f splitter tally
stands_given way kept remaining before now old new e f splitter tally chunk s taken =
    stands_taken way kept remaining before (prepend_known chunk now) old new e f splitter tally s (given remaining before now s.bytes chunk s.taken taken)
  where
    given : (remaining before now : Option (List ℕ)) (bytes chunk : List ℕ) → Consumes remaining before bytes → Consumes before now chunk → Consumes remaining (prepend_known chunk now) bytes
    given None before now bytes chunk first second = tt
    given (Some all) None now bytes chunk first second = absurd first
    given (Some all) (Some xs) None bytes chunk first second = absurd second
    given (Some all) (Some xs) (Some ys) bytes chunk first second = first ∙ ap (λ t. bytes ++ t) second

-- a read that gave nothing
pub stands_later : (way : TextPrinting) (kept : ℕ) (remaining before now old new e f : Option (List ℕ)) (splitter : StreamSplitterValue) (tally : Tally) (chunk : List ℕ) (count : ℕ) → count ≡ 0 →
    HasWrittenSoFar way kept remaining before old new e f splitter tally → Consumes before now (take count chunk) → HasWrittenSoFar way kept remaining now old new e f splitter tally
stands_later way kept remaining before now old new e f splitter tally chunk count none s taken =
    stands_taken way kept remaining before now old new e f splitter tally s
    (subst (Consumes remaining now) (ap (λ n. s.bytes ++ take n chunk) none ∙ append-nil s.bytes) (Consumes-trans remaining before now s.bytes (take count chunk) s.taken taken))

-- ---- at the end of the stream

all_read : (remaining now : Option (List ℕ)) (bytes : List ℕ) → Consumes remaining now bytes → IsAtEnd now → IfSome remaining (λ all. bytes ≡ all)
all_read remaining now bytes taken end = Consumes-whole remaining now bytes (λ all. bytes ≡ all) taken end refl

pub all_taken : (way : TextPrinting) (kept : ℕ) (remaining now old new e f : Option (List ℕ)) (splitter : StreamSplitterValue) (tally : Tally) → HasWrittenSoFar way kept remaining now old new e f splitter tally → IsAtEnd now →
    IfSome remaining (λ all. Consumes remaining now all)
all_taken way kept remaining now old new e f splitter tally s end = Consumes-whole remaining now s.bytes (λ all. Consumes remaining now all) s.taken end s.taken

trace_texts_at_end : (stream rest : List ℕ) (ended : List (List ℕ)) → IsSplit stream ended rest → AreTraceTexts stream (ended ++ last_trace_text rest)
trace_texts_at_end stream rest ended cut = record { ended = ended; rest = rest; cut = cut; trace_texts_are = refl }

-- the last trace text was told
pub last_told : (way : TextPrinting) (kept : ℕ) (remaining now old mid new e f g : Option (List ℕ)) (splitter : StreamSplitterValue) (tally counted : Tally) (pieces : List (Vec ℕ)) →
    HasWrittenSoFar way kept remaining now old mid e f splitter tally → IsAtEnd now → ((rest : List ℕ) → IsAt splitter rest → rows pieces ≡ map (λ piece. take splitter.limit piece) (last_trace_text rest)) →
    WroteAll way kept tally counted (rows pieces) mid new f g → HasWrittenAll way kept remaining old new e g counted
last_told way number remaining now old mid new e f g splitter tally counted pieces s end last wrote =
    let kept = firsts_are splitter.limit pieces (last_trace_text s.rest) s.limit (last s.rest s.at) in
    let are = wrote.are_judgments in
    record {
      stream = s.bytes;
      all = all_read remaining now s.bytes s.taken end;
      pieces = s.ended ++ last_trace_text s.rest;
      judgments = s.judgments ++ wrote.judgments;
      are_results = record {
        are_trace_texts = trace_texts_at_end s.bytes s.rest s.ended s.cut;
        are_judgments = AreJudgments-append (asked way.printing) s.ended (last_trace_text s.rest) s.judgments wrote.judgments s.are_judgments (said_of_kept (asked way.printing) (rows pieces) (last_trace_text s.rest) wrote.judgments kept are);
      };
      counts = wrote.counts s.judgments s.counts;
      written = written_more way tally s.ended (rows pieces) (last_trace_text s.rest) s.judgments wrote.judgments old mid new s.counts s.are_judgments kept are s.written wrote.written;
      noted = noted_more way number tally s.judgments wrote.judgments e f g s.counts s.noted wrote.noted;
    }

-- a fault while it was told
pub last_left : (way : TextPrinting) (kept : ℕ) (remaining now old mid new e f g : Option (List ℕ)) (splitter : StreamSplitterValue) (tally : Tally) (pieces : List (Vec ℕ)) →
    HasWrittenSoFar way kept remaining now old mid e f splitter tally → IsAtEnd now → ((rest : List ℕ) → IsAt splitter rest → rows pieces ≡ map (λ piece. take splitter.limit piece) (last_trace_text rest)) →
    WroteSome way kept tally (rows pieces) mid new f g → LeavesTraceTexts way kept remaining old new e g
last_left way number remaining now old mid new e f g splitter tally pieces s end last wrote =
    let told = take wrote.count (last_trace_text s.rest) in
    let untold = drop wrote.count (last_trace_text s.rest) in
    let kept = some_firsts_are splitter.limit wrote.count pieces (last_trace_text s.rest) s.limit (last s.rest s.at) in
    let are = wrote.are_judgments in
    let same : s.ended ++ last_trace_text s.rest ≡ (s.ended ++ told) ++ untold =
    ap (λ es. s.ended ++ es) (sym (take-append-drop wrote.count (last_trace_text s.rest))) ∙ sym (append_assoc s.ended told untold) in
    of_reader way number remaining old new e g s.bytes (s.ended ++ told) untold (s.judgments ++ wrote.judgments) (all_read remaining now s.bytes s.taken end)
    (subst (AreTraceTexts s.bytes) same (trace_texts_at_end s.bytes s.rest s.ended s.cut))
    (AreJudgments-append (asked way.printing) s.ended told s.judgments wrote.judgments s.are_judgments (said_of_kept (asked way.printing) (take wrote.count (rows pieces)) told wrote.judgments kept are))
    (prefix_more way tally s.ended (take wrote.count (rows pieces)) told s.judgments wrote.judgments old mid new s.counts s.are_judgments kept are s.written wrote.written)
    (some_noted_more way number tally s.judgments wrote.judgments e f g s.counts s.noted wrote.noted)

-- ---- the results of a text

-- what was told
pub told_results : (way : TextPrinting) (kept : ℕ) (remaining old new e f : Option (List ℕ)) (tally : Tally) (t : HasWrittenAll way kept remaining old new e f tally) →
    ReadsAs remaining (λ stream. AreResults (asked way.printing) stream t.pieces t.judgments)
told_results way kept remaining old new e f tally t = reads_whole (λ s. AreResults (asked way.printing) s t.pieces t.judgments) remaining t.stream t.all t.are_results
