-- Lemmas on the results of texts: some and no others, and those of more texts.
use Rattle.std.proofs.Common.{◌≡◌, ℕ, ◌+◌, Bool, true, false, ◌||◌, List, [], ◌∷◌, ◌++◌, None, Some, IfSome, refl, ap, ap₂, arith, sym, subst, unwrap_or, ◌∙◌, append_assoc}
use Rattle.std.specs.Prelude.{Option}
use Rattle.std.proofs.lemmas.List.{append-nil}
use Rattle.text_streams.proofs.ReadingFacts.{reads_whole}
use Rattle.request_options.specs.declared.batches.BatchMethod.TheVariants.{Judge}
use Rattle.request_options.specs.declared.batches.BatchPrinting.{BatchPrinting}
use Rattle.trace_batches.specs.declared.judgments.Judgment.{Judgment}
use Rattle.trace_batches.specs.declared.questions.BatchQuestion.{BatchQuestion}
use Rattle.trace_batches.specs.Batches.{AreFound, AreResults, AreResultsOf, AreResultsOfAll, BatchText, TextResults, all_judgments, any_unread, count_violations, known_texts, next_notes, readable_text, results_notes, results_notes_of_all, results_text, results_texts}
use Rattle.trace_batches.specs.Judgments.{AreJudgments, asking}
use Rattle.trace_batches.proofs.JobFacts.{violations-append}
use Rattle.trace_batches.proofs.JudgmentFacts.{one_list_of_judgments, some_judgments}
use Rattle.trace_streams.proofs.TraceTextFacts.{one_list_of_trace_texts, some_trace_texts}

pub results-append : (question : BatchQuestion) (texts more : List BatchText) (all others : List TextResults) → AreResultsOfAll question texts all → AreResultsOfAll question more others →
    AreResultsOfAll question (texts ++ more) (all ++ others)
results-append question [] more [] others first second = second
results-append question (text ∷ texts) more (results ∷ all) others first second = (first.0, results-append question texts more all others first.1 second)
results-append question texts more all others first second = absurd first

-- what is found of a text
some_found : (question : BatchQuestion) (is_unread : Bool) (bytes : Option (List ℕ)) → (pieces : List (List ℕ)) × (judgments : List Judgment) × AreFound question is_unread bytes pieces judgments
some_found question true bytes = ([], [], (refl, refl))
some_found question false bytes =
    let stream = unwrap_or bytes [] in
    let pieces = some_trace_texts stream in
    let judgments = some_judgments question pieces.0 in
    (pieces.0, judgments.0, reads_whole (λ s. AreResults question s pieces.0 judgments.0) bytes stream (own bytes) (record { are_trace_texts = pieces.1; are_judgments = judgments.1 }))
  where
    own : (bytes : Option (List ℕ)) → IfSome bytes (λ all. unwrap_or bytes [] ≡ all)
    own None = tt
    own (Some all) = refl

pub some_results : (question : BatchQuestion) (text : BatchText) → (results : TextResults) × AreResultsOf question text results
some_results question text =
    let found = some_found question text.is_unread text.bytes in
    (record { name = text.name; is_unread = text.is_unread; pieces = found.0; judgments = found.1 }, (refl, refl, found.2))

pub some_results_of_all : (question : BatchQuestion) (texts : List BatchText) → (all : List TextResults) × AreResultsOfAll question texts all
some_results_of_all question [] = ([], tt)
some_results_of_all question (text ∷ texts) =
    let one = some_results question text in
    let rest = some_results_of_all question texts in
    (one.0 ∷ rest.0, (one.1, rest.1))

same_results : (a b : TextResults) → a.name ≡ b.name → a.is_unread ≡ b.is_unread → a.pieces ≡ b.pieces → a.judgments ≡ b.judgments → a ≡ b
same_results a b name unread pieces judgments = same a.name b.name a.is_unread b.is_unread a.pieces b.pieces a.judgments b.judgments name unread pieces judgments
  where
    same : (n m : Option (List ℕ)) (u v : Bool) (ps qs : List (List ℕ)) (js ks : List Judgment) → n ≡ m → u ≡ v → ps ≡ qs → js ≡ ks →
        ◌≡◌ {A = TextResults} (record { name = n; is_unread = u; pieces = ps; judgments = js }) (record { name = m; is_unread = v; pieces = qs; judgments = ks })
    same n m u v ps qs js ks names unread pieces judgments = rw (names, unread, pieces, judgments) refl

one_results : (explains : Bool) (name : Option (List ℕ)) (stream : List ℕ) (a b : TextResults) → AreResultsOf (asking Judge explains) (readable_text name (Some stream)) a → AreResultsOf (asking Judge explains) (readable_text name (Some stream)) b → a ≡ b
one_results explains name stream a b p q =
    let first = p.2.of_all in
    let second = q.2.of_all in
    let pieces = one_list_of_trace_texts stream a.pieces b.pieces first.are_trace_texts second.are_trace_texts in
    let are = subst (λ (ps : List (List ℕ)). AreJudgments (asking Judge explains) ps a.judgments) pieces first.are_judgments in
    same_results a b (p.0 ∙ sym q.0) (p.1 ∙ sym q.1) pieces (one_list_of_judgments explains b.pieces a.judgments b.judgments are second.are_judgments)

pub one_results_of_all : (explains : Bool) (streams : List (Option (List ℕ) × List ℕ)) (all others : List TextResults) → AreResultsOfAll (asking Judge explains) (known_texts streams) all → AreResultsOfAll (asking Judge explains) (known_texts streams) others → all ≡ others
one_results_of_all explains [] [] [] p q = refl
one_results_of_all explains [] [] (b ∷ others) p q = absurd q
one_results_of_all explains [] (a ∷ all) others p q = absurd p
one_results_of_all explains (s ∷ streams) [] others p q = absurd p
one_results_of_all explains (s ∷ streams) (a ∷ all) [] p q = absurd q
one_results_of_all explains (s ∷ streams) (a ∷ all) (b ∷ others) p q = ap₂ (λ x xs. x ∷ xs) (one_results explains s.0 s.1 a b p.0 q.0) (one_results_of_all explains streams all others p.1 q.1)

pub texts-append : (printing : BatchPrinting) (all others : List TextResults) → results_texts printing (all ++ others) ≡ results_texts printing all ++ results_texts printing others
texts-append printing [] others = refl
texts-append printing (results ∷ all) others =
    ap (λ t. results_text printing results ++ t) (texts-append printing all others) ∙ sym (append_assoc (results_text printing results) (results_texts printing all) (results_texts printing others))

judgments-append : (all others : List TextResults) → all_judgments (all ++ others) ≡ all_judgments all ++ all_judgments others
judgments-append [] others = refl
judgments-append (results ∷ all) others =
    ap (λ js. results.judgments ++ js) (judgments-append all others) ∙ sym (append_assoc results.judgments (all_judgments all) (all_judgments others))

pub judgments-push : (all : List TextResults) (results : TextResults) → all_judgments (all ++ results ∷ []) ≡ all_judgments all ++ results.judgments
judgments-push all results = judgments-append all (results ∷ []) ∙ ap (λ js. all_judgments all ++ js) (append-nil results.judgments)

notes-append : (printing : BatchPrinting) (kept : ℕ) (all others : List TextResults) →
    results_notes_of_all printing kept (all ++ others) ≡ results_notes_of_all printing kept all ++ results_notes_of_all printing (kept + count_violations (all_judgments all)) others
notes-append printing kept [] others =
    let none : count_violations [] ≡ 0 = refl in
    ap (λ k. results_notes_of_all printing k others) (omega (arith, none))
notes-append printing kept (results ∷ all) others =
    let next = kept + count_violations results.judgments in
    let both = violations-append results.judgments (all_judgments all) in
    let count : next + count_violations (all_judgments all) ≡ kept + count_violations (results.judgments ++ all_judgments all) = omega (arith, both) in
    let this = results_notes printing kept results in
    let notes = results_notes_of_all printing next all in
    ap (λ t. this ++ t) (notes-append printing next all others) ∙ sym (append_assoc this notes (results_notes_of_all printing (next + count_violations (all_judgments all)) others))
    ∙ ap (λ k. (this ++ notes) ++ results_notes_of_all printing k others) count

-- the notes on more texts
pub notes_later : (printing : BatchPrinting) (all others : List TextResults) →
    results_notes_of_all printing 0 (all ++ others) ≡ results_notes_of_all printing 0 all ++ results_notes_of_all printing (count_violations (all_judgments all)) others
notes_later printing all others =
    notes-append printing 0 all others ∙ ap (λ k. results_notes_of_all printing 0 all ++ results_notes_of_all printing k others) (omega arith)

pub notes_push : (printing : BatchPrinting) (all : List TextResults) (results : TextResults) →
    results_notes_of_all printing 0 (all ++ results ∷ []) ≡ results_notes_of_all printing 0 all ++ next_notes printing all results
notes_push printing all results =
    notes_later printing all (results ∷ []) ∙ ap (λ t. results_notes_of_all printing 0 all ++ t) (append-nil (next_notes printing all results))

-- one text more that is read, or that can't be
pub any_read : (all : List TextResults) (results : TextResults) → results.is_unread ≡ false → any_unread (all ++ results ∷ []) ≡ any_unread all
any_read [] results is = ap (λ b. b || false) is
any_read (other ∷ all) results is = ap (λ b. other.is_unread || b) (any_read all results is)

pub any_more : (all : List TextResults) (results : TextResults) → results.is_unread ≡ true → any_unread (all ++ results ∷ []) ≡ true
any_more [] results is = ap (λ b. b || false) is
any_more (other ∷ all) results is = ap (λ b. other.is_unread || b) (any_more all results is) ∙ or_true other.is_unread
  where
    or_true : (b : Bool) → (b || true) ≡ true
    or_true true = refl
    or_true false = refl
