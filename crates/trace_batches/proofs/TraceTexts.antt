-- What is printed of a batch of the texts of traces one after another is printed of these texts.
use Rattle.std.proofs.Common.{◌≡◌, ℕ, Bool, List, [], ◌∷◌, ◌++◌, map, ap, subst, ◌∙◌}
use Rattle.std.specs.Prelude.{Option, if◌then◌else◌}
use Rattle.std.specs.List.{flat_map}
use Rattle.std.proofs.lemmas.List.{append-nil}
use Rattle.tso_ops.specs.Values.{TraceValue}
use Rattle.tso_text.specs.Printed.{trace_text}
use Rattle.trace_streams.proofs.PrintedTraceTexts.{trace_texts_of_traces}
use Rattle.request_options.specs.declared.batches.BatchPrinting.{BatchPrinting}
use Rattle.trace_batches.specs.declared.judgments.Judgment.{Judgment}
use Rattle.trace_reports.specs.declared.answers.Answer.{Answer}
use Rattle.trace_batches.specs.Batches.{AreResultsOfAll, asked, IsBatch, TextResults, all_judgments, batch_head_text, known_texts, last_line, last_text, trace_results_text, results_text, results_texts, under_name, unread_text_line}
use Rattle.trace_batches.specs.Judgments.{AreJudgments}

pub texts_of_traces : (printing : BatchPrinting) (name : Option (List ℕ)) (traces : List TraceValue) (text notes : List ℕ) (verdict : Answer) →
    IsBatch printing (known_texts ((name, flat_map trace_text traces) ∷ [])) text notes verdict →
    (judgments : List Judgment) × AreJudgments (asked printing) (map trace_text traces) judgments
    × (text ≡ batch_head_text printing ++ (trace_results_text (under_name printing name) 1 (map trace_text traces) judgments ++ last_text printing (last_line printing judgments)))
texts_of_traces printing name traces text notes verdict batch = go batch.all batch.are_results batch.whole
  where
    go : (all : List TextResults) → AreResultsOfAll (asked printing) (known_texts ((name, flat_map trace_text traces) ∷ [])) all →
        text ≡ batch_head_text printing ++ (results_texts printing all ++ last_text printing (last_line printing (all_judgments all))) →
        (judgments : List Judgment) × AreJudgments (asked printing) (map trace_text traces) judgments
        × (text ≡ batch_head_text printing ++ (trace_results_text (under_name printing name) 1 (map trace_text traces) judgments ++ last_text printing (last_line printing judgments)))
    go [] are whole = absurd are
    go (one ∷ two ∷ all) are whole = absurd are.1
    go (one ∷ []) are whole =
        let results = are.0.2.of_all in
        let same = (trace_texts_of_traces traces one.pieces).0 results.are_trace_texts in
        let last = last_text printing (last_line printing one.judgments) in
        let texts = trace_results_text (under_name printing one.name) 1 one.pieces one.judgments in
        let read : results_text printing one ≡ texts =
        ap (λ (b : Bool). if b then last_text printing (unread_text_line printing one.name) else texts) are.0.1 in (
          one.judgments,
          subst (λ (pieces : List (List ℕ)). AreJudgments (asked printing) pieces one.judgments) same results.are_judgments,
          whole
              ∙ ap (λ js. batch_head_text printing ++ (results_text printing one ++ [] ++ last_text printing (last_line printing js))) (append-nil one.judgments)
              ∙ ap (λ t. batch_head_text printing ++ (t ++ last)) (append-nil (results_text printing one))
              ∙ ap (λ t. batch_head_text printing ++ (t ++ last)) read
              ∙ ap (λ (pieces : List (List ℕ)). batch_head_text printing ++ (trace_results_text (under_name printing one.name) 1 pieces one.judgments ++ last)) same
              ∙ ap (λ (n : Option (List ℕ)). batch_head_text printing ++ (trace_results_text (under_name printing n) 1 (map trace_text traces) one.judgments ++ last)) are.0.0,
        )
