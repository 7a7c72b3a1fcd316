use Rattle.std.proofs.Common.{◌≡◌, ◌∙◌, ℕ, ap, length, string_bytes, subst, sym}
use Rattle.std.proofs.lemmas.List.{length-map}
use Rattle.outcome_reports.specs.Internal.Counting.{CountsOf, traces_by}
use Rattle.outcome_reports.specs.SeenTraces.{seen_count}
use Rattle.outcome_reports.proofs.CountFacts.{head_of_traces, seen_text_is}
use Rattle.outcome_reports.proofs.counts.SeenCounts.print.Goals as goal

pub returns : goal.returns
returns c = λ setting classes counts.
    let self = c.args.self.now in
    let traces = traces_by setting c.args.traces.now in
    let many : length c.args.traces.now ≡ length traces = sym (length-map c.args.traces.now _) in
    let wide = subst (λ (n : ℕ). CountsOf n classes self) (sym c.requires) counts in
    let seen = c.seen_traces-seen.ensures classes wide ∙ ap (seen_count classes 0) (c.requires ∙ many) in
    seen_text_is c.args.order traces classes (string_bytes c.in_ok-text.text) (string_bytes c.print_lines.new.text) (string_bytes c.write.new.self) c.unreached_word-word.result.now c.seen_traces-seen.result self.unreached self.foreign
    (head_of_traces (string_bytes c.in_ok-text.text) (length c.args.traces.now) (length traces) many c.in_ok-text.ensures.ok) (c.in_ok-print_lines.ensures setting classes counts) c.in_ok-write.ensures.bytes c.unreached_word-word.ensures seen
    counts.unreached counts.foreign
