use Rattle.std.proofs.Common.{◌++◌, string_bytes}
use Rattle.trace_explanation.proofs.TextFacts.{grown, grown-last}
use Rattle.log_reports.specs.ValueTexts.{elimination_words, value_read_words, source_words}
use Rattle.log_reports.proofs.value_rendering.push_sentence.Goals as goal

pub returns : goal.returns
returns c =
    let sources = c.args.sources.now in
    let old = string_bytes c.args.text.now in
    let first = string_bytes c.push_value_read.new.text in
    let second = string_bytes c.push_elimination.new.text in
    let two = grown old (value_read_words c.args.tags.now sources) (elimination_words sources) first second c.in_ok-push_value_read.ensures c.in_ok-push_elimination.ensures in
    grown-last c.push_source_words.result old (value_read_words c.args.tags.now sources ++ elimination_words sources) (source_words c.args.tags.now sources.source) second (string_bytes c.push_source_words.new.text) two
    c.push_source_words.ensures
