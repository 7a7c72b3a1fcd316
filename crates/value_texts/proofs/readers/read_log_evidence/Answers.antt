use Rattle.std.proofs.Common.{◌≡◌, Ok, Err, []}
use Rattle.std.specs.Prelude.{◌≢◌}
use Rattle.line_text.specs.Lines.{parts_of}
use Rattle.line_text.specs.Readings.{read_parts}
use Rattle.line_text.proofs.ReadingFacts.{found_spelled, found_refused, only_spelled}
use Rattle.value_texts.specs.declared.refusals.ValueTextRefusal.TheVariants.{OutOfMemory}
use Rattle.value_texts.specs.Spelling.{SpellsLogEvidence, IsValueTextRefusal}
use Rattle.value_texts.specs.Internal.ReadTexts.{evidence_reading, evidence_answer}
use Rattle.value_texts.proofs.SpellingFacts.{evidence_reader, answer_ok, answer_err, ok_answer, err_answer, match_answer}
use Rattle.value_texts.proofs.readers.read_log_evidence.Goals as goal

pub returns-in-Ok-clause-found : goal.returns-in-Ok-clause-found
returns-in-Ok-clause-found c =
    let names = c.args.names.now in
    let text = c.args.text.now in
    let found = rw c.in-Ok.ensures at c.read.ensures.found in
    ok_answer (SpellsLogEvidence names text) c.read.result
    (found_spelled (evidence_reader names) text (evidence_answer c.read.result) (answer_ok (λ e. read_parts (evidence_reading names) [] (parts_of text) ≡ Ok e) c.read.result found))

pub returns-in-Ok-clause-only : goal.returns-in-Ok-clause-only
returns-in-Ok-clause-only c e spells =
    let names = c.args.names.now in
    let text = c.args.text.now in
    let found = rw c.in-Ok.ensures at c.read.ensures.found in
    let refused = rw c.in-Ok.ensures at c.read.ensures.refused in
    match_answer (λ d. d ≡ e) (λ fault. fault.why ≡ OutOfMemory) c.read.result
    (only_spelled (evidence_reader names) text (evidence_answer c.read.result) (answer_ok (λ d. read_parts (evidence_reading names) [] (parts_of text) ≡ Ok d) c.read.result found)
    (answer_err (λ fault. fault.why ≢ OutOfMemory → read_parts (evidence_reading names) [] (parts_of text) ≡ Err (fault.line, fault.why)) c.read.result refused) e spells)

pub returns-in-Ok-clause-refused : goal.returns-in-Ok-clause-refused
unfolding IsValueTextRefusal
returns-in-Ok-clause-refused c =
    let names = c.args.names.now in
    let text = c.args.text.now in
    let refused = rw c.in-Ok.ensures at c.read.ensures.refused in
    err_answer (λ fault. fault.why ≢ OutOfMemory → IsValueTextRefusal names text fault.line fault.why) c.read.result
    (found_refused (evidence_reader names) text (evidence_answer c.read.result)
    (answer_err (λ fault. fault.why ≢ OutOfMemory → read_parts (evidence_reading names) [] (parts_of text) ≡ Err (fault.line, fault.why)) c.read.result refused))
