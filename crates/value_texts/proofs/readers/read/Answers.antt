use Rattle.std.proofs.Common.{◌≡◌, arith, ap, ◌∙◌, length, suc, ◌+◌, length-append, [], ◌∷◌, Ok}
use Rattle.line_text.specs.Lines.{parts_of}
use Rattle.line_text.specs.Readings.{read_parts}
use Rattle.line_text.proofs.ReadingFacts.{read_parts-line, read_parts-unended, refused_at, ended_found, ended_not}
use Rattle.value_texts.specs.Internal.ReadTexts.{evidence_reading, evidence_answer}
use Rattle.value_texts.proofs.SpellingFacts.{evidence_reader, answer_ended, answer_err, ok_answer, err_answer, unended_found, unended_not}
use Rattle.value_texts.proofs.readers.read.Goals as goal

pub returns-in_default-clause-found : goal.returns-in_default-clause-found
returns-in_default-clause-found c =
    let names = c.args.names.now in
    let lines = c.lines.lines.items in
    ok_answer (λ e. read_parts (evidence_reading names) [] (parts_of c.args.text.now) ≡ Ok e) c.at_end.result
    (unended_found names c.args.text.now c.lines.rest.now lines (evidence_answer c.at_end.result) (answer_ended _ _ c.at_end.result c.at_end.ensures.found)
    (c.lines.invariant.left ∙ read_parts-unended (evidence_reading names) lines c.lines.rest.now c.in_default.ensures.none))

pub returns-in_default-clause-refused : goal.returns-in_default-clause-refused
returns-in_default-clause-refused c =
    let names = c.args.names.now in
    let lines = c.lines.lines.items in
    let fault = c.fault_of-refusal in
    let line = fault.ensures.line (λ e. absurd cc) ∙ c.lines.invariant.count in
    err_answer _ c.at_end.result
    (unended_not names c.args.text.now c.lines.rest.now lines (evidence_answer c.at_end.result) fault.result (answer_err _ c.at_end.result c.at_end.ensures.refused)
    (ap (λ n. (n, fault.result.why)) line ∙ ap (λ w. (suc (length lines), w)) fault.ensures.why)
    (c.lines.invariant.left ∙ read_parts-unended (evidence_reading names) lines c.lines.rest.now c.in_default.ensures.none))

pub returns-in-Err-clause-refused : goal.returns-in-Err-clause-refused
returns-in-Err-clause-refused c =
    let at = c.lines.invariant in
    let names = c.args.names.now in
    let lines = c.lines.lines.items in
    let fault = c.fault_of in
    refused_at (evidence_reader names) c.args.text.now (suc (length lines)) c.in-Err.why fault.result fault.ensures.why (λ other. fault.ensures.line other ∙ at.count)
    (λ other. at.left
    ∙ read_parts-line (evidence_reading names) lines c.lines.rest.now c.in-Some.line.now c.in-Some.after.now _ c.in-Some.ensures.line (rw at.count at (c.in-Err.ensures.refused other)))

pub lines-preserved : goal.lines-preserved
lines-preserved c =
    let at = c.lines.invariant in
    let names = c.args.names.now in
    let lines = c.lines.lines.items in
    let added = c.in-Ok-push.ensures.items in
    let says = rw (at.count, c.in-Refuting.is) at c.in-Ok.ensures.found in
    record {
      left = rw added (at.left ∙ read_parts-line (evidence_reading names) lines c.lines.rest.now c.in-Some.line.now c.in-Some.after.now _ c.in-Some.ensures.line says);
      count = omega (arith, at.count, ap length added, length-append lines (c.in-Refuting.refuting ∷ []));
      room = omega (arith, at.room, c.in-Some.ensures.shorter);
    }

pub returns-in-Order-clause-found : goal.returns-in-Order-clause-found
returns-in-Order-clause-found c =
    let at = c.lines.invariant in
    let names = c.args.names.now in
    let lines = c.lines.lines.items in
    let says = rw (at.count, c.in-Order.is) at c.in-Ok.ensures.found in
    ok_answer (λ e. read_parts (evidence_reading names) [] (parts_of c.args.text.now) ≡ Ok e) c.at_end-in-Order.result
    (ended_found (evidence_reader names) c.args.text.now (evidence_answer c.at_end-in-Order.result) _ (suc (suc (length lines))) c.in-Some.after.now (answer_ended _ _ c.at_end-in-Order.result c.at_end-in-Order.ensures.found)
    (at.left ∙ read_parts-line (evidence_reading names) lines c.lines.rest.now c.in-Some.line.now c.in-Some.after.now _ c.in-Some.ensures.line says))

pub returns-in-Order-clause-refused : goal.returns-in-Order-clause-refused
returns-in-Order-clause-refused c =
    let at = c.lines.invariant in
    let names = c.args.names.now in
    let lines = c.lines.lines.items in
    let fault = c.fault_of-refusal-in-Order in
    let next : c.lines.number + 1 ≡ suc (suc (length lines)) = omega (arith, at.count) in
    let refusal = ap (λ n. (n, fault.result.why)) (fault.ensures.line (λ e. absurd cc) ∙ next) ∙ ap (λ w. (suc (suc (length lines)), w)) fault.ensures.why in
    let says = rw (at.count, c.in-Order.is) at c.in-Ok.ensures.found in
    err_answer _ c.at_end-in-Order.result
    (ended_not (evidence_reader names) c.args.text.now (evidence_answer c.at_end-in-Order.result) _ (suc (suc (length lines))) _ c.in-Some.after.now (answer_err _ c.at_end-in-Order.result c.at_end-in-Order.ensures.refused) refusal
    (at.left ∙ read_parts-line (evidence_reading names) lines c.lines.rest.now c.in-Some.line.now c.in-Some.after.now _ c.in-Some.ensures.line says))
