use Rattle.std.proofs.Common.{◌≡◌, arith, refl, ap, sym, ◌∙◌, length, suc, ◌+◌, length-append, [], ◌∷◌}
use Rattle.line_text.proofs.ReadingFacts.{read_parts-line, read_parts-unended, refused_at, ended_found, ended_not}
use Rattle.tso_evidence.specs.Internal.ReadTexts.{said_of, evidence_reading}
use Rattle.tso_evidence.specs.Internal.LineValues.{line_fault}
use Rattle.tso_evidence.specs.declared.faults.EvidenceFault.TheVariants.{AfterEnd}
use Rattle.tso_evidence.specs.Printed.{number_after}
use Rattle.tso_evidence.proofs.PrintedFacts.{number_past-push, number_after-low}
use Rattle.tso_evidence.proofs.SpellingFacts.{evidence_reader, not_memory, unended_found, unended_not}
use Rattle.tso_evidence.proofs.readers.read.Goals as goal

pub lines-init : goal.lines-init
lines-init c = record {
  left = rw c.new-lines.ensures.items refl;
  count = rw c.new-lines.ensures.items (omega arith);
  next = rw c.new-lines.ensures.items refl;
  low = omega arith;
  room = omega arith;
}

pub returns-in_default-clause-found : goal.returns-in_default-clause-found
returns-in_default-clause-found c =
    unended_found c.args.text.now c.lines.rest.now c.lines.lines.items c.at_end.result (rw c.new-lines-in_default.ensures at c.at_end.ensures.found)
    (c.lines.invariant.left ∙ read_parts-unended evidence_reading c.lines.lines.items c.lines.rest.now c.in_default.ensures.none)

pub returns-in_default-clause-refused : goal.returns-in_default-clause-refused
returns-in_default-clause-refused c =
    let line = c.fault_of.ensures.line (λ e. absurd cc) ∙ c.lines.invariant.count in
    unended_not c.args.text.now c.lines.rest.now c.lines.lines.items c.at_end.result c.fault_of.result c.at_end.ensures.refused (ap (λ n. (n, c.fault_of.result.why)) line ∙ ap (λ w. (suc (length c.lines.lines.items), w)) c.fault_of.ensures.why)
    (c.lines.invariant.left ∙ read_parts-unended evidence_reading c.lines.lines.items c.lines.rest.now c.in_default.ensures.none)

pub returns-in-Err-clause-refused : goal.returns-in-Err-clause-refused
returns-in-Err-clause-refused c =
    let at = c.lines.invariant in
    refused_at evidence_reader c.args.text.now (suc (length c.lines.lines.items)) (line_fault c.in-Err.why) c.fault_of-in-Err.result c.fault_of-in-Err.ensures.why
    (λ other. c.fault_of-in-Err.ensures.line (not_memory c.in-Err.why other) ∙ at.count)
    (λ other. at.left ∙ read_parts-line evidence_reading c.lines.lines.items c.lines.rest.now c.in-Some.bytes.now c.in-Some.after.now _ c.in-Some.ensures.line
    (ap said_of (rw (at.count, at.next) at (c.in-Err.ensures.refused (not_memory c.in-Err.why other)))))

pub lines-preserved : goal.lines-preserved
lines-preserved c =
    let at = c.lines.invariant in
    let added = rw c.in-Ok-push.is at c.push.ensures.items in
    let l = c.in-Refuting.refuting in
    let says = rw (at.count, at.next, c.in-Refuting.is) at c.in-Ok.ensures.found in
    record {
      left = rw added (at.left ∙ read_parts-line evidence_reading c.lines.lines.items c.lines.rest.now c.in-Some.bytes.now c.in-Some.after.now _ c.in-Some.ensures.line (ap said_of says));
      count = omega (arith, at.count, ap length added, length-append c.lines.lines.items (l ∷ []));
      next = rw added (c.number_after-number.ensures ∙ ap (λ n. number_after n l) at.next ∙ sym (number_past-push 1 c.lines.lines.items l));
      low = omega (arith, at.low, c.number_after-number.ensures, number_after-low c.lines.number l);
      room = omega (arith, at.room, c.in-Some.ensures.shorter);
    }

pub returns-in-Unwritten-clause-found : goal.returns-in-Unwritten-clause-found
returns-in-Unwritten-clause-found c =
    let at = c.lines.invariant in
    let says = rw (at.count, at.next, c.in-Unwritten.is) at c.in-Ok.ensures.found in
    ended_found evidence_reader c.args.text.now c.at_end-in-Unwritten.result _ (suc (suc (length c.lines.lines.items))) c.in-Some.after.now c.at_end-in-Unwritten.ensures.found
    (at.left ∙ read_parts-line evidence_reading c.lines.lines.items c.lines.rest.now c.in-Some.bytes.now c.in-Some.after.now _ c.in-Some.ensures.line (ap said_of says))

pub returns-in-Unwritten-clause-refused : goal.returns-in-Unwritten-clause-refused
returns-in-Unwritten-clause-refused c =
    let at = c.lines.invariant in
    let next : c.lines.line + 1 ≡ suc (suc (length c.lines.lines.items)) = omega (arith, at.count) in
    let says = rw (at.count, at.next, c.in-Unwritten.is) at c.in-Ok.ensures.found in
    ended_not evidence_reader c.args.text.now c.at_end-in-Unwritten.result _ (suc (suc (length c.lines.lines.items))) _ c.in-Some.after.now c.at_end-in-Unwritten.ensures.refused (ap (λ n. (n, AfterEnd)) next)
    (at.left ∙ read_parts-line evidence_reading c.lines.lines.items c.lines.rest.now c.in-Some.bytes.now c.in-Some.after.now _ c.in-Some.ensures.line (ap said_of says))

pub returns-in-Order-clause-found : goal.returns-in-Order-clause-found
returns-in-Order-clause-found c =
    let at = c.lines.invariant in
    let says = rw (at.count, at.next, c.in-Order.is) at c.in-Ok.ensures.found in
    ended_found evidence_reader c.args.text.now c.at_end-in-Order.result _ (suc (suc (length c.lines.lines.items))) c.in-Some.after.now c.at_end-in-Order.ensures.found
    (at.left ∙ read_parts-line evidence_reading c.lines.lines.items c.lines.rest.now c.in-Some.bytes.now c.in-Some.after.now _ c.in-Some.ensures.line (ap said_of says))

pub returns-in-Order-clause-refused : goal.returns-in-Order-clause-refused
returns-in-Order-clause-refused c =
    let at = c.lines.invariant in
    let next : c.lines.line + 1 ≡ suc (suc (length c.lines.lines.items)) = omega (arith, at.count) in
    let says = rw (at.count, at.next, c.in-Order.is) at c.in-Ok.ensures.found in
    ended_not evidence_reader c.args.text.now c.at_end-in-Order.result _ (suc (suc (length c.lines.lines.items))) _ c.in-Some.after.now c.at_end-in-Order.ensures.refused (ap (λ n. (n, AfterEnd)) next)
    (at.left ∙ read_parts-line evidence_reading c.lines.lines.items c.lines.rest.now c.in-Some.bytes.now c.in-Some.after.now _ c.in-Some.ensures.line (ap said_of says))
