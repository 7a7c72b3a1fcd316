use Rattle.tso_cert.specs.declared.faults.CertificateRefusal.TheVariants.{AfterCycle}
use Rattle.std.proofs.Common.{◌≡◌, arith, refl, ap, sym, ◌∙◌, length, suc, ◌+◌, length-append, [], ◌∷◌, Ok, Err}
use Rattle.line_text.proofs.ReadingFacts.{read_parts-line, read_parts-unended, refused_at, ended_found, ended_not}
use Rattle.tso_cert.proofs.SpellingFacts.{cert_reader, said_line}
use Rattle.tso_cert.specs.declared.lines.Line.TheVariants.{Step, Cycle, Unwritten}
use Rattle.tso_cert.specs.Internal.ReadTexts.{cert_reading}
use Rattle.tso_cert.proofs.readers.read.Goals as goal

pub lines-init : goal.lines-init
lines-init c = record {
  left = rw c.new-steps.ensures.items refl;
  count = rw c.new-steps.ensures.items (omega arith);
  room = omega arith;
}

pub returns-in_default-clause-refused : goal.returns-in_default-clause-refused
returns-in_default-clause-refused c =
    let at = c.lines.invariant in
    refused_at cert_reader c.args.text.now (suc (length c.lines.steps.items)) c.unended.result c.fault_of.result c.fault_of.ensures.why (λ other. c.fault_of.ensures.line other ∙ at.count)
    (λ _. at.left ∙ read_parts-unended cert_reading c.lines.steps.items c.lines.rest.now c.in_default.ensures.none ∙ ap (λ w. Err (suc (length c.lines.steps.items), w)) (sym c.unended.ensures))

pub returns-in-Err-clause-refused : goal.returns-in-Err-clause-refused
returns-in-Err-clause-refused c =
    let at = c.lines.invariant in
    let fault = c.fault_of-in-Err in
    refused_at cert_reader c.args.text.now (suc (length c.lines.steps.items)) c.in-Err.why fault.result fault.ensures.why (λ other. fault.ensures.line other ∙ at.count)
    (λ other. at.left
    ∙ read_parts-line cert_reading c.lines.steps.items c.lines.rest.now c.in-Some.line.now c.in-Some.after.now _ c.in-Some.ensures.line
    (said_line c.lines.steps.items _ (Err c.in-Err.why) (rw at.count at (c.in-Err.ensures.refused other))))

pub lines-preserved : goal.lines-preserved
lines-preserved c =
    let at = c.lines.invariant in
    let added = rw c.in-Ok-push.is at c.push.ensures.items in
    let says = rw (at.count, c.in-Step.is) at c.in-Ok.ensures.found in
    record {
      left = rw added (at.left
          ∙ read_parts-line cert_reading c.lines.steps.items c.lines.rest.now c.in-Some.line.now c.in-Some.after.now _ c.in-Some.ensures.line (said_line c.lines.steps.items _ (Ok (Step c.in-Step.step)) says));
      count = omega (arith, at.count, ap length added, length-append c.lines.steps.items (c.in-Step.step ∷ []));
      room = omega (arith, at.room, c.in-Some.ensures.shorter);
    }

pub returns-in-Cycle-clause-found : goal.returns-in-Cycle-clause-found
returns-in-Cycle-clause-found c =
    let at = c.lines.invariant in
    let says = rw (at.count, c.in-Cycle.is) at c.in-Ok.ensures.found in
    ended_found cert_reader c.args.text.now c.at_end.result _ (suc (suc (length c.lines.steps.items))) c.in-Some.after.now (rw c.new-steps-in-Cycle.ensures at c.at_end.ensures.found)
    (at.left ∙ read_parts-line cert_reading c.lines.steps.items c.lines.rest.now c.in-Some.line.now c.in-Some.after.now _ c.in-Some.ensures.line (said_line c.lines.steps.items _ (Ok (Cycle c.in-Cycle.cycle)) says))

pub returns-in-Cycle-clause-refused : goal.returns-in-Cycle-clause-refused
returns-in-Cycle-clause-refused c =
    let at = c.lines.invariant in
    let next : c.lines.number + 1 ≡ suc (suc (length c.lines.steps.items)) = omega (arith, at.count) in
    let says = rw (at.count, c.in-Cycle.is) at c.in-Ok.ensures.found in
    ended_not cert_reader c.args.text.now c.at_end.result _ (suc (suc (length c.lines.steps.items))) _ c.in-Some.after.now c.at_end.ensures.refused (ap (λ n. (n, AfterCycle)) next)
    (at.left ∙ read_parts-line cert_reading c.lines.steps.items c.lines.rest.now c.in-Some.line.now c.in-Some.after.now _ c.in-Some.ensures.line (said_line c.lines.steps.items _ (Ok (Cycle c.in-Cycle.cycle)) says))

pub returns-in-Unwritten-clause-found : goal.returns-in-Unwritten-clause-found
returns-in-Unwritten-clause-found c =
    let at = c.lines.invariant in
    let says = rw (at.count, c.in-Unwritten.is) at c.in-Ok.ensures.found in
    ended_found cert_reader c.args.text.now c.at_end-in-Unwritten.result _ (suc (suc (length c.lines.steps.items))) c.in-Some.after.now c.at_end-in-Unwritten.ensures.found
    (at.left ∙ read_parts-line cert_reading c.lines.steps.items c.lines.rest.now c.in-Some.line.now c.in-Some.after.now _ c.in-Some.ensures.line (said_line c.lines.steps.items _ (Ok (Unwritten c.in-Unwritten.n)) says))

pub returns-in-Unwritten-clause-refused : goal.returns-in-Unwritten-clause-refused
returns-in-Unwritten-clause-refused c =
    let at = c.lines.invariant in
    let next : c.lines.number + 1 ≡ suc (suc (length c.lines.steps.items)) = omega (arith, at.count) in
    let says = rw (at.count, c.in-Unwritten.is) at c.in-Ok.ensures.found in
    ended_not cert_reader c.args.text.now c.at_end-in-Unwritten.result _ (suc (suc (length c.lines.steps.items))) _ c.in-Some.after.now c.at_end-in-Unwritten.ensures.refused (ap (λ n. (n, AfterCycle)) next)
    (at.left ∙ read_parts-line cert_reading c.lines.steps.items c.lines.rest.now c.in-Some.line.now c.in-Some.after.now _ c.in-Some.ensures.line (said_line c.lines.steps.items _ (Ok (Unwritten c.in-Unwritten.n)) says))
