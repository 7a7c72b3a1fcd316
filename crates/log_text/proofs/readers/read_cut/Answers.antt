use Rattle.std.proofs.Common.{◌≡◌, ◌∙◌, inr, refl, sym, arith, length, ⊎_elim}
use Rattle.tso_text.specs.declared.faults.Why.TheVariants.{BadLine, OutOfMemory}
use Rattle.log_text.specs.LogTexts.{IsLogRefusal}
use Rattle.log_text.proofs.ReadingFacts.{no_elements}
use Rattle.log_text.proofs.TextFacts.{Reached-start, Reached-next, Reached-end, Reached-ended, lacking_refused, line_refused, one_log, never_both, answered}
use Rattle.log_text.proofs.readers.read_cut.Goals as goal

pub lines-init : goal.lines-init
lines-init c = record { reached = Reached-start c.args.text.now c.args.cutting.now c.new-reading.result c.new-reading.ensures.start; room = omega arith }

pub returns-in-Err-accept_line-clause-only : goal.returns-in-Err-accept_line-clause-only
returns-in-Err-accept_line-clause-only c t spells ended =
    let why = c.in-Err-accept_line.why in
    c.fault_of-in-Err-accept_line.ensures.why
    ∙ ⊎_elim
    (λ (memory : why ≡ OutOfMemory). memory)
    (λ (refusal : IsLogRefusal c.args.needs_end c.args.text.now c.lines.line why). absurd (never_both c.args.needs_end c.args.text.now t c.lines.line why spells ended refusal))
    (line_refused c.args.needs_end c.args.text.now c.args.cutting.now c.lines.line c.lines.number c.lines.rest.now c.lines.reading c.in-Some.prefix.now c.in-Some.after.now why c.requires.places c.lines.invariant.reached c.in-Some.ensures.line c.in-Err-accept_line.ensures.refused)

pub returns-in-Err-accept_line-clause-refused : goal.returns-in-Err-accept_line-clause-refused
returns-in-Err-accept_line-clause-refused c other =
    let why = c.in-Err-accept_line.why in
    let fault = c.fault_of-in-Err-accept_line in
    answered c.args.needs_end c.args.text.now c.lines.line why fault.result.line fault.result.why fault.ensures.why fault.ensures.line
    (line_refused c.args.needs_end c.args.text.now c.args.cutting.now c.lines.line c.lines.number c.lines.rest.now c.lines.reading c.in-Some.prefix.now c.in-Some.after.now why c.requires.places c.lines.invariant.reached c.in-Some.ensures.line c.in-Err-accept_line.ensures.refused)
    other

pub lines-preserved : goal.lines-preserved
lines-preserved c = record {
  reached = Reached-next c.args.text.now c.args.cutting.now c.lines.line c.lines.number c.lines.rest.now c.lines.reading c.in-Some.prefix.now c.in-Some.after.now c.accept_line.new.self c.in-Ok-accept_line.next c.requires.places c.lines.invariant.reached c.in-Some.ensures.line c.in-Ok-accept_line.ensures.accepted;
  room = omega (arith, c.in-Some.ensures.shorter, c.lines.invariant.room);
}

pub returns-in-Ok-clause-only : goal.returns-in-Ok-clause-only
returns-in-Ok-clause-only c t spells ended =
    let rest = c.lines.rest.now in
    one_log c.args.text.now _ t
    (Reached-end c.args.text.now c.args.cutting.now c.lines.line c.lines.number rest c.lines.reading _ c.requires.places c.requires.boundaries c.lines.invariant.reached c.in_default.ensures.none (no_elements rest (length rest) c.is_empty.result refl c.is_empty.ensures c.if-not-is_empty.false) c.in-Ok.ensures) spells

pub returns-then-lacks_end-clause-only : goal.returns-then-lacks_end-clause-only
returns-then-lacks_end-clause-only c t spells ended =
    let lacks = sym c.lacks_end.ensures ∙ c.if-lacks_end.true in
    let refusal = lacking_refused c.args.needs_end c.args.text.now c.args.cutting.now c.lines.line c.lines.number c.lines.rest.now c.lines.reading c.lines.invariant.reached c.in_default.ensures.none lacks in
    absurd (never_both c.args.needs_end c.args.text.now t c.lines.line BadLine spells ended refusal)

pub returns-then-lacks_end-clause-refused : goal.returns-then-lacks_end-clause-refused
returns-then-lacks_end-clause-refused c other =
    let lacks = sym c.lacks_end.ensures ∙ c.if-lacks_end.true in
    let refusal = lacking_refused c.args.needs_end c.args.text.now c.args.cutting.now c.lines.line c.lines.number c.lines.rest.now c.lines.reading c.lines.invariant.reached c.in_default.ensures.none lacks in
    let fault = c.fault_of-then-lacks_end in
    answered c.args.needs_end c.args.text.now c.lines.line BadLine fault.result.line fault.result.why fault.ensures.why fault.ensures.line (inr refusal) other

pub returns-in-Ok-clause-found : goal.returns-in-Ok-clause-found
returns-in-Ok-clause-found c =
    let rest = c.lines.rest.now in
    Reached-end c.args.text.now c.args.cutting.now c.lines.line c.lines.number rest c.lines.reading _ c.requires.places c.requires.boundaries c.lines.invariant.reached c.in_default.ensures.none
    (no_elements rest (length rest) c.is_empty.result refl c.is_empty.ensures c.if-not-is_empty.false) c.in-Ok.ensures

pub returns-in-Ok-clause-ended : goal.returns-in-Ok-clause-ended
returns-in-Ok-clause-ended c =
    let rest = c.lines.rest.now in
    Reached-ended c.args.needs_end c.args.text.now c.args.cutting.now c.lines.line c.lines.number rest c.lines.reading c.lines.invariant.reached c.in_default.ensures.none
    (no_elements rest (length rest) c.is_empty.result refl c.is_empty.ensures c.if-not-is_empty.false) (sym c.lacks_end.ensures ∙ c.if-lacks_end.false)
