use Rattle.std.proofs.Common.{arith, suc, ◌+◌}
use Rattle.line_text.specs.Lines.{parts_of}
use Rattle.tso_ops.specs.Settings.{setting_of}
use Rattle.tso_text.specs.declared.faults.Why.TheVariants.{AfterEnd}
use Rattle.tso_text.proofs.LineFacts.{not_zero, is_zero}
use Rattle.tso_text.proofs.ReadersFacts.{Reached-start, Reached-next, Reached-end, line_refused, unended_refused, ended_refused, answered, first_fault}
use Rattle.tso_text.proofs.readers.read_body.Goals as goal

pub lines-init : goal.lines-init
lines-init g c = record {
  reached = (0, omega arith, rw c.in-Ok.ensures.start (Reached-start (g.T.Form.format.grammar (setting_of c.args.setting.now)) c.args.text.now));
  keeps = c.in-Ok.ensures.keeps;
  few = c.in-Ok.ensures.few;
  room = omega (arith, c.requires);
}

pub returns-in-Err-next_line-clause-refused : goal.returns-in-Err-next_line-clause-refused
returns-in-Err-next_line-clause-refused g c =
    let grammar = g.T.Form.format.grammar (setting_of c.args.setting.now) in
    let at = c.lines.invariant.reached in
    let fault = c.fault_of-in-Err-next_line in
    answered grammar (parts_of c.args.text.now) c.args.lines c.lines.line at.0 c.in-Err-next_line.why fault.result.line fault.result.why at.1 fault.ensures.why fault.ensures.line
    (λ _. unended_refused grammar (parts_of c.args.text.now) at.0 c.lines.rest.now _ c.in-Err-next_line.why at.2 c.in-Err-next_line.ensures.none c.in-Err-next_line.ensures.why)

pub returns-in-Err-accept_line-clause-refused : goal.returns-in-Err-accept_line-clause-refused
returns-in-Err-accept_line-clause-refused g c =
    let grammar = g.T.Form.format.grammar (setting_of c.args.setting.now) in
    let at = c.lines.invariant.reached in
    let fault = c.fault_of-in-Err-accept_line in
    let parts = c.in-Ok-next_line.parts in
    answered grammar (parts_of c.args.text.now) c.args.lines c.lines.line at.0 c.in-Err-accept_line.why fault.result.line fault.result.why at.1 fault.ensures.why fault.ensures.line
    (λ other. line_refused grammar (parts_of c.args.text.now) at.0 c.lines.rest.now _ parts.0.now parts.1.now c.in-Err-accept_line.why at.2 c.in-Ok-next_line.ensures.line
    (first_fault _ c.in-Err-accept_line.why c.in-Err-accept_line.ensures.refused other))

pub returns-then-ended-clause-found : goal.returns-then-ended-clause-found
returns-then-ended-clause-found g c =
    let at = c.lines.invariant.reached in
    let parts = c.in-Ok-next_line.parts in
    Reached-end (g.T.Form.format.grammar (setting_of c.args.setting.now)) (parts_of c.args.text.now) at.0 c.lines.rest.now _ parts.0.now parts.1.now _ at.2 c.in-Ok-next_line.ensures.line (rw c.if-ended.true at c.in-Ok-accept_line.ensures.accepted)
    (is_zero _ c.is_empty.result c.is_empty.ensures c.if-not-is_empty.false)

pub returns-then-not-is_empty-clause-refused : goal.returns-then-not-is_empty-clause-refused
returns-then-not-is_empty-clause-refused g c =
    let grammar = g.T.Form.format.grammar (setting_of c.args.setting.now) in
    let at = c.lines.invariant.reached in
    let parts = c.in-Ok-next_line.parts in
    let fault = c.fault_of-then-not-is_empty in
    answered grammar (parts_of c.args.text.now) c.args.lines (c.lines.line + 1) (suc at.0) AfterEnd fault.result.line fault.result.why (omega (arith, at.1)) fault.ensures.why fault.ensures.line
    (λ _. ended_refused grammar (parts_of c.args.text.now) at.0 c.lines.rest.now _ parts.0.now parts.1.now _ at.2 c.in-Ok-next_line.ensures.line (rw c.if-ended.true at c.in-Ok-accept_line.ensures.accepted)
    (not_zero _ c.is_empty.result c.is_empty.ensures c.if-not-is_empty.true))

pub lines-preserved : goal.lines-preserved
lines-preserved g c =
    let at = c.lines.invariant.reached in
    let parts = c.in-Ok-next_line.parts in
    record {
      reached =
          (suc at.0, omega (arith, at.1), Reached-next (g.T.Form.format.grammar (setting_of c.args.setting.now)) (parts_of c.args.text.now) at.0 c.lines.rest.now _ parts.0.now parts.1.now _ at.2 c.in-Ok-next_line.ensures.line (rw c.if-ended.false at c.in-Ok-accept_line.ensures.accepted));
      keeps = c.in-Ok-accept_line.ensures.keeps;
      few = c.in-Ok-accept_line.ensures.few;
      room = omega (arith, c.in-Ok-next_line.ensures.shorter, c.lines.invariant.room);
    }
