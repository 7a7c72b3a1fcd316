use Rattle.tso_text.specs.Printed.{trace_header, setting_text, outcome_tokens, trace_text}
use Rattle.tso_text.proofs.PrintFacts.{lists_text-parts}
use Rattle.tso_text.proofs.printers.print_trace.Goals as goal

pub returns : goal.returns
unfolding trace_text
returns c =
    let v = c.args.trace.now in
    let text = lists_text-parts outcome_tokens (trace_header v.setting.version) (setting_text v.setting) v.lists c.loop-p.p c.processors-p-end.result _ _ c.processors-p-end.ensures.count c.loop-p-test.false c.loop-p.invariant c.in_ok-writeln.ensures.bytes in
    record { lines = text; spelled = (c.processors-p-end.ensures.kept, text) }
