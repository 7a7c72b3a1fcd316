use Rattle.std.proofs.Common.{rules, string_bytes}
use Rattle.trace_explanation.proofs.TextFacts.{places-grown}
use Rattle.trace_pictures.specs.Nodes.{processor_nodes_text}
use Rattle.trace_pictures.proofs.nodes.push_processors.Goals as goal

pub loop-proc-preserved : goal.loop-proc-preserved
loop-proc-preserved c =
    let text =
    places-grown (processor_nodes_text c.args.placed.now c.args.drawn.now c.args.looks.now c.args.width) c.loop-proc.proc (string_bytes c.args.text.now) (string_bytes c.loop-proc.text) (string_bytes c.push_processor.new.text)
    c.loop-proc.invariant.0 (c.in_ok-push_processor.ensures c.args.width c.loop-proc.invariant.1) in
    search (rules, text)
