use Rattle.std.proofs.Common.{◌∙◌, string_bytes}
use Rattle.trace_explanation.proofs.TextFacts.{grown-last}
use Rattle.trace_pictures.specs.Nodes.{processor_nodes_text}
use Rattle.trace_pictures.proofs.nodes.push_processor.Goals as goal

pub returns : goal.returns
unfolding processor_nodes_text
returns c width is =
    let rows = c.deref.ensures.value ∙ c.in_ok-rows.ensures in
    let said = rw rows at c.push_rows.ensures in
    rw is at (grown-last c.push_rows.result (string_bytes c.args.text.now) _ _ (string_bytes c.write.new.self) (string_bytes c.push_rows.new.text) c.in_ok-write.ensures.bytes said)
