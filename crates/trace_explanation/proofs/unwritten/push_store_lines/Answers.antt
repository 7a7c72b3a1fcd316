use Rattle.std.proofs.Common.{string_bytes}
use Rattle.trace_explanation.proofs.TextFacts.{grown, grown-last, stores_some}
use Rattle.trace_explanation.proofs.unwritten.push_store_lines.Goals as goal

pub returns-in_ok-push_places-in-len1-up : goal.returns-in_ok-push_places-in-len1-up
returns-in_ok-push_places-in-len1-up c =
    let old = string_bytes c.args.text.now in
    let lines = grown old _ _ _ _ c.in_ok-write-in-len1-up.ensures.bytes (rw c.first_of.ensures at c.in_ok-push_places-in-len1-up.ensures) in
    rw (stores_some c.args.named.now.names.now c.args.named.now.trace.now c.args.address c.args.stores.now c.in-len1-up.len_at_least) (grown-last c.push_more.result old _ _ _ _ lines c.push_more.ensures)
