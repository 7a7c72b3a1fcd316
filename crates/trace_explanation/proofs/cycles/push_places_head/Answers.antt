use Rattle.trace_explanation.proofs.cycles.push_places_head.Goals as goal

pub returns : goal.returns
returns c = rw c.noun-noun.ensures at c.write.ensures.bytes
