use Rattle.std.proofs.Common.{sym, ◌∙◌}
use Rattle.tso_rules.proofs.AboveFacts.{loads_small, next_load_is}
use Rattle.tso_rules.proofs.masks.next_load.Goals as goal

pub first_above-requires : goal.first_above-requires
first_above-requires c = loads_small c.args.trace.now c.load_words.result.now c.in_ok-event.event.a c.events-events.ensures.kept c.load_words.ensures

pub returns : goal.returns
returns c =
    next_load_is c.args.trace.now c.args.n c.in_ok-event.event c.load_words.result.now c.processor_row.result.now c.first_above.result (sym c.event.ensures ∙ c.in_ok-event.was)
    c.load_words.ensures c.processor_row.ensures c.first_above.ensures
