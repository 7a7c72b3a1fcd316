use Rattle.std.proofs.Common.{sym, ◌∙◌}
use Rattle.tso_rules.proofs.AboveFacts.{loads_small}
use Rattle.tso_rules.proofs.ReasonFacts.{next_past_is, is_false}
use Rattle.tso_rules.proofs.reasons.next_past.Goals as goal

pub first_above-requires : goal.first_above-requires
first_above-requires c = loads_small c.args.trace.now c.load_words.result.now c.in-Some.event.a c.events-events.ensures.kept c.load_words.ensures

pub returns-in-Some : goal.returns-in-Some
returns-in-Some c =
    next_past_is c.args.trace.now c.args.u c.args.v c.args.n c.in-Some.event c.load_words.result.now c.reader_words.result.now c.first_above.result (sym c.event.ensures ∙ c.in-Some.is)
    (is_false c.in-Some.event.load c.if-not-event.true) (λ e. c.if-u-v.false e) c.load_words.ensures c.reader_words.ensures c.first_above.ensures
