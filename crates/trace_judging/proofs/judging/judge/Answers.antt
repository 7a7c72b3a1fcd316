use Rattle.trace_judging.proofs.ReaderFacts.{no_order_written, shows_violation_written, violation_written}
use Rattle.trace_judging.proofs.judging.judge.Goals as goal

pub returns-clause-violation : goal.returns-clause-violation
returns-clause-violation g c = violation_written (g.R.Read.remaining c.args.reader.now) _ _ c.answer_reader.result c.answer_reader.ensures.rendered

pub returns-clause-no_order : goal.returns-clause-no_order
returns-clause-no_order g c = no_order_written (g.R.Read.remaining c.args.reader.now) _ _ c.answer_reader.result c.answer_reader.ensures.rendered

pub returns-clause-holds : goal.returns-clause-holds
returns-clause-holds g c = shows_violation_written (g.R.Read.remaining c.args.reader.now) _ _ c.answer_reader.result c.answer_reader.ensures.rendered
