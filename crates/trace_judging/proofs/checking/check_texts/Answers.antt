use Rattle.trace_judging.proofs.CheckFacts.{no_order_written, verdict_written, violation_written}
use Rattle.trace_judging.proofs.checking.check_texts.Goals as goal

pub returns-clause-violation : goal.returns-clause-violation
returns-clause-violation g c = violation_written (g.T.Read.remaining c.args.trace_reader.now) (g.C.Read.remaining c.args.cert_reader.now) _ _ c.check_evidence.result c.check_evidence.ensures.report

pub returns-clause-otherwise : goal.returns-clause-otherwise
returns-clause-otherwise g c = verdict_written (g.T.Read.remaining c.args.trace_reader.now) (g.C.Read.remaining c.args.cert_reader.now) _ _ c.check_evidence.result c.check_evidence.ensures.report

pub returns-clause-no_order : goal.returns-clause-no_order
returns-clause-no_order g c = no_order_written (g.T.Read.remaining c.args.trace_reader.now) c.check_evidence.result c.check_evidence.ensures.says
