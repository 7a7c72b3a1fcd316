use Rattle.log_evidence.proofs.ReaderFacts.{reader_no_order, reader_order}
use Rattle.log_evidence.proofs.checking.check_log_evidence.Goals as goal

pub returns-clause-no_order : goal.returns-clause-no_order
returns-clause-no_order g c = λ gives. reader_no_order (g.L.Read.remaining c.args.logs.now) (g.E.Read.remaining c.args.evidence.now) _ _ c.in_ok-report.ensures.report gives

pub returns-clause-order : goal.returns-clause-order
returns-clause-order g c = λ gives. reader_order (g.L.Read.remaining c.args.logs.now) (g.E.Read.remaining c.args.evidence.now) _ _ c.in_ok-report.ensures.report gives
