use Rattle.std.proofs.Common.{None, sym, ◌∙◌}
use Rattle.std.proofs.lemmas.Bool.{false≢true}
use Rattle.std.proofs.lemmas.Result.{IfOk-weaker}
use Rattle.tso_cert.specs.declared.steps.Certificate.TheVariants.{Unwritten}
use Rattle.tso_model.proofs.CertificateCause.{certificate_cause}
use Rattle.tso_model.proofs.RoundsNumber.{rounds_tell_cycles}
use Rattle.trace_judging.proofs.ReportFacts.{acyclic_before, clear_says, finding_written, verdict_says, violation_says}
use Rattle.trace_judging.proofs.findings.ByRulesQuestion.find.Goals as goal

pub returns-clause-found : goal.returns-clause-found
returns-clause-found g c =
    let t = c.args.trace.now in
    let count = c.in_ok-count.count in
    let tells = rounds_tell_cycles t count.rounds c.in_default.ensures c.in_ok-count.ensures.rounds in record {
      rounds = c.in_ok-count.ensures.rounds;
      certificate = finding_written t None c.in_default.ensures (λ derived. false≢true (sym c.if-count.false ∙ c.in_ok-count.ensures.cycle.1 (tells.0 derived)));
    }

pub returns-clause-says : goal.returns-clause-says
returns-clause-says g c =
    let t = c.args.trace.now in
    let count = c.in_ok-count.count in
    let tells = rounds_tell_cycles t count.rounds c.in_default.ensures c.in_ok-count.ensures.rounds in
    clear_says t (finding_written t None c.in_default.ensures (λ derived. false≢true (sym c.if-count.false ∙ c.in_ok-count.ensures.cycle.1 (tells.0 derived))))

pub returns-in-Some-clause-says : goal.returns-in-Some-clause-says
returns-in-Some-clause-says g c = violation_says c.args.trace.now c.processors-processors.ensures.kept (certificate_cause c.args.trace.now (Unwritten c.in-Some.load) c.in-Some.ensures)

pub returns-then-eq-clause-says : goal.returns-then-eq-clause-says
returns-then-eq-clause-says g c = IfOk-weaker c.find_by_ranks.result _ _ (λ f found. verdict_says c.args.trace.now c.processors-processors.ensures.kept f found) c.find_by_ranks.ensures.found

pub returns-then-count-clause-says : goal.returns-then-count-clause-says
returns-then-count-clause-says g c = IfOk-weaker c.find_by_ranks-then-count.result _ _ (λ f found. verdict_says c.args.trace.now c.processors-processors.ensures.kept f found) c.find_by_ranks-then-count.ensures.found

pub find_by_ranks-requires-then-count-clause-acyclic : goal.find_by_ranks-requires-then-count-clause-acyclic
find_by_ranks-requires-then-count-clause-acyclic g c = acyclic_before c.args.trace.now c.in_ok-count.count.rounds c.in_default.ensures c.in_ok-count.ensures.rounds
