use Rattle.std.proofs.lemmas.Result.{IfOk-weaker}
use Rattle.outcome_reports.specs.SeenTraces.{IsSeenOf}
use Rattle.outcome_reports.proofs.SaidFacts.{said_of_program, said_of_refusal}
use Rattle.trace_streams.proofs.InputFacts.{not_refused_program}
use Rattle.outcome_reports.proofs.seen.read_seen.Goals as goal

pub returns-in-Ok-clause-said : goal.returns-in-Ok-clause-said
returns-in-Ok-clause-said g c =
    IfOk-weaker c.seen_of.result _ _
    (λ said is. said_of_program (IsSeenOf c.args.limit (g.S.Read.remaining c.args.stream.now)) (g.P.Read.remaining c.args.programs.now) _ _ _ _ c.in-Ok.program c.in_ok-input.ensures.prefix c.deref.ensures.value c.in-Ok.ensures.found is)
    c.seen_of.ensures.said

pub returns-clause-said : goal.returns-clause-said
returns-clause-said g c =
    let told = c.in_ok-refused_program-in-Err.ensures in
    said_of_refusal (IsSeenOf c.args.limit (g.S.Read.remaining c.args.stream.now)) (g.P.Read.remaining c.args.programs.now) _ _ _ _ c.in-Err.fault c.in_ok-input.ensures.prefix c.deref.ensures.value c.in-Err.ensures.refused told.why told.line told.refused

pub returns-in-Ok-clause-unread : goal.returns-in-Ok-clause-unread
returns-in-Ok-clause-unread g c =
    not_refused_program _ (g.P.Read.remaining c.args.programs.now) _ _ c.in-Ok.program c.in_ok-input.ensures.prefix c.deref.ensures.value c.in-Ok.ensures.found
