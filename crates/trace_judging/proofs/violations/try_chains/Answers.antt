use Rattle.tso_model.proofs.RoundsNumber.{rounds_tell_cycles}
use Rattle.trace_judging.proofs.violations.try_chains.Goals as goal

pub returns : goal.returns
returns c =
    let tells = rounds_tell_cycles c.args.trace.now c.in_ok-count.count.rounds c.requires c.in_ok-count.ensures.rounds in
    (λ is. tells.1 (c.in_ok-count.ensures.cycle.0 is), λ derived. c.in_ok-count.ensures.cycle.1 (tells.0 derived))
