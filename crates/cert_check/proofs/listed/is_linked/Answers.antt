use Rattle.tso_model.specs.Certs.{IsStep}
use Rattle.cert_check.proofs.Facts.{linked_short}
use Rattle.cert_check.proofs.listed.is_linked.Goals as goal

pub returns : goal.returns
returns c =
    let rest = linked_short (λ x y. IsStep c.args.steps.now x y) c.loop-rest.rest.now c.in_default.len_below in
    (λ e. c.loop-rest.invariant.1 (rest.0 e), λ linked. rest.1 (c.loop-rest.invariant.0 linked))
