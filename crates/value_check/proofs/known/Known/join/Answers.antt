use Rattle.std.proofs.Common.{subst, suc, ap, arith}
use Rattle.chain_reach.specs.Groups.{node_count}
use Rattle.tso_ops.specs.Events.{IsEvent}
use Rattle.value_check.specs.Internal.Known.{SaysJust}
use Rattle.value_check.proofs.AnswerFacts.{no_index}
use Rattle.value_check.proofs.CellFacts.{node_total}
use Rattle.value_check.proofs.FollowingFacts.{known_joined}
use Rattle.value_check.proofs.known.Known.join.Goals as goal

pub returns-in_default : goal.returns-in_default
returns-in_default c = λ t steps step known says from to. absurd (no_index t c.args.self.now known.tables c.args.from c.in_default.ensures from)

pub returns-in_default-index_of : goal.returns-in_default-index_of
returns-in_default-index_of c = λ t steps step known says from to. absurd (no_index t c.args.self.now known.tables c.args.to c.in_default-index_of.ensures to)

pub returns-then-u-nodes : goal.returns-then-u-nodes
returns-then-u-nodes c = λ t steps step known says from to. let nodes = node_total t c.args.self.now known.tables in absurd (omega (arith, nodes, c.nodes-nodes.ensures.nodes, ap node_count c.chains.ensures.chains, c.in-Some.ensures.1, c.in-Some-index_of.ensures.1))

pub returns-then-v-nodes : goal.returns-then-v-nodes
returns-then-v-nodes c = λ t steps step known says from to. let nodes = node_total t c.args.self.now known.tables in absurd (omega (arith, nodes, c.nodes-nodes.ensures.nodes, ap node_count c.chains.ensures.chains, c.in-Some.ensures.1, c.in-Some-index_of.ensures.1))

pub returns : goal.returns
returns c = λ t steps step known says from to.
    let u = c.in-Some.u in
    let v = c.in-Some-index_of.v in
    let just : SaysJust step (suc u) (suc v) = subst (λ n. SaysJust step n (suc v)) c.in-Some.ensures.0 (subst (SaysJust step c.args.from) c.in-Some-index_of.ensures.0 says) in
    known_joined t steps step c.args.self.now c.join.new.self u v just c.join.ensures (subst (IsEvent t) c.in-Some.ensures.0 from) (subst (IsEvent t) c.in-Some-index_of.ensures.0 to) known
