use Rattle.std.proofs.Common.{inl, inr, suc}
use Rattle.tso_ops.specs.Events.{IsStore, SameAddress}
use Rattle.chain_reach.specs.Leading.{Leads}
use Rattle.value_check.proofs.AnswerFacts.{not_so, refuses}
use Rattle.value_check.proofs.known.Known.sees.Goals as goal

pub returns-then-not-is_store : goal.returns-then-not-is_store
returns-then-not-is_store c = λ t steps known.
    refuses (λ sees. not_so c.is_store.result (IsStore t (suc c.args.store)) (c.is_store.ensures t known.tables.events) c.if-not-is_store.true sees.0)

pub returns-then-not-is_one_address : goal.returns-then-not-is_one_address
returns-then-not-is_one_address c = λ t steps known.
    refuses (λ sees. not_so c.is_one_address.result (SameAddress t (suc c.args.store) (suc c.args.load)) (c.is_one_address.ensures t known.tables.events) c.if-not-is_one_address.true sees.1)

pub returns-then-leads : goal.returns-then-leads
returns-then-leads c = λ t steps known. (
  λ is. (
    (c.is_store.ensures t known.tables.events).0 c.if-not-is_store.false,
    (c.is_one_address.ensures t known.tables.events).0 c.if-not-is_one_address.false,
    inl ((known.leads c.args.store c.args.load).0 (c.leads.ensures.0 c.if-leads.true)),
  ),
  λ sees. c.if-leads.true,
)

pub returns-else-leads : goal.returns-else-leads
returns-else-leads c = λ t steps known. (
  λ is. (
    (c.is_store.ensures t known.tables.events).0 c.if-not-is_store.false,
    (c.is_one_address.ensures t known.tables.events).0 c.if-not-is_one_address.false,
    inr ((c.is_earlier.ensures t known.tables.events).0 is),
  ),
  λ sees. elim sees.2 [
    | inl path ↦ absurd (not_so c.leads.result (Leads c.args.self.now.reach c.args.store c.args.load) c.leads.ensures c.if-leads.false ((known.leads c.args.store c.args.load).1 path))
    | inr earlier ↦ (c.is_earlier.ensures t known.tables.events).1 earlier
  ],
)
