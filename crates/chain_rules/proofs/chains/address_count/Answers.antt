use Rattle.std.proofs.Common.{◌≡◌, ℕ, nat_cmp, ◌+◌, max, sym, ◌∙◌, Some, None, arith}
use Rattle.std.specs.Ordering.{ord_max}
use Rattle.std.proofs.lemmas.Grind.{common_steps}
use Rattle.chain_rules.proofs.TraceBounds.{addresses-none, addresses-some, count_more}
use Rattle.chain_rules.proofs.chains.address_count.Goals as goal
use Rattle.chain_rules.proofs.chains.address_count.Goals.{in-Some, in_default}

greatest : (a b : ℕ) → ord_max nat_cmp a b ≡ max a b
greatest a b = grind (arith, common_steps)

pub loop-n-init : goal.loop-n-init
loop-n-init c = sym (addresses-none c.args.trace.now)

pub loop-n-preserved : goal.loop-n-preserved
loop-n-preserved c =
    let t = c.args.trace.now in
    elim c.match-event.branch [
      | in-Some w ↦ count_more t c.loop-n.n c.loop-n.count c.match-event.count (Some w.in-Some.event) c.loop-n.invariant (sym w.in-Some.ensures) (w.count-is ∙ w.max-count.ensures ∙ greatest c.loop-n.count (w.in-Some.event.a + 1))
      | in_default w ↦ count_more t c.loop-n.n c.loop-n.count c.match-event.count None c.loop-n.invariant (sym c.event.ensures ∙ w.in_default.is)
          (let some = addresses-some t c.loop-n.n in let before = c.loop-n.invariant in let same = w.count-is in omega (arith, some, before, same))
    ]
