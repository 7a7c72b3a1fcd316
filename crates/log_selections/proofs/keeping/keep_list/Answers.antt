use Rattle.std.proofs.Common.{[], sym, subst, arith}
use Rattle.std.proofs.lemmas.List.{append-nil}
use Rattle.log_selections.specs.Cuts.{IsCutFrom, ended}
use Rattle.log_selections.proofs.KeepingFacts.{below, kept_step, skip_all}
use Rattle.log_selections.proofs.keeping.keep_list.Goals as goal

pub loop-kept-init : goal.loop-kept-init
loop-kept-init c =
    (omega arith, λ n numbered. ([], subst (λ ys. IsCutFrom c.args.addresses.now n [] ys []) (sym c.new-outcomes.ensures.items) (ended n), sym (append-nil c.args.origins.now.items)))

pub loop-kept-preserved : goal.loop-kept-preserved
loop-kept-preserved c = (
  below _ _ c.in-Some-Some.ensures.lookup.0,
  kept_step c.args.addresses.now c.args.numbers.now c.args.list.now c.loop-kept.next _ _ _ _ _ _ _ _ c.args.origins.now.items c.loop-kept.origins.items _ _ c.if-kept-next.false
      c.in-Some-Some.ensures.lookup.0 c.in-Some-Some.ensures.lookup.1 c.in-Some-Some.ensures'.lookup.1 c.in-Some.ensures c.in_ok-push.ensures.items c.in_ok-push_origins.ensures c.loop-kept.invariant.1,
)

pub returns : goal.returns
returns c n numbered =
    let before = c.loop-kept.invariant.1 n numbered in
    (before.0, skip_all c.args.addresses.now n c.args.list.now c.loop-kept.next c.loop-kept.outcomes.items before.0 c.loop-kept.invariant.0 before.1, before.2)
