use Rattle.std.proofs.Common.{IfSome, [], sym, subst, arith}
use Rattle.std.proofs.lemmas.List.{length-map}
use Rattle.std.specs.Global.{Vec}
use Rattle.log_text.specs.declared.logs.LoggedOperation.{LoggedOperation}
use Rattle.tso_ops.specs.Values.{rows}
use Rattle.log_selections.specs.Cuts.{AreCutFrom, no_more}
use Rattle.log_selections.specs.Internal.Keeping.{IsKeptOf}
use Rattle.log_selections.proofs.KeepingFacts.{list_left_out, lists_step}
use Rattle.log_selections.proofs.keeping.keep_lists.Goals as goal

pub loop-p-init : goal.loop-p-init
loop-p-init c none numbered =
    subst (λ ys. AreCutFrom c.args.addresses.now 1 [] (rows ys) c.args.origins.now.items) (sym c.new-outcomes.ensures.items)
    (subst (AreCutFrom c.args.addresses.now 1 [] []) (sym none) (no_more 1))

pub loop-p-preserved-in_default-get : goal.loop-p-preserved-in_default-get
loop-p-preserved-in_default-get c none numbered =
    list_left_out c.args.addresses.now (rows c.args.lists.now) c.loop-p.p (rows c.loop-p.outcomes.items) c.loop-p.origins.items (omega (arith, length-map c.args.lists.now (λ (row : Vec LoggedOperation). row.items))) (c.loop-p.invariant none numbered)

pub loop-p-preserved-then-is_empty : goal.loop-p-preserved-then-is_empty
loop-p-preserved-then-is_empty c none numbered =
    list_left_out c.args.addresses.now (rows c.args.lists.now) c.loop-p.p (rows c.loop-p.outcomes.items) c.loop-p.origins.items (omega (arith, length-map c.args.lists.now (λ (row : Vec LoggedOperation). row.items))) (c.loop-p.invariant none numbered)

pub loop-p-preserved : goal.loop-p-preserved
loop-p-preserved c none numbered =
    lists_step c.args.addresses.now c.args.numbers.now c.args.lists.now c.loop-p.p _ _ _ _ _ _ c.loop-p.outcomes.items c.in-Some-2.row _ c.loop-p.origins.items _
    c.in-Some.ensures.lookup.0 c.loop-p-test.true c.in-Some.ensures.lookup.1 c.index-lists-p.is c.deref-in-loop-p.ensures.value c.deref.ensures.value numbered
    (subst (λ found. IfSome found (λ outcomes. IsKeptOf c.args.addresses.now c.deref-in-loop-p.result.now c.deref.result.now c.loop-p.origins.items c.keep_list.new.origins.items outcomes.items)) c.in-Some-2.is c.in_ok-row.ensures) c.in_ok-push-in-Some-2.ensures.items (c.loop-p.invariant none numbered)
