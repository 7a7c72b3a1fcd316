use Rattle.std.proofs.Common.{◌≡◌, arith, subst, length, sym}
use Rattle.std.proofs.lemmas.Option.{slice_get-get_or}
use Rattle.tso_ops.specs.Internal.Tables.{FindsStores}
use Rattle.tso_ops.proofs.TableFacts.{FindsStores-none, FindsStores-load, FindsStores-store}
use Rattle.tso_ops.proofs.tables.stores_by_value.Goals as goal
use Rattle.tso_ops.proofs.tables.stores_by_value.Goals.{then-not-event+in_ok-insert, else-not-event}

pub loop-k-init : goal.loop-k-init
loop-k-init c = FindsStores-none _ c.new-stores.result c.new-stores.ensures.empty

pub loop-k-preserved : goal.loop-k-preserved
loop-k-preserved c =
    let at = slice_get-get_or c.args.events.now c.loop-k.k _ c.loop-k-test.true in
    elim c.if-not-event.branch [
      | then-not-event+in_ok-insert w ↦ subst (FindsStores _ _) (sym w.stores-is)
          (FindsStores-store _ _ _ c.loop-k.stores w.insert.new.self at w.if-not-event.true w.in_ok-insert.ensures.updates c.loop-k.invariant)
      | else-not-event w ↦ subst (FindsStores _ _) (sym w.stores-is) (FindsStores-load _ _ _ c.loop-k.stores at w.if-not-event.false c.loop-k.invariant)
    ]

pub returns : goal.returns
returns c =
    let end : c.loop-k.k ≡ length c.args.events.now = omega arith in
    subst (λ n. FindsStores c.args.events.now n c.loop-k.stores) end c.loop-k.invariant
