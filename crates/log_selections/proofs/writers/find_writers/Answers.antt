use Rattle.std.proofs.Common.{◌≡◌, ◌∙◌, ap, arith, subst, length, sym, Some}
use Rattle.std.proofs.lemmas.Option.{slice_get-get_or}
use Rattle.std.specs.HashMap.{Updates}
use Rattle.log_selections.specs.Internal.Writers.{FindsWriters, same_written, with_store}
use Rattle.log_selections.proofs.WriterFacts.{writers-load, writers-store}
use Rattle.log_selections.proofs.writers.find_writers.Goals as goal
use Rattle.log_selections.proofs.writers.find_writers.Goals.{then-not-access+in_ok-insert, else-not-access}

pub loop-k-preserved : goal.loop-k-preserved
loop-k-preserved c =
    let at = slice_get-get_or c.args.accesses.now c.loop-k.k _ c.loop-k-test.true in
    elim c.if-not-access.branch [
      | then-not-access+in_ok-insert w ↦
          subst (FindsWriters c.args.accesses.now _) (sym w.writers-is)
          (writers-store _ _ _ c.loop-k.writers w.insert.new.self at w.if-not-access.true
          (subst (λ found. Updates same_written c.loop-k.writers w.insert.new.self _ (Some found)) (w.with_store-found.ensures ∙ ap (λ o. with_store o _) (w.copied.ensures ∙ w.get.ensures.value)) w.in_ok-insert.ensures.updates)
          c.loop-k.invariant)
      | else-not-access w ↦ subst (FindsWriters c.args.accesses.now _) (sym w.writers-is) (writers-load _ _ _ c.loop-k.writers at w.if-not-access.false c.loop-k.invariant)
    ]

pub returns : goal.returns
returns c =
    let end : c.loop-k.k ≡ length c.args.accesses.now = omega arith in
    subst (λ n. FindsWriters c.args.accesses.now n c.loop-k.writers) end c.loop-k.invariant
