use Rattle.std.proofs.Common.{◌∙◌, ap, subst, ◌+◌, ◌-◌, ◌<◌, ◌∷◌, [], get_or, length, replicate, arith}
use Rattle.std.proofs.lemmas.List.{replicate-append-replicate, get_or-set_same, get_or-set_other}
use Rattle.tso_ops.specs.Values.{ops_at}
use Rattle.tso_ops.specs.declared.acts.Act.TheVariants.{Issue}
use Rattle.unit_core.specs.Internal.Replays.{FollowsActs}
use Rattle.unit_core.proofs.ReplayFacts.{FollowsActs-then}
use Rattle.unit_core.proofs.replays.issue_rest.Goals as goal

pub loop-next-preserved : goal.loop-next-preserved
loop-next-preserved g c =
    let before = c.loop-next.invariant in
    let p = c.args.p in
    let n = c.loop-next._next in
    let first = get_or c.args.issued.now p 0 in
    let low : n < length (ops_at c.args.program.now p) = (let test = c.loop-next-test.true in omega (arith, ap length c.ops-next-end.ensures)) in
    let counted = c.in_ok-issue_next.ensures.counted (omega (arith, before.at, low)) in
    let within : p < length c.loop-next.issued = (let below = c.requires.processor in omega (arith, before.issued.counts, c.processors-processors.ensures.kept.processors)) in
    record {
      start = omega (arith, before.start);
      at = rw counted (get_or-set_same c.loop-next.issued p (get_or c.loop-next.issued p 0 + 1) 0 within ∙ omega (arith, before.at));
      others = λ q other. rw counted (get_or-set_other c.loop-next.issued p q (get_or c.loop-next.issued p 0 + 1) 0 other ∙ before.others q other);
      issued = c.issue_next.ensures.issued;
      follows = subst
          (λ acts. FollowsActs c.args.program.now acts c.args.issued.now c.issue_next.new.issued (g.U.MemoryUnit.value_of c.args.unit.now) (g.U.MemoryUnit.value_of c.issue_next.new.unit))
          (replicate-append-replicate (n - first) 1 (Issue p) ∙ ap (λ k. replicate k (Issue p)) (omega (arith, before.start)))
          (FollowsActs-then c.args.program.now (replicate (n - first) (Issue p)) (Issue p ∷ []) c.args.issued.now c.loop-next.issued c.issue_next.new.issued
          (g.U.MemoryUnit.value_of c.args.unit.now) (g.U.MemoryUnit.value_of c.loop-next.unit) (g.U.MemoryUnit.value_of c.issue_next.new.unit) before.follows
          c.in_ok-issue_next.ensures.follows);
    }
