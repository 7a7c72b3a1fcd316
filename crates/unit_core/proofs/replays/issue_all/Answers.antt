use Rattle.std.proofs.Common.{◌≡◌, ◌∙◌, ap, subst, ◌-◌, ◌<◌, inl, inr, length, take, replicate, arith}
use Rattle.std.proofs.lemmas.Bool.{cases_eq}
use Rattle.tso_ops.specs.Values.{ops_at}
use Rattle.tso_ops.specs.declared.acts.Act.TheVariants.{Issue}
use Rattle.unit_core.specs.Internal.Replays.{FollowsActs, left_from, rest_of}
use Rattle.unit_core.specs.Schedule.{issues_of}
use Rattle.unit_core.proofs.ReplayFacts.{FollowsActs-then, rests-next}
use Rattle.unit_core.proofs.replays.issue_all.Goals as goal

pub loop-p-preserved : goal.loop-p-preserved
loop-p-preserved g c =
    let before = c.loop-p.invariant in
    let p = c.loop-p.p in
    let program = c.args.program.now in
    let done = c.in_ok-issue_rest.ensures.all in
    let below : p < length program.lists = (let test = c.loop-p-test.true in omega (arith, c.processors-p-end.ensures.count)) in
    let same : rest_of program c.loop-p.issued p ≡ rest_of program c.args.issued.now p =
    ap (λ n. replicate (length (ops_at program p) - n) (Issue p)) (before.later p (omega arith)) in
    record {
      earlier = λ q low. elim (cases_eq q p) [
        | inl e ↦ rw e done.all
        | inr other ↦ done.others q other ∙ before.earlier q (omega (arith, other))
      ];
      later = λ q high. done.others q (λ e. absurd (omega (arith, e))) ∙ before.later q (omega arith);
      issued = c.issue_rest.ensures.issued;
      follows = rw (rests-next program c.args.issued.now p below)
          (FollowsActs-then program (issues_of 0 (left_from 0 c.args.issued.now (take p program.lists))) (rest_of program c.args.issued.now p) c.args.issued.now c.loop-p.issued
          c.issue_rest.new.issued (g.U.MemoryUnit.value_of c.args.unit.now) (g.U.MemoryUnit.value_of c.loop-p.unit) (g.U.MemoryUnit.value_of c.issue_rest.new.unit)
          before.follows
          (subst (λ acts. FollowsActs program acts c.loop-p.issued c.issue_rest.new.issued (g.U.MemoryUnit.value_of c.loop-p.unit) (g.U.MemoryUnit.value_of c.issue_rest.new.unit)) same
          c.in_ok-issue_rest.ensures.follows));
    }
