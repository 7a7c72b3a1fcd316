use Rattle.std.proofs.Common.{◌∙◌, ap, [], ◌∷◌, ◌++◌, List, append_assoc, replicate, arith}
use Rattle.std.proofs.lemmas.List.{replicate_more}
use Rattle.unit_core.specs.declared.steps.Step.{Step}
use Rattle.unit_core.specs.declared.steps.Step.TheVariants.{Drain}
use Rattle.unit_core.proofs.histories.History.push_after_drains.Goals as goal

pub loop-done-preserved : goal.loop-done-preserved
loop-done-preserved c =
    let old = c.loop-done.invariant in
    let before = c.args.self.now.steps in
    let drains = replicate c.loop-done._done (Drain c.args.p) in
    record {
      steps = c.push_reserved.ensures.steps ∙ ap (λ (steps : List Step). steps ++ Drain c.args.p ∷ []) old.steps ∙ append_assoc before drains (Drain c.args.p ∷ [])
          ∙ ap (λ (more : List Step). before ++ more) (replicate_more c.loop-done._done (Drain c.args.p));
      first = c.push_reserved.ensures.first ∙ old.first;
      room = omega arith;
    }
