use Rattle.std.proofs.Common.{[], ◌∷◌, ap, length, arith}
use Rattle.std.proofs.lemmas.List.{length-append}
use Rattle.unit_core.specs.declared.steps.Step.TheVariants.{Stbar}
use Rattle.unit_kinds.proofs.PartialFacts.{IsPartialUnit-step, stbars-le}
use Rattle.unit_kinds.proofs.partial.PartialOrderUnitMemoryUnit.stbar.Goals as goal

pub count_stbar-requires-clause-countable : goal.count_stbar-requires-clause-countable
count_stbar-requires-clause-countable c =
    let u = c.self.inside in
    omega (arith, stbars-le u.history.steps u.history.first u.parts.state c.args.p c.self.invariant, c.in_ok-append.ensures.countable, ap length c.in_ok-append.ensures.steps, length-append u.history.steps (Stbar c.args.p ∷ []))

pub invariant_of-self-2 : goal.invariant_of-self-2
invariant_of-self-2 c =
    let u = c.self.inside in
    rw (c.in_ok-append.ensures.steps, c.in_ok-append.ensures.first, c.count_stbar.ensures)
    (IsPartialUnit-step u.history.steps u.history.first u.parts.state (Stbar c.args.p) c.self.invariant c.requires.processor)
