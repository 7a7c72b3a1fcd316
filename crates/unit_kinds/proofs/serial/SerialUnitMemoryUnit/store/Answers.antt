use Rattle.std.proofs.Common.{◌≡◌, ◌∙◌, ap, [], ◌∷◌, ◌++◌, List, append_assoc}
use Rattle.unit_core.specs.declared.steps.Step.{Step}
use Rattle.unit_core.specs.declared.steps.Step.TheVariants.{Store, Drain}
use Rattle.unit_kinds.proofs.SerialFacts.{IsSerial-store}
use Rattle.unit_kinds.proofs.serial.SerialUnitMemoryUnit.store.Goals as goal
use Rattle.unit_kinds.proofs.serial.SerialUnitMemoryUnit.store.Goals.{After-push_reserved-2}

-- the steps after the call
both : (c : After-push_reserved-2) → c.push_reserved-2.new.self.steps ≡ c.self.inside.history.steps ++ (Store c.args.p c.args.a c.args.v ∷ (Drain c.args.p ∷ []))
both c =
    let store = Store c.args.p c.args.a c.args.v in
    let drain = Drain c.args.p in
    c.push_reserved-2.ensures.steps
    ∙ ap (λ (steps : List Step). steps ++ drain ∷ []) (c.push_reserved.ensures.steps ∙ ap (λ (steps : List Step). steps ++ store ∷ []) c.in_ok-reserve.ensures.steps)
    ∙ append_assoc c.self.inside.history.steps (store ∷ []) (drain ∷ [])

pub invariant_of-self-2 : goal.invariant_of-self-2
invariant_of-self-2 c =
    let u = c.self.inside in
    let first = c.push_reserved-2.ensures.first ∙ c.push_reserved.ensures.first ∙ c.in_ok-reserve.ensures.first in
    rw (both c, first) (IsSerial-store u.history.steps u.history.first u.memory.items c.args.p c.args.a c.args.v c.requires.processor c.requires.address c.self.invariant)
