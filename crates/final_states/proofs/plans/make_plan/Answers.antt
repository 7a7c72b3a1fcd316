use Rattle.std.proofs.lemmas.Result.{err_from_is_err_and}
use Rattle.std.proofs.Common.{subst, List, ℕ}
use Rattle.final_states.specs.Internal.Plans.{AreSlots}
use Rattle.final_states.proofs.PlanFacts.{plan-of}
use Rattle.final_states.proofs.plans.make_plan.Goals as goal

pub returns : goal.returns
returns c =
    plan-of c.args.program.now _ c.in_ok-starts.ensures.kept c.in_ok-addresses.ensures
    (subst (λ (xs : List ℕ). AreSlots xs c.in_ok-slots.slots.items) c.deref.ensures.value c.in_ok-slots.ensures) c.in_ok-starts.ensures.starts

pub returns-in_err-starts : goal.returns-in_err-starts
returns-in_err-starts c = let p = err_from_is_err_and c.from_residual-in_err-starts.result c.from_residual-in_err-starts.ensures.1 in rw p.1 tt
