use Rattle.std.proofs.Common.{◌∙◌, sym, ap, arith}
use Rattle.std.specs.List.{list_any}
use Rattle.final_states.specs.FinalStates.{stores_to}
use Rattle.final_states.proofs.PlanFacts.{any-here, any-next, any-none}
use Rattle.final_states.proofs.plans.is_stored.Goals as goal

pub returns-then-has_store_to : goal.returns-then-has_store_to
returns-then-has_store_to c =
    sym (any-here (stores_to c.args.a) c.args.program.now.lists c.loop-p.p (ap (list_any (stores_to c.args.a)) (sym c.ops.ensures) ∙ sym c.has_store_to.ensures ∙ c.if-has_store_to.true))

pub loop-p-preserved : goal.loop-p-preserved
loop-p-preserved c =
    any-next (stores_to c.args.a) c.args.program.now.lists c.loop-p.p (omega arith) c.loop-p.invariant
    ∙ ap (list_any (stores_to c.args.a)) (sym c.ops.ensures) ∙ sym c.has_store_to.ensures ∙ c.if-has_store_to.false

pub returns : goal.returns
returns c = sym (sym (any-none (stores_to c.args.a) c.args.program.now.lists c.loop-p.p (omega arith)) ∙ c.loop-p.invariant)
