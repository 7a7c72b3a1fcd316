use Rattle.std.proofs.Common.{◌∙◌, ◌+◌, sym, ap, slice_set, arith}
use Rattle.final_states.proofs.MoveFacts.{slot-within, written-none, written-some}
use Rattle.final_states.proofs.moves.write.Goals as goal

pub overflow_add-at : goal.overflow_add-at
overflow_add-at c =
    omega (arith, slot-within c.args.program.now c.args.plan.now c.args.words.now.items c.args.a c.in-Some.slot c.requires.width (sym c.in-Some.ensures), c.memory_at.ensures)

pub index_mut-requires : goal.index_mut-requires
index_mut-requires c =
    omega (arith, slot-within c.args.program.now c.args.plan.now c.args.words.now.items c.args.a c.in-Some.slot c.requires.width (sym c.in-Some.ensures), c.memory_at.ensures)

pub returns-in-Some : goal.returns-in-Some
returns-in-Some c =
    ap (λ n. slice_set c.args.words.now.items (n + c.in-Some.slot) c.args.v) c.memory_at.ensures
    ∙ written-some c.args.program.now c.args.plan.now.addresses.items c.args.words.now.items c.args.a c.args.v c.in-Some.slot (sym c.in-Some.ensures)

pub returns-in_default : goal.returns-in_default
returns-in_default c = written-none c.args.program.now c.args.plan.now.addresses.items c.args.words.now.items c.args.a c.args.v (sym c.in_default.ensures)
