use Rattle.std.proofs.Common.{◌∙◌, ◌+◌, sym, ap, slice_index, arith}
use Rattle.final_states.proofs.MoveFacts.{slot-within, value-none, value-some}
use Rattle.final_states.proofs.moves.value_at.Goals as goal

pub overflow_add-at : goal.overflow_add-at
overflow_add-at c =
    omega (arith, slot-within c.args.program.now c.args.plan.now c.args.words.now c.args.a c.in-Some.slot c.requires.width (sym c.in-Some.ensures), c.memory_at.ensures)

pub offset_bounds-words-at : goal.offset_bounds-words-at
offset_bounds-words-at c =
    omega (arith, slot-within c.args.program.now c.args.plan.now c.args.words.now c.args.a c.in-Some.slot c.requires.width (sym c.in-Some.ensures), c.memory_at.ensures)

pub bounds-words-at : goal.bounds-words-at
bounds-words-at c =
    omega (arith, slot-within c.args.program.now c.args.plan.now c.args.words.now c.args.a c.in-Some.slot c.requires.width (sym c.in-Some.ensures), c.memory_at.ensures)

pub returns-in-Some : goal.returns-in-Some
returns-in-Some c =
    ap (λ n. slice_index c.args.words.now (n + c.in-Some.slot)) c.memory_at.ensures
    ∙ value-some c.args.program.now c.args.plan.now.addresses.items c.args.words.now c.args.a c.in-Some.slot (sym c.in-Some.ensures)

pub returns-in-None : goal.returns-in-None
returns-in-None c = c.first.ensures ∙ value-none c.args.program.now c.args.plan.now.addresses.items c.args.words.now c.args.a (sym c.in-None.ensures)
