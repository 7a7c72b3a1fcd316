use Rattle.std.proofs.Common.{◌∙◌, ◌+◌, sym, ap, cond, Some, None, ℕ, length, set, arith}
use Rattle.std.proofs.lemmas.List.{length-take}
use Rattle.tso_ops.specs.declared.ops.Op.TheVariants.{Ld}
use Rattle.unit_core.specs.Machine.{Entry}
use Rattle.final_states.specs.Internal.Words.{after_drain}
use Rattle.final_states.proofs.MoveFacts.{drain-after, drain-passes, drain-range, drain-room, no-drain}
use Rattle.final_states.proofs.moves.drained.Goals as goal

pub bounds-marks-i : goal.bounds-marks-i
bounds-marks-i c = omega (arith, c.marks_at-marks.ensures.count)

pub returns-in_default : goal.returns-in_default
returns-in_default c =
    no-drain c.args.program.now c.args.plan.now c.args.words.now c.args.p c.args.i c.count_at-count.result c.ops-ops.result.now c.marks_at-marks.result.now (Ld 0) c.requires.width c.requires.p c.ops-ops.ensures
    (omega (arith, c.requires.i, ap length c.ops-ops.ensures)) c.marks_at-marks.ensures.marks c.count_at-count.ensures c.if-i-count.false c.in_default.ensures

pub may_pass-requires : goal.may_pass-requires
may_pass-requires c = omega (arith, length-take c.args.i c.ops-ops.result.now, c.marks_at-marks.ensures.count)

pub returns-then-not-may_pass : goal.returns-then-not-may_pass
returns-then-not-may_pass c =
    let pair : ℕ × ℕ = (c.in-Some.a, c.in-Some.v) in
    let e : Entry = record { a = c.in-Some.a; v = c.in-Some.v; stbars = c.count_stbars.result } in
    ap (λ b. cond b (Some (after_drain c.args.program.now c.args.plan.now.addresses.items c.args.words.now c.args.p c.args.i e)) None) (sym c.if-not-may_pass.true)
    ∙ drain-passes c.args.program.now c.args.plan.now c.args.words.now c.args.p c.args.i c.count_at-count.result c.ops-ops.result.now c.marks_at-marks.result.now (Ld 0) c.requires.width c.requires.p c.ops-ops.ensures
    (omega (arith, c.requires.i, ap length c.ops-ops.ensures)) c.marks_at-marks.ensures.marks c.count_at-count.ensures c.if-i-count.false c.order.result pair c.count_stbars.result c.may_pass.result
    c.order.ensures c.in-Some.ensures c.count_stbars.ensures c.may_pass.ensures

pub index_mut-requires : goal.index_mut-requires
index_mut-requires c =
    omega (arith, drain-room c.args.program.now c.args.plan.now c.args.words.now c.args.p c.start_at.result c.args.i c.requires.width c.requires.p c.start_at.ensures c.requires.i, c.in_ok-next.ensures.len)

pub write-requires-clause-a : goal.write-requires-clause-a
write-requires-clause-a c =
    drain-range c.args.program.now c.args.plan.now c.args.words.now c.args.p c.args.i c.count_at-count.result c.ops-ops.result.now c.marks_at-marks.result.now (Ld 0) c.requires.width c.requires.p c.ops-ops.ensures
    (omega (arith, c.requires.i, ap length c.ops-ops.ensures)) c.marks_at-marks.ensures.marks c.count_at-count.ensures c.if-i-count.false c.requires.plan (c.in-Some.a, c.in-Some.v) c.in-Some.ensures

pub returns : goal.returns
returns c =
    let pair : ℕ × ℕ = (c.in-Some.a, c.in-Some.v) in
    let e : Entry = record { a = c.in-Some.a; v = c.in-Some.v; stbars = c.count_stbars.result } in
    drain-after c.args.program.now c.args.plan.now.addresses.items c.args.words.now c.args.p c.args.i c.start_at.result c.in-Some.a c.in-Some.v c.count_stbars.result _ _ _
    c.start_at.ensures (ap (λ ws. set ws (c.start_at.result + 1 + c.args.i) 1) c.in_ok-next.ensures.items) c.write.ensures
    (ap (λ b. cond b (Some (after_drain c.args.program.now c.args.plan.now.addresses.items c.args.words.now c.args.p c.args.i e)) None) (sym c.if-not-may_pass.false)
    ∙ drain-passes c.args.program.now c.args.plan.now c.args.words.now c.args.p c.args.i c.count_at-count.result c.ops-ops.result.now c.marks_at-marks.result.now (Ld 0) c.requires.width c.requires.p c.ops-ops.ensures
    (omega (arith, c.requires.i, ap length c.ops-ops.ensures)) c.marks_at-marks.ensures.marks c.count_at-count.ensures c.if-i-count.false c.order.result pair c.count_stbars.result c.may_pass.result
    c.order.ensures c.in-Some.ensures c.count_stbars.ensures c.may_pass.ensures)
