use Rattle.std.proofs.Common.{◌≡◌, ◌∙◌, ap, map, arith}
use Rattle.std.specs.List.{range_with_len}
use Rattle.tso_ops.specs.Values.{list_count}
use Rattle.final_states.specs.Internal.Words.{marked_ops, outcomes_with}
use Rattle.final_states.proofs.StateFacts.{lists-next, reads-next}
use Rattle.final_states.proofs.finals.lists_of.Goals as goal

pub loop-p-preserved : goal.loop-p-preserved
loop-p-preserved c = record {
  lists =
      lists-next c.args.program.now c.args.words.now c.loop-p.p c.loop-p.lists.items _ c.in_ok-outcomes_of.field-0 c.ops-ops.result.now c.marks_at-marks.result.now c.loop-p.invariant.lists c.in_ok-push.ensures.items
      c.in_ok-outcomes_of.ensures.outcomes c.ops-ops.ensures c.marks_at-marks.ensures.marks;
  reads = reads-next c.loop-p.lists.items _ c.in_ok-outcomes_of.field-0 c.loop-p.invariant.reads c.in_ok-push.ensures.items c.in_ok-outcomes_of.ensures.reads;
}

pub returns-clause-lists : goal.returns-clause-lists
returns-clause-lists c =
    let end : c.loop-p.p ≡ list_count c.args.program.now = omega (arith, c.processors-p-end.ensures.count) in
    c.loop-p.invariant.lists ∙ ap (λ n. map (λ p. outcomes_with (marked_ops c.args.program.now c.args.words.now p)) (range_with_len 0 n)) end
