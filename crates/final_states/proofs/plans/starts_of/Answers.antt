use Rattle.std.proofs.Common.{◌∙◌, ◌+◌, sym, ap, length, slice_index, arith}
use Rattle.std.proofs.lemmas.List.{length_push}
use Rattle.final_states.specs.Internal.Words.{start_of}
use Rattle.final_states.proofs.PlanFacts.{start-first, start-next, start-small, starts-more}
use Rattle.final_states.proofs.plans.starts_of.Goals as goal

pub loop-p-init : goal.loop-p-init
loop-p-init c = record {
  count = ap length c.new-starts.ensures.items;
  each = λ k small. absurd (omega arith);
  start = sym (start-first c.args.program.now.lists);
  kept = c.processors-p-end.ensures.kept;
}

pub overflow_add-start-in-loop-p : goal.overflow_add-start-in-loop-p
overflow_add-start-in-loop-p c =
    let next = start-next c.args.program.now.lists c.loop-p.p (omega arith) in
    omega (arith, next, start-small c.args.program.now (c.loop-p.p + 1) c.loop-p.invariant.kept, c.loop-p.invariant.start, ap length c.ops.ensures)

pub loop-p-preserved : goal.loop-p-preserved
loop-p-preserved c =
    let lists = c.args.program.now.lists in
    let pushed = c.in_ok-push.ensures.items in
    record {
      count = ap length pushed ∙ length_push c.loop-p.starts.items c.loop-p.start ∙ ap (λ n. n + 1) c.loop-p.invariant.count;
      each = λ k small.
          ap (λ xs. slice_index xs k) pushed
          ∙ starts-more lists c.loop-p.starts.items c.loop-p.p c.loop-p.start c.loop-p.invariant.count c.loop-p.invariant.each c.loop-p.invariant.start k small;
      start =
          ap (λ n. n + (1 + length c.ops.result.now)) c.loop-p.invariant.start ∙ ap (λ ops. start_of lists c.loop-p.p + (1 + length ops)) c.ops.ensures
          ∙ start-next lists c.loop-p.p (omega arith);
      kept = c.loop-p.invariant.kept;
    }
