use Rattle.std.proofs.Common.{◌∙◌, ◌+◌, sym, ap, nat_lt, take, arith}
use Rattle.std.specs.List.{zip}
use Rattle.final_states.specs.Internal.Words.{passes_all, stbars_in, waiting}
use Rattle.final_states.proofs.BufferScans.{cells-all, not-passed, pass-more, seen-more, stbars-most}
use Rattle.std.proofs.lemmas.List.{length-take}
use Rattle.final_states.proofs.buffers.may_pass.Goals as goal

pub loop-i-preserved : goal.loop-i-preserved
loop-i-preserved c = record {
  seen =
      ap (λ n. n + c.stbars_of-seen.result) c.loop-i.invariant.seen ∙ ap (λ n. stbars_in (take c.loop-i.i (zip c.args.ops.now c.args.marks.now)) + n) c.stbars_of-seen.ensures.is
      ∙ sym (seen-more c.args.ops.now c.args.marks.now c.loop-i.i _ c.loop-i-test.true c.requires);
  passed =
      pass-more c.args.order c.args.a c.args.stbars c.args.ops.now c.args.marks.now c.loop-i.i _ c.loop-i-test.true c.requires c.loop-i.invariant.passed
      ∙ sym (c.may_pass_one.ensures c.args.stbars _ (ap (λ n. nat_lt n c.args.stbars) c.loop-i.invariant.seen)) ∙ c.if-not-may_pass_one.false;
}

pub returns-then-not-may_pass_one : goal.returns-then-not-may_pass_one
returns-then-not-may_pass_one c =
    sym (not-passed c.args.order c.args.a c.args.stbars (zip c.args.ops.now c.args.marks.now) _
    (pass-more c.args.order c.args.a c.args.stbars c.args.ops.now c.args.marks.now c.loop-i.i _ c.loop-i-test.true c.requires c.loop-i.invariant.passed
    ∙ sym (c.may_pass_one.ensures c.args.stbars _ (ap (λ n. nat_lt n c.args.stbars) c.loop-i.invariant.seen)) ∙ c.if-not-may_pass_one.true))

pub overflow_add-seen : goal.overflow_add-seen
overflow_add-seen c =
    let before = take c.loop-i.i (zip c.args.ops.now c.args.marks.now) in
    omega (arith, c.loop-i.invariant.seen, stbars-most before, length-take c.loop-i.i (zip c.args.ops.now c.args.marks.now), c.stbars_of-seen.ensures.most)

pub returns : goal.returns
returns c =
    sym (ap (λ cells. passes_all c.args.order (waiting 0 cells) c.args.a c.args.stbars) (sym (cells-all c.args.ops.now c.args.marks.now c.loop-i.i (omega arith))) ∙ c.loop-i.invariant.passed)
