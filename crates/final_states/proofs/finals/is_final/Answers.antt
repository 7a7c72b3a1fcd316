use Rattle.std.proofs.Common.{◌≡◌, ◌∙◌, sym, ap, arith}
use Rattle.std.specs.List.{list_all, range_with_len}
use Rattle.tso_ops.specs.Values.{list_count}
use Rattle.final_states.specs.Internal.Words.{is_done}
use Rattle.final_states.proofs.StateFacts.{test-fails, tests-next}
use Rattle.final_states.proofs.finals.is_final.Goals as goal

pub returns-then-not-is_done : goal.returns-then-not-is_done
returns-then-not-is_done c =
    sym (test-fails (is_done c.args.program.now c.args.words.now) (list_count c.args.program.now) c.loop-p.p (omega (arith, c.processors-p-end.ensures.count)) (sym c.is_done.ensures ∙ c.if-not-is_done.true))

pub loop-p-preserved : goal.loop-p-preserved
loop-p-preserved c = tests-next (is_done c.args.program.now c.args.words.now) c.loop-p.p c.loop-p.invariant (sym c.is_done.ensures ∙ c.if-not-is_done.false)

pub returns : goal.returns
returns c =
    let end : list_count c.args.program.now ≡ c.loop-p.p = omega (arith, c.processors-p-end.ensures.count) in
    sym (ap (λ n. list_all (is_done c.args.program.now c.args.words.now) (range_with_len 0 n)) end ∙ c.loop-p.invariant)
