use Rattle.std.proofs.Common.{◌∙◌}
use Rattle.trace_batches.proofs.WholeFacts.{end_none, end_noted, end_some, end_told, end_whole, whatever}
use Rattle.trace_batches.proofs.begun.Batch.end.Goals as goal

pub returns-in_err-line-clause-left : goal.returns-in_err-line-clause-left
returns-in_err-line-clause-left g c = whatever c.from_residual.result (end_none c.args.self (g.W.Write.contents c.args.writer.now) (g.E.Write.contents c.args.errors.now))

pub returns-in_err-write_line-clause-left : goal.returns-in_err-write_line-clause-left
returns-in_err-write_line-clause-left g c =
    whatever c.from_residual-in_err-write_line.result
    (end_some c.args.self c.as_bytes.result.now c.judged-count.result (g.W.Write.contents c.args.writer.now) (g.W.Write.contents c.write_line.new.writer) (g.E.Write.contents c.args.errors.now)
    (g.E.Write.contents c.write_line.new.errors) (g.E.Write.contents c.write_line.new.errors) (g.E.Write.contents c.write_line.new.errors) c.last_format.result c.last_format.ensures
    (c.as_bytes.ensures.value ∙ c.in_ok-line.ensures) c.judged-count.ensures c.in_err-write_line.ensures.prefix c.in_err-write_line.ensures.some)

pub returns-in_err-write_few-clause-left : goal.returns-in_err-write_few-clause-left
returns-in_err-write_few-clause-left g c =
    whatever c.from_residual-in_err-write_few.result
    (end_noted c.args.self c.as_bytes.result.now c.judged-count.result (g.W.Write.contents c.args.writer.now) (g.W.Write.contents c.write_line.new.writer) (g.E.Write.contents c.args.errors.now)
    (g.E.Write.contents c.write_line.new.errors) (g.E.Write.contents c.write_few.new.errors) (g.E.Write.contents c.write_few.new.errors) c.last_format.result c.last_format.ensures
    (c.as_bytes.ensures.value ∙ c.in_ok-line.ensures) c.judged-count.ensures c.in_ok-write_line.ensures.whole c.in_ok-write_line.ensures.noted c.in_err-write_few.ensures.prefix)

pub returns-in_err-write_fault-clause-left : goal.returns-in_err-write_fault-clause-left
returns-in_err-write_fault-clause-left g c =
    whatever c.from_residual-in_err-write_fault.result
    (end_told c.args.self c.as_bytes.result.now c.judged-count.result (g.W.Write.contents c.args.writer.now) (g.W.Write.contents c.write_line.new.writer) (g.E.Write.contents c.args.errors.now)
    (g.E.Write.contents c.write_line.new.errors) (g.E.Write.contents c.write_few.new.errors) (g.E.Write.contents c.write_fault.new.errors) c.last_format.result c.last_format.ensures
    (c.as_bytes.ensures.value ∙ c.in_ok-line.ensures) c.judged-count.ensures c.in_ok-write_line.ensures.whole c.in_ok-write_line.ensures.noted c.in_ok-write_few.ensures.whole
    c.in_err-write_fault.ensures.prefix)

pub returns-clause-ended : goal.returns-clause-ended
returns-clause-ended g c =
    end_whole c.args.self c.as_bytes.result.now c.judged-count.result (g.W.Write.contents c.args.writer.now) (g.W.Write.contents c.write_line.new.writer) (g.E.Write.contents c.args.errors.now)
    (g.E.Write.contents c.write_line.new.errors) (g.E.Write.contents c.write_few.new.errors) (g.E.Write.contents c.write_fault.new.errors) c.last_format.result c.last_format.ensures
    (c.as_bytes.ensures.value ∙ c.in_ok-line.ensures) c.judged-count.ensures c.verdict.result c.in_ok-write_line.ensures.whole c.in_ok-write_line.ensures.noted c.in_ok-write_few.ensures.whole
    c.in_ok-write_fault.ensures.whole c.verdict.ensures
