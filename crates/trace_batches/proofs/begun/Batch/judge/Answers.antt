use Rattle.std.proofs.Common.{◌∙◌, refl}
use Rattle.std.proofs.lemmas.Result.{on_ok_weaker}
use Rattle.trace_batches.proofs.WholeFacts.{none_of_text, text_judged, text_left, text_told, whatever}
use Rattle.trace_batches.proofs.begun.Batch.judge.Goals as goal

pub returns-in_err-label-clause-left : goal.returns-in_err-label-clause-left
returns-in_err-label-clause-left g c =
    whatever c.from_residual.result (none_of_text _ c.args.self.now (g.W.Write.contents c.args.writer.now) (g.E.Write.contents c.args.errors.now))

pub returns-in_err-tally-clause-left : goal.returns-in_err-tally-clause-left
returns-in_err-tally-clause-left g c =
    whatever c.from_residual-in_err-tally.result (text_left _ _ c.args.self.now
    (record { alloc = c.args.self.now.alloc; options = c.args.self.now.options; label = c.as_str.result; kept = c.args.self.now.tally.violations }) refl
    (c.as_str.ensures.value ∙ c.in_ok-label.ensures) refl _ _ _ _ c.in_err-tally.ensures.left)

pub returns-clause-judged : goal.returns-clause-judged
returns-clause-judged g c =
    on_ok_weaker c.add.result (λ added. text_judged _ _ c.args.self.now
    (record { alloc = c.args.self.now.alloc; options = c.args.self.now.options; label = c.as_str.result; kept = c.args.self.now.tally.violations }) refl
    (c.as_str.ensures.value ∙ c.in_ok-label.ensures) refl _ c.in_ok-tally.tally _ _ _ _ c.in_ok-tally.ensures.told refl refl added)
    c.add.ensures.added

pub returns-clause-left : goal.returns-clause-left
returns-clause-left g c =
    whatever c.add.result (text_told _ _ c.args.self.now
    (record { alloc = c.args.self.now.alloc; options = c.args.self.now.options; label = c.as_str.result; kept = c.args.self.now.tally.violations }) refl
    (c.as_str.ensures.value ∙ c.in_ok-label.ensures) refl c.in_ok-tally.tally _ _ _ _ c.in_ok-tally.ensures.told)
