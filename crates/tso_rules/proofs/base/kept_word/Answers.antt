use Rattle.std.proofs.Common.{◌∙◌, sym}
use Rattle.tso_rules.proofs.BaseFacts.{kept_under_tso, kept_under_pso}
use Rattle.tso_rules.proofs.base.kept_word.Goals as goal

pub returns-in-Tso : goal.returns-in-Tso
returns-in-Tso c = λ k low.
    kept_under_tso c.args.trace.now c.args.event c.all_store_words.result.now c.args.j c.word_at.result k low (sym c.order.ensures ∙ c.in-Tso.is) c.all_store_words.ensures c.word_at.ensures

pub returns-in-Pso : goal.returns-in-Pso
returns-in-Pso c = λ k low.
    kept_under_pso c.args.trace.now c.args.event c.store_words.result.now c.args.j c.word_at-in-Pso.result k low (sym c.order.ensures ∙ c.in-Pso.is) c.store_words.ensures
    c.word_at-in-Pso.ensures
