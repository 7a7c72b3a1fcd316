use Rattle.std.proofs.Common.{◌∙◌, ap, sym}
use Rattle.rand_core.specs.Stream.{next_u64}
use Rattle.drawn_programs.proofs.WordFacts.{after_words-none, after_words-more}
use Rattle.tso_report.proofs.campaigns.schedules.skip_words.Goals as goal

pub loop-init : goal.loop-init
loop-init g c = sym (after_words-none _)

pub loop-preserved : goal.loop-preserved
loop-preserved g c =
    ap (λ answer. answer.1) c.next_u64.ensures ∙ ap (λ rest. (next_u64 rest).1) c.loop.invariant ∙ sym (after_words-more c.loop.counter (g.R.Rng.stream c.args.words.now))
