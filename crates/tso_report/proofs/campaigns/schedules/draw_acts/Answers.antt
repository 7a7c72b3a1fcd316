use Rattle.std.proofs.Common.{◌∙◌, ap, map, sym}
use Rattle.rand_core.specs.Stream.{next_u64}
use Rattle.drawn_programs.proofs.WordFacts.{after_words-none, after_words-more}
use Rattle.tso_report.specs.DrawnSchedules.{act_of_word}
use Rattle.tso_report.proofs.DrawnScheduleFacts.{drawn-more, words_of-none}
use Rattle.tso_report.proofs.campaigns.schedules.draw_acts.Goals as goal

pub loop-init : goal.loop-init
loop-init g c = record {
  acts = c.new-acts.ensures.items ∙ ap (map (act_of_word c.args.processors c.args.weight)) (sym (words_of-none _));
  left = sym (after_words-none _);
}

pub loop-preserved : goal.loop-preserved
loop-preserved g c =
    let s = g.R.Rng.stream c.args.words.now in
    let rest = g.R.Rng.stream c.loop.words in
    let draw = act_of_word c.args.processors c.args.weight in
    record {
      acts = rw c.in_ok-push.ensures.items
          (drawn-more draw c.loop.counter s rest c.loop.acts.items c.act_of_word.result c.loop.invariant.acts c.loop.invariant.left (c.act_of_word.ensures ∙ ap (λ answer. draw answer.0) c.next_u64.ensures));
      left = ap (λ answer. answer.1) c.next_u64.ensures ∙ ap (λ t. (next_u64 t).1) c.loop.invariant.left ∙ sym (after_words-more c.loop.counter s);
    }
