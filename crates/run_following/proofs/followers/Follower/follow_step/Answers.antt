use Rattle.std.proofs.Common.{◌∙◌, ◌++◌, ap, map, subst}
use Rattle.std.proofs.lemmas.Result.{on_ok_weaker}
use Rattle.run_steps.specs.Machine.{line_comparison, line_refusals, model_of, state_after_line, state_of_machine}
use Rattle.run_steps.specs.Reads.{refusal_of}
use Rattle.run_steps.proofs.NameFacts.{after}
use Rattle.run_following.specs.Facts.{told}
use Rattle.run_following.specs.KeptLines.{has_kept, kept_text}
use Rattle.run_following.specs.Noted.{AreNoted}
use Rattle.run_following.proofs.FollowFacts.{refused_alike, tallied_alike}
use Rattle.run_following.proofs.followers.Follower.follow_step.Goals as goal

pub returns-clause-follows : goal.returns-clause-follows
returns-clause-follows c =
    let line = c.args.line in
    let step = c.in_ok-comparison.ensures in
    let kept = c.args.self.now.kept in
    on_ok_weaker c.note_all.result (λ noted account f. record {
      texts = f.texts;
      number = f.number;
      widths = f.widths;
      stage = f.stage;
      model = step.model ∙ f.model;
      state = step.after ∙ ap (state_after_line line) f.state;
      names = after (has_kept kept) line account.state c.requires.kept f.names;
      tally = tallied_alike line account _ _ (step.compared ∙ ap (line_comparison line) f.state) (c.in_ok-count.ensures.counted account.steps account.counts account.compared f.tally);
      noted = refused_alike line account _ kept _ (step.refused ∙ ap (λ rs. map refusal_of rs ++ line_refusals (model_of c.args.self.now.machine) line (state_of_machine c.args.self.now.machine)) c.new-refusals.ensures.items)
          f.model f.state f.texts f.names c.requires.kept (subst (λ found. AreNoted c.note_all.new.self (account.refusals ++ map (told (kept_text kept) line.number) (map refusal_of found))) c.deref.ensures.value (noted account.refusals f.noted));
    }) c.note_all.ensures.noted
