use Rattle.std.proofs.Common.{◌∙◌, ap}
use Rattle.run_steps.specs.Machine.{presetting}
use Rattle.run_steps.proofs.NameFacts.{preset}
use Rattle.run_following.specs.KeptLines.{has_kept}
use Rattle.run_following.proofs.followers.Follower.follow.Goals as goal

pub returns-in_ok-preset-in-First-clause-follows : goal.returns-in_ok-preset-in-First-clause-follows
returns-in_ok-preset-in-First-clause-follows c account f =
    let place = c.in-First.place in
    let v = c.in-First.value in
    let set = c.in_ok-preset-in-First.ensures in
    rw c.in-First.is (record {
      texts = f.texts;
      number = f.number;
      widths = f.widths;
      stage = f.stage;
      model = set.others.0 ∙ f.model;
      state = set.state ∙ ap (presetting place v) f.state;
      names = preset (has_kept c.args.self.now.kept) place v account.state f.names;
      tally = f.tally;
      noted = f.noted;
    })
