use Rattle.std.proofs.Common.{◌∙◌, ap, map}
use Rattle.run_following.specs.Facts.{told_value}
use Rattle.run_following.specs.Found.{waiting_in}
use Rattle.run_following.proofs.followers.Follower.found.Goals as goal

pub returns : goal.returns
returns c account f = record {
  counts = f.tally.counts_all;
  waiting = c.in_ok-waiting.ensures ∙ ap (λ s. waiting_in s.processors) f.state;
  compared = f.tally.compared_one;
  refusals = f.noted.total;
  told_first = ap (λ first. map told_value first.items) c.replace.ensures.value ∙ f.noted.first;
}
