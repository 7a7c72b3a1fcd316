use Rattle.run_serving.proofs.repeating.run_on.Goals as goal

pub returns : goal.returns
returns g c = record {
  recorded = c.in_ok-recorded.recorded;
  account = c.record_run.new.account;
  runs = rw c.requires.unit at c.in_ok-recorded.ensures.ran;
  is = c.in_ok-text.ensures;
}
