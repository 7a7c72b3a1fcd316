use Rattle.std.proofs.Common.{◌==◌, subst, sym, nat_eq, IsTrue}
use Rattle.std.specs.List.{AllByRecursion, list_any}
use Rattle.std.specs.HashSet.{contains}
use Rattle.run_steps.specs.Names.{StateNames}
use Rattle.run_following.specs.KeptLines.{IsKeptOf, has_kept, line_number}
use Rattle.run_following.proofs.KeptFacts.{each_filtered, has_named, state_both}
use Rattle.run_following.proofs.followers.Follower.forget.Goals as goal

pub returns-clause-follows : goal.returns-clause-follows
returns-clause-follows c account f =
    let old = c.args.self.now.kept in
    let numbers = contains nat_eq c.add_named_stores.new.names in
    let kept = c.keep_only.ensures in
    let named = subst (StateNames numbers) f.state c.in_ok-add_named_stores.ensures.named in
    record {
      texts = subst (AllByRecursion (IsKeptOf account.texts)) (sym kept) (each_filtered (IsKeptOf account.texts) (λ line. numbers (line_number line)) old.lines.items f.texts);
      number = f.number;
      widths = f.widths;
      stage = f.stage;
      model = f.model;
      state = f.state;
      names = state_both numbers (has_kept old) (has_kept c.keep_only.new.self)
          (λ n one there. subst (λ lines. IsTrue (list_any (λ line. line_number line == n) lines)) (sym kept) (has_named numbers old.lines.items n there one)) account.state named f.names;
      tally = f.tally;
      noted = f.noted;
    }
