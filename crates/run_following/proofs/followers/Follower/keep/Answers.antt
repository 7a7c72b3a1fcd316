use Rattle.std.proofs.Common.{rules, ◌≡◌, ◌∙◌, ◌==◌, ◌++◌, ◌∷◌, [], ap, subst, sym, suc, IsTrue, unwrap_or, arith}
use Rattle.std.specs.List.{AllByRecursion, list_any}
use Rattle.std.proofs.lemmas.List.{length-append}
use Rattle.run_steps.proofs.NameFacts.{state_weaker}
use Rattle.run_following.specs.KeptLines.{IsKeptOf, has_kept, line_number}
use Rattle.run_lines.specs.PlacesSaid.{widths_after}
use Rattle.run_following.proofs.KeptFacts.{has_last, has_more, kept_added}
use Rattle.run_following.proofs.followers.Follower.keep.Goals as goal

pub returns-clause-follows : goal.returns-clause-follows
returns-clause-follows c account f follows =
    let old = c.args.self.now.kept in
    let said = c.args.said.now in
    let line = c.in_ok-keep.ensures.0 in
    let items = c.in_ok-keep.ensures.1 in
    let next : c.in_ok-number.number ≡ suc c.args.self.now.number = search rules in
    let number = c.in_ok-keep.ensures.2 ∙ next ∙ ap suc f.number in
    record {
      texts = subst (AllByRecursion (IsKeptOf (account.texts ++ c.args.line.now ∷ []))) (sym items) (kept_added account.texts c.args.line.now old.lines.items line f.texts number c.in_ok-keep.ensures.3);
      number = omega (arith, next, f.number, length-append account.texts (c.args.line.now ∷ []));
      widths = c.widths_after-self.ensures ∙ ap (λ w. widths_after w said) f.widths;
      stage = ap (λ o. unwrap_or o account.stage) (sym follows);
      model = f.model;
      state = f.state;
      names = state_weaker (has_kept old) (has_kept c.keep.new.self)
          (λ n there. subst (λ lines. IsTrue (list_any (λ line. line_number line == n) lines)) (sym items) (has_more old.lines.items line n there)) account.state f.names;
      tally = f.tally;
      noted = f.noted;
    }

pub returns-clause-kept : goal.returns-clause-kept
returns-clause-kept c =
    let number = c.in_ok-number.number in
    subst (λ lines. IsTrue (list_any (λ line. line_number line == number) lines)) (sym c.in_ok-keep.ensures.1)
    (has_last c.args.self.now.kept.lines.items c.in_ok-keep.ensures.0 number c.in_ok-keep.ensures.2)
