-- Lemmas on what a follower holds after a line.
use Rattle.std.proofs.Common.{◌≡◌, ◌∙◌, ◌||◌, ◌++◌, ◌∷◌, [], ap, subst, not, map, IsTrue, List}
use Rattle.tso_ops.specs.declared.settings.Order.{Order}
use Rattle.run_steps.specs.declared.refusals.Comparison.{Comparison}
use Rattle.run_steps.specs.declared.steps.RunLine.{RunLine}
use Rattle.run_steps.specs.Machine.{MachineState, line_comparison, line_refusals}
use Rattle.run_steps.specs.Names.{StateNames}
use Rattle.run_steps.specs.Reads.{RefusalValue}
use Rattle.run_steps.proofs.NameFacts.{refused}
use Rattle.run_following.specs.Accounts.{Account}
use Rattle.run_following.specs.Counts.{counted_with}
use Rattle.run_following.specs.Facts.{told}
use Rattle.run_following.specs.KeptLines.{AreKept, has_kept, kept_text, text_at}
use Rattle.run_following.specs.Noted.{AreNoted}
use Rattle.run_following.specs.Tallies.{Tallies, has_acted, is_compared}
use Rattle.run_following.specs.declared.kept_lines.KeptLines.{KeptLines}
use Rattle.run_following.specs.declared.noted.NotedRefusals.{NotedRefusals}
use Rattle.run_following.specs.declared.tallies.Tally.{Tally}
use Rattle.run_following.proofs.KeptFacts.{told_all_same}

-- the comparison that was made is the line's
pub tallied_alike : (line : RunLine) (account : Account) (tally : Tally) (made : Comparison) → made ≡ line_comparison line account.state →
    Tallies tally (account.steps ++ line ∷ []) (counted_with (not (has_acted account.steps line.processor)) line.step made account.counts) (account.compared || is_compared made) →
    Tallies tally (account.steps ++ line ∷ []) (counted_with (not (has_acted account.steps line.processor)) line.step (line_comparison line account.state) account.counts)
    (account.compared || is_compared (line_comparison line account.state))
tallied_alike line account tally made is tallies =
    subst (λ k. Tallies tally (account.steps ++ line ∷ []) (counted_with (not (has_acted account.steps line.processor)) line.step k account.counts) (account.compared || is_compared k)) is tallies

-- the refusals that were found are the line's, and what is told of them is what the text says
pub refused_alike : (line : RunLine) (account : Account) (noted : NotedRefusals) (kept : KeptLines) (found : List RefusalValue) {model : Order} {state : MachineState} → found ≡ line_refusals model line state →
    model ≡ account.model → state ≡ account.state → AreKept kept account.texts → StateNames (has_kept kept) account.state → IsTrue (has_kept kept line.number) →
    AreNoted noted (account.refusals ++ map (told (kept_text kept) line.number) found) →
    AreNoted noted (account.refusals ++ map (told (text_at account.texts) line.number) (line_refusals account.model line account.state))
refused_alike line account noted kept found {state = state} is same_model same_state are names own noted_so =
    let line_is = is ∙ ap (λ m. line_refusals m line state) same_model ∙ ap (line_refusals account.model line) same_state in
    let there = subst (λ rs. AreNoted noted (account.refusals ++ map (told (kept_text kept) line.number) rs)) line_is noted_so in
    subst (λ ts. AreNoted noted (account.refusals ++ ts))
    (told_all_same kept account.texts are line.number (line_refusals account.model line account.state) own (refused (has_kept kept) account.model line account.state names)) there
