-- Lemmas on what is printed of a run that is followed.
use Rattle.std.proofs.Common.{ℕ, List}
use Rattle.std.specs.Prelude.{Option}
use Rattle.request_options.specs.declared.following.FollowOptions.{FollowOptions}
use Rattle.trace_reports.specs.declared.answers.Answer.{Answer}
use Rattle.run_following.specs.Reports.{IsRunReport}
use Rattle.request_serving.specs.Endings.{IsFollowedRun}
use Rattle.request_serving.specs.Presentations.{followed_as, run_refused_in}
use Rattle.request_texts.specs.OpenedFiles.{HasKnown}
use Rattle.request_texts.proofs.KnownFacts.{known_reads}

-- a run of which less may be known than its reader has
pub followed_of_known : (options : FollowOptions) (known remaining : Option (List ℕ)) → HasKnown known remaining → (text : List ℕ) (answer : Answer) →
    IsFollowedRun options remaining text answer → IsFollowedRun options known text answer
followed_of_known options known remaining has text answer = known_reads known remaining has (λ bytes. IsRunReport (followed_as options) (run_refused_in options.format) options bytes text answer)
