-- The report on a run: what is printed for its text, and what that answers.
use Rattle.std.specs.Prelude.{◌≡◌, ◌⊎◌, ℕ, List, [], Option}
use Rattle.request_options.specs.declared.following.FollowOptions.{FollowOptions}
use Rattle.text_streams.specs.Readings.{ReadsAs}
use Rattle.trace_reports.specs.Renderings.{RendersRefusal}
use Rattle.trace_reports.specs.declared.answers.Answer.{Answer}
use Rattle.trace_reports.specs.declared.answers.Answer.TheVariants.{Refused}
use Rattle.tso_text.specs.declared.faults.Why.{Why}
use Rattle.run_following.specs.Accounts.{Account}
use Rattle.run_following.specs.Found.{IsFoundIn, run_answer}
use Rattle.run_following.specs.Runs.{IsFollowed, IsRunRefusal}
use Rattle.run_following.specs.declared.found.RunFound.{RunFound}

-- what is rendered of what is found of a run
abbrev pub RendersRun : Type 0
RendersRun = RunFound → List ℕ

-- The text is rendered of what is found of these lines.
pub record IsReportOfRun (renders : RendersRun) (most : ℕ) (account : Account) (text : List ℕ) (answer : Answer) : Type 0 where
  pub found : RunFound
  pub is : IsFoundIn most account found
  pub says : text ≡ renders found
  pub gives : answer ≡ run_answer found

-- The text is rendered of the refusal of these bytes: they spell no run, or lack the line `end` that is needed.
pub record IsRefusalOfRun (refused : RendersRefusal) (options : FollowOptions) (bytes text : List ℕ) (answer : Answer) : Type 0 where
  pub line : ℕ
  pub why : Why
  pub is : IsRunRefusal options.needs_end options.is_fast bytes line why
  pub says : text ≡ refused [] line why
  pub gives : answer ≡ Refused

-- The text is the report on the run that these bytes spell, or refuses them.
abbrev pub IsRunReport : RendersRun → RendersRefusal → FollowOptions → List ℕ → List ℕ → Answer → Type 0
IsRunReport renders refused options bytes text answer =
    ((account : Account) × IsFollowed options.needs_end options.is_fast bytes account × IsReportOfRun renders options.most account text answer)
    ⊎ IsRefusalOfRun refused options bytes text answer

-- the same of the bytes of a reader
abbrev pub IsRunReportOfReader : RendersRun → RendersRefusal → FollowOptions → Option (List ℕ) → List ℕ → Answer → Type 0
IsRunReportOfReader renders refused options remaining text answer = ReadsAs remaining (λ bytes. IsRunReport renders refused options bytes text answer)
