-- How a run ends.
use Rattle.std.specs.Prelude.{◌≡◌, ℕ, List, [], Option, None, Some}
use Rattle.std.specs.Io.KnownBytes.{Consumes}
use Rattle.request_options.specs.declared.following.FollowOptions.{FollowOptions}
use Rattle.text_streams.specs.Readings.{ReadsAs}
use Rattle.tso_text.specs.declared.faults.TextFault.{TextFault}
use Rattle.run_following.specs.Accounts.{Account, Follows}
use Rattle.run_following.specs.Internal.Streams.{StandsAt}
use Rattle.run_following.specs.Runs.{IsFollowed, IsRunRefusal}
use Rattle.run_following.specs.declared.reports.Ending.{Ending}
use Rattle.run_following.specs.declared.streams.RunStream.{RunStream}
use Rattle.run_following.specs.declared.streams.Stop.{Stop}
use Rattle.run_following.specs.declared.streams.Stop.TheVariants.{Refused, Told}

-- a stream holds what is followed of a text, or the text is refused for this
abbrev pub EndsText : FollowOptions → RunStream → Option TextFault → List ℕ → Type 0
EndsText options stream None text = (account : Account) × Follows stream.follower account × IsFollowed options.needs_end options.is_fast text account
EndsText options stream (Some fault) text = IsRunRefusal options.needs_end options.is_fast text fault.line fault.why

-- the same of the bytes of a reader
abbrev pub IsEnding : FollowOptions → Option (List ℕ) → Ending → Type 0
IsEnding options remaining ending = ReadsAs remaining (λ bytes. EndsText options ending.stream ending.refused bytes)

-- the refusal of a text that a line ends, if it is one
abbrev pub refusal_of_stop : Stop → Option TextFault
refusal_of_stop (Refused fault) = Some fault
refusal_of_stop Told = None

-- A stream has followed all bytes that a reader gave.
pub record HasFollowed (options : FollowOptions) (remaining now : Option (List ℕ)) (stream : RunStream) : Type 0 where
  pub bytes : List ℕ
  pub taken : Consumes remaining now bytes
  pub stands : StandsAt stream bytes []
  pub fast : stream.is_fast ≡ options.is_fast
  pub most : stream.follower.noted.most ≡ options.most
