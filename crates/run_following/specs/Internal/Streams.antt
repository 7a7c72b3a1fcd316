-- What a stream has followed of some bytes.
use Rattle.std.specs.Prelude.{◌≡◌, ◌≢◌, ◌⊎◌, ℕ, suc, ◌==◌, Bool, true, false, List, [], ◌∷◌, ◌++◌, length, Option, None, Some}
use Rattle.std.specs.List.{list_any}
use Rattle.line_text.specs.Lines.{parts_of}
use Rattle.tso_text.specs.declared.faults.TextFault.{TextFault}
use Rattle.tso_text.specs.declared.faults.Why.TheVariants.{BadLine}
use Rattle.run_following.specs.Accounts.{Account, Follows, IsAccepted, IsRefusedFor}
use Rattle.run_following.specs.Runs.{IsOfLines}
use Rattle.run_following.specs.declared.stages.Stage.TheVariants.{Ended}
use Rattle.run_following.specs.declared.streams.RunStream.{RunStream}
use Rattle.run_following.specs.declared.streams.Stop.{Stop}
use Rattle.run_following.specs.declared.streams.Stop.TheVariants.{Refused, Told}

-- a line ends among the bytes
abbrev pub has_line_end : List ℕ → Bool
has_line_end bytes = list_any (λ b. b == 10) bytes

-- The bytes are these lines, each with its line end.
abbrev pub AreCut : List ℕ → List (List ℕ) → Type 0
AreCut bytes lines = (more : List ℕ) → parts_of (bytes ++ more) ≡ lines ++ parts_of more

-- The stream has followed these bytes but for the rest; what it has of a line that hasn't ended comes before that.
pub record StandsAt (stream : RunStream) (bytes rest : List ℕ) : Type 0 where
  pub account : Account
  pub done : List ℕ
  pub follows : Follows stream.follower account
  pub leads : IsOfLines account
  pub cut : AreCut done account.texts
  pub whole : bytes ≡ done ++ stream.pending.items ++ rest
  pub unended : has_line_end stream.pending.items ≡ false
  pub clean : stream.is_fast ≡ true → account.refusals ≡ []

-- what follows the lines that lead to an account: a line that is refused, or nothing, as the last of them is no step
abbrev pub IsStop : RunStream → Account → List ℕ → Stop → Type 0
IsStop new account line (Refused fault) = IsRefusedFor account line fault.why × (fault.line ≡ suc (length account.texts))
IsStop new account line Told = (new.is_fast ≡ true) × ((next : Account) × IsAccepted account line next × Follows new.follower next × (next.refusals ≢ []))

-- a line is followed, or ends the run
abbrev pub IsTaken : RunStream → Account → List ℕ → Option Stop → Type 0
IsTaken new account line None =
    (next : Account) × IsAccepted account line next × Follows new.follower next × (new.pending.items ≡ []) × (new.is_fast ≡ true → next.refusals ≡ [])
IsTaken new account line (Some stop) = IsStop new account line stop

-- The bytes begin with the lines that lead to an account, and the next line ends the run.
pub record EndsAt (new : RunStream) (bytes : List ℕ) (stop : Stop) : Type 0 where
  pub account : Account
  pub done : List ℕ
  pub line : List ℕ
  pub rest : List ℕ
  pub leads : IsOfLines account
  pub cut : AreCut done account.texts
  pub whole : bytes ≡ done ++ line ++ 10 ∷ rest
  pub unended : has_line_end line ≡ false
  pub clean : new.is_fast ≡ true → account.refusals ≡ []
  pub stops : IsStop new account line stop

-- all bytes are followed, or a line ends the run
abbrev pub StopsAfter : RunStream → List ℕ → Option Stop → Type 0
StopsAfter new bytes None = StandsAt new bytes []
StopsAfter new bytes (Some stop) = EndsAt new bytes stop

-- at the end of a run: it is whole, or this refuses it
abbrev pub IsCutOff : RunStream → Account → Bool → Option TextFault → Type 0
IsCutOff stream account needs_end None = (stream.pending.items ≡ []) × (needs_end ≡ true → account.stage ≡ Ended)
IsCutOff stream account needs_end (Some fault) =
    ((stream.pending.items ≢ []) ⊎ ((needs_end ≡ true) × (account.stage ≢ Ended))) × (fault.why ≡ BadLine) × (fault.line ≡ suc (length account.texts))
