-- The runs that texts spell, and how texts are refused.
use Rattle.std.specs.Prelude.{◌≡◌, ◌≢◌, ◌⊎◌, ◌≤◌, ℕ, suc, Bool, true, List, [], ◌∷◌, ◌++◌, length, Option}
use Rattle.std.specs.Io.KnownBytes.{Consumes}
use Rattle.line_text.specs.Lines.{parts_of}
use Rattle.tso_text.specs.declared.faults.Why.{Why}
use Rattle.tso_text.specs.declared.faults.Why.TheVariants.{BadLine}
use Rattle.run_following.specs.Accounts.{Account, IsAccepted, IsRefusedFor, account_at_start}
use Rattle.run_following.specs.declared.stages.Stage.TheVariants.{Ended}

-- The lines may follow one after the other, and lead from one account to another.
abbrev pub LeadsTo : Account → List (List ℕ) → Account → Type 0
LeadsTo from [] to = from ≡ to
LeadsTo from (line ∷ lines) to = (next : Account) × IsAccepted from line next × LeadsTo next lines to

-- The account is that of its lines.
abbrev pub IsOfLines : Account → Type 0
IsOfLines account = LeadsTo account_at_start account.texts account

-- The text spells a run: it consists of lines, each with its line end, which may follow one after the other; the last of them is `end`, where that is needed.
pub record SpellsRun (needs_end : Bool) (text : List ℕ) (account : Account) : Type 0 where
  pub whole : parts_of text ≡ account.texts ++ [] ∷ []
  pub leads : IsOfLines account
  pub ended : needs_end ≡ true → account.stage ≡ Ended

-- The text begins with the lines of a run of which the last is the first that is no step.
pub record BeginsRefused (text : List ℕ) (account : Account) : Type 0 where
  pub before : Account
  pub line : List ℕ
  pub rest : List ℕ
  pub whole : parts_of text ≡ account.texts ++ parts_of rest
  pub leads : IsOfLines before
  pub clean : before.refusals ≡ []
  pub accepted : IsAccepted before line account
  pub refused : account.refusals ≢ []

-- What is followed of a text: the run that it spells, or, where the first line that is no step ends it, its lines up to that one.
abbrev pub IsFollowed : Bool → Bool → List ℕ → Account → Type 0
IsFollowed needs_end is_fast text account =
    (SpellsRun needs_end text account × (is_fast ≡ true → account.refusals ≡ [])) ⊎ ((is_fast ≡ true) × BeginsRefused text account)

-- No line that ends within the bytes ends the run: they are lines that may follow one another, each a step where the first that is none ends the run, and
-- the beginning of a line.
pub record GoesOn (is_fast : Bool) (bytes : List ℕ) : Type 0 where
  pub account : Account
  pub begun : List ℕ
  pub whole : parts_of bytes ≡ account.texts ++ begun ∷ []
  pub leads : IsOfLines account
  pub clean : is_fast ≡ true → account.refusals ≡ []

-- What was taken of a reader's bytes: the run goes on after all but the last of them, of which one call of `read` gave at most 65,536.
abbrev pub IsTakenInTime : Bool → Option (List ℕ) → Option (List ℕ) → Type 0
IsTakenInTime is_fast remaining now = (before : List ℕ) × (last : List ℕ) × Consumes remaining now (before ++ last) × GoesOn is_fast before × (length last ≤ 65536)

-- A part of a text is refused after these lines: it may not follow, or it is the last part and no line end follows it, or none of the lines is an `end` that the text needs.
abbrev pub IsRunPartRefused : Bool → Account → List ℕ → List (List ℕ) → Why → Type 0
IsRunPartRefused needs_end before part [] why = ((part ≢ []) ⊎ ((needs_end ≡ true) × (before.stage ≢ Ended))) × (why ≡ BadLine)
IsRunPartRefused needs_end before part (next ∷ after) why = IsRefusedFor before part why

-- The refusal of a text: its first line with a fault, counted from 1, and that fault. Where an `end` is needed and missing, the line after all others has it.
pub record IsRunRefusal (needs_end is_fast : Bool) (text : List ℕ) (line : ℕ) (why : Why) : Type 0 where
  pub before : Account
  pub part : List ℕ
  pub after : List (List ℕ)
  pub whole : parts_of text ≡ before.texts ++ part ∷ after
  pub leads : IsOfLines before
  pub clean : is_fast ≡ true → before.refusals ≡ []
  pub is : line ≡ suc (length before.texts)
  pub fault : IsRunPartRefused needs_end before part after why
