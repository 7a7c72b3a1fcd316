-- What a follower answers of the next line.
use Rattle.std.specs.Prelude.{◌≡◌, ℕ, List, Option, None, Some}
use Rattle.tso_text.specs.declared.faults.Why.{Why}
use Rattle.run_lines.specs.declared.lines.RunText.{RunText}
use Rattle.run_following.specs.Accounts.{Account, Follows, IsAccepted, IsRefusedFor, said_fault, with_line}
use Rattle.run_following.specs.declared.followers.Follower.{Follower}

-- nothing where it goes on, and then it holds what the lines say with it; else why it is refused
abbrev pub IsAnswered : Account → List ℕ → Follower → Option Why → Type 0
IsAnswered account line new None = (next : Account) × IsAccepted account line next × Follows new next
IsAnswered account line new (Some why) = IsRefusedFor account line why

-- the same of a line that says this
abbrev pub IsAnsweredSaid : Account → List ℕ → RunText → Follower → Option Why → Type 0
IsAnsweredSaid account line said new None = (said_fault account said ≡ None) × Follows new (with_line account line said)
IsAnsweredSaid account line said new (Some why) = said_fault account said ≡ Some why
