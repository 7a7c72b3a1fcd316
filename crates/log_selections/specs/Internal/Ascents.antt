-- How far lines that ascend have come.
use Rattle.std.specs.Prelude.{◌≤◌, ℕ}
use Rattle.log_selections.specs.declared.shown.Shown.{Shown}

-- its line isn't above this one
abbrev pub IsUpTo : ℕ → Shown → Type 0
IsUpTo line s = s.logged.line ≤ line
