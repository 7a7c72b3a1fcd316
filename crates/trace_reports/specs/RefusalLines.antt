-- The line of a refusal, of a trace, a program, a schedule or a log.
use Rattle.std.specs.Prelude.{ℕ, List, [], ◌∷◌, ◌++◌, codes}
use Rattle.std.specs.Fmt.{decimal}
use Rattle.tso_text.specs.declared.faults.Why.{Why}
use Rattle.tso_text.specs.RefusalNames.{refusal_name}

-- its name, and the line of the text
abbrev pub refusal_text : ℕ → Why → List ℕ
refusal_text line why = codes "REFUSED " ++ refusal_name why ++ codes " line " ++ decimal line ++ 10 ∷ []
